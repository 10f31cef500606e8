-- Laws about a reading of partners that keeps a mark: the turns, one partner after the other, give what their form gives.
-- They stand for whoever reads so; the reader itself goes by `Filled` and `Turned`; MarkedFilledLaws leads from what its contracts say to these.
use Rattle.std.specs.Prelude.{◌≡◌, Bool, true, false, List, [], ◌∷◌, map, leb, Option}
use Rattle.std.proofs.Math.Path.{refl, ap}
use Rattle.std.proofs.Common.{sym, ◌∙◌, add-one}
use Prim.Native.Nat.{ℕ, suc, ◌+◌, ◌-◌, ◌≤◌, ◌<◌}
use Rattle.formats.specs.Format.{Res, got, bad, bind}
use Rattle.formats.specs.Combine.{map_parse}
use Rattle.formats.specs.Items.{items_parse}
use Rattle.formats.specs.Rising.{rise}
use Rattle.formats.proofs.RunLaws.{run_only, run-fail}
use Rattle.formats.proofs.MarksLaws.{Parsed}
use Rattle.kinds.specs.declared.Kind.{Kind}
use Rattle.message.specs.Contents.{TimeSeries, Partner, number}
use Rattle.message.specs.Valid.{month_of}
use Rattle.message.specs.Months.{after}
use Rattle.message.proofs.PartnerForm.{partner_form}
use Rattle.message.specs.Months.{next_months}
use Rattle.message.proofs.FileForm.{partners_form}
use Rattle.formats.proofs.MarksLaws.{keep}
use Rattle.series_reader.proofs.MarkedItemsLaws.{run-same, viewed, view-bad, view-only, fold_parse, fold_end, fold-bad, fold_step}
use Rattle.series_reader.proofs.MarkedReadingInner.{folded}
use Rattle.series_reader.proofs.MarkedSeriesInner.{counting}
use Rattle.reader.proofs.MarkedPartnersInner.{partner_kept, partner_item, adding}

-- ---- one more partner

-- what the one behind it is read with
abbrev pub partner_onto : Kind → ℕ × (ℕ × ℕ) → Partner → ℕ × (ℕ × ℕ)
partner_onto k = rise (partner_form k) number next_months

pub next-partner : (k : Kind) (low : ℕ) (t : (ℕ × ℕ) × ℕ) (s : List ℕ) (m r : Option ℕ) (v : ℕ × ((ℕ × ℕ) × ℕ)) → Parsed (map_parse (partner_kept t) (partner_form k t.0).parse) s m r v
    → Parsed (map_parse (partner_kept t) (partner_item k (low, t.0)).parse) s m (keep (leb low v.0) r) v
next-partner k low t s m r v h = go (leb low v.0) refl
  where
    go : (b : Bool) → leb low v.0 ≡ b → Parsed (map_parse (partner_kept t) (partner_item k (low, t.0)).parse) s m (keep b r) v
    go true e = record { run = run-same (λ q. view-only (partner_kept t) (partner_form k t.0).parse q (λ v. leb low v.0)) (run_only (λ v. leb low v.0) h.run e); within = h.within }
    go false e = record { run = run-same (λ q. view-only (partner_kept t) (partner_form k t.0).parse q (λ v. leb low v.0)) (run-fail (λ v. leb low v.0) h.run e); within = tt }

-- ---- so many partners

pub months-folded : (t : (ℕ × ℕ) × ℕ) (l : List TimeSeries) → after t.0 (map month_of l) ≡ (folded counting t l).0
unfolding after folded
months-folded t [] = refl
months-folded t (s ∷ l) = months-folded (counting t s) l

-- what is kept of n partners, from number low on
module _ (k : Kind) where
  unfoldable pub partners_kept : ℕ → ℕ → (ℕ × ℕ) × ℕ → List ℕ → Res ((ℕ × ℕ) × ℕ)
  partners_kept n low t s = fold_parse (partner_item k) (partner_onto k) adding n (low, t.0) t s

  pub partners-start : (n : ℕ) (s : List ℕ) → map_parse (folded adding ((0, 0), 0)) (partners_form k n).parse s ≡ partners_kept n 0 ((0, 0), 0) s
  unfolding partners_kept partners_form fold_parse map_parse
  partners-start n s = go (items_parse (partner_item k) (partner_onto k) n (0, (0, 0)) s)
    where
      go : (y : Res (List Partner)) → bind (bind y (λ l q. got l q)) (λ l q. got (folded adding ((0, 0), 0) l) q) ≡ bind y (λ l q. got (folded adding ((0, 0), 0) l) q)
      go bad = refl
      go (got l q) = refl

  module _ (n i low : ℕ) (t : (ℕ × ℕ) × ℕ) (s : List ℕ) where
    pub partners-end : n ≤ i → partners_kept (n - i) low t s ≡ got t s
    unfolding partners_kept
    partners-end h = fold_end (partner_item k) (partner_onto k) adding n i (low, t.0) t s h

    pub partners-bad : i < n → map_parse (partner_kept t) (partner_item k (low, t.0)).parse s ≡ bad → partners_kept (n - i) low t s ≡ bad
    unfolding partners_kept
    partners-bad h e = fold-bad (partner_item k) (partner_onto k) adding n i (low, t.0) t s h (view-bad (partner_kept t) (partner_item k (low, t.0)).parse s e)

    pub partners-step : (v : ℕ × ((ℕ × ℕ) × ℕ)) (r : List ℕ) → i < n → map_parse (partner_kept t) (partner_item k (low, t.0)).parse s ≡ got v r
        → partners_kept (n - i) low t s ≡ partners_kept (n - (i + 1)) (v.0 + 1) v.1 r
    unfolding partners_kept
    partners-step v r h e =
        let a = viewed (partner_kept t) (partner_item k (low, t.0)).parse s v r e in
        let p = a.0 in
        fold_step (partner_item k) (partner_onto k) adding n i (low, t.0) t s p r h a.1.0
        ∙ ap (λ (q : ℕ × ℕ). fold_parse (partner_item k) (partner_onto k) adding (n - (i + 1)) (suc p.number, q) (folded counting t p.series) r) (months-folded t p.series)
        ∙ ap (λ (w : ℕ × ((ℕ × ℕ) × ℕ)). fold_parse (partner_item k) (partner_onto k) adding (n - (i + 1)) (suc w.0, w.1.0) w.1 r) a.1.1
        ∙ ap (λ (l : ℕ). fold_parse (partner_item k) (partner_onto k) adding (n - (i + 1)) (l, v.1.0) v.1 r) (sym (add-one v.0))
