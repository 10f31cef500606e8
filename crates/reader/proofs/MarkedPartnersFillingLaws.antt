-- Laws about a reading of partners that keeps a mark and fills rows: partners, each behind the other, fill them, and these are the file's.
-- They stand for whoever reads so; the reader itself goes by `Filled`; MarkedFilledLaws leads from what its contracts say to these.
use Rattle.std.specs.Prelude.{◌≡◌, refl, leb, length, drop, Option, Some}
use Rattle.std.proofs.Common.{sym, ap, ap₂, ◌∙◌, length-append, add-one, arith}
use Rattle.std.proofs.Math.Path.{subst}
use mathlib.Core.List.{List, [], ◌∷◌, ◌++◌, map, flat_map, map-append}
use Prim.Native.Nat.{ℕ, suc, ◌+◌, ◌-◌, ◌≤◌, ◌<◌}
use Rattle.formats.specs.Format.{Res, got, bad}
use Rattle.formats.specs.Combine.{strip, map_parse}
use Rattle.formats.specs.Items.{items_parse}
use Rattle.formats.proofs.ItemsLaws.{items-bad}
use Rattle.formats.proofs.RunLaws.{run-map}
use Rattle.formats.proofs.MarksLaws.{Parsed}
use Rattle.kinds.specs.declared.Kind.{Kind}
use Rattle.message.specs.Contents.{Observation, TimeSeries, Partner}
use Rattle.message.specs.Bytes.{closing, group}
use Rattle.message.specs.Rows.{Row, rows_of, series_rows}
use Rattle.message.specs.Group.{spread}
use Rattle.message.proofs.PartnerForm.{partner_form}
use Rattle.message.proofs.FileForm.{partners_form}
use Rattle.series_reader.proofs.MarkedItemsLaws.{viewed, view-bad, unview}
use Rattle.series_reader.proofs.MarkedReadingInner.{folded}
use Rattle.series_reader.proofs.MarkedSeriesInner.{counting, list_form}
use Rattle.reader.proofs.MarkedPartnerLaws.{Head, head_parse, partner-seen}
use Rattle.reader.proofs.MarkedPartnersInner.{numbered, partner_kept, partner_item}
use Rattle.reader.proofs.MarkedPartnersLaws.{partner_onto, months-folded}
use Rattle.series_reader.proofs.MarkedFillingInner.{Fills, rows_of_series, rows_of_partner}
use Rattle.series_reader.specs.RowsInner.{rows_of_observation}
use Rattle.series_reader.proofs.MarkedFillingLaws.{fills-view, fills-only, fills-bad, fills-within, fills-none, fills-step}
use Rattle.series_reader.proofs.MarkedSeriesFillingLaws.{fills-all, rows-each}

-- ---- a partner

pub partner-fills : (kind : Kind) (t : (ℕ × ℕ) × ℕ) (s : List ℕ) (m a b c : Option ℕ) (h : Head) (v : (ℕ × ℕ) × ℕ) {k : ℕ} {d o : List ℕ} → Parsed (head_parse kind) s m a h
    → Parsed (map_parse (folded counting t) (list_form kind h.1.0 h.1.1 t.0).parse) s a b v → Parsed (strip (closing (group kind))) s b c tt
    → Fills (list_form kind h.1.0 h.1.1 t.0).parse (flat_map (rows_of_series h.0)) s a k d o → Fills (partner_form kind t.0).parse rows_of_partner s m k d o
partner-fills kind t s m a b c h v i j tag fills =
    let list = (list_form kind h.1.0 h.1.1 t.0).parse in
    let u = unview (folded counting t) [] list s a b v j in
    let same : Parsed (map_parse (λ l. l) list) s a b u.value = record { run = run-map (λ l. l) u.parsed.run; within = u.parsed.within } in
    fills-view (numbered (λ l. l)) (λ p. flat_map (rows_of_series p.0) p.1)
    (fills-within list (map_parse (numbered (λ l. l)) (partner_form kind t.0).parse) (λ p. flat_map (rows_of_series p.0) p.1) (closing (group kind)) u.value (h.0, u.value)
    fills (partner-seen kind t.0 (λ l. l) s m a b c h u.value i same tag) u.parsed tag (λ q e. refl))

pub next-partner-fills : (kind : Kind) (low : ℕ) (seen : ℕ × ℕ) {R : Partner → List Row} {s : List ℕ} {m : Option ℕ} {k : ℕ} {d o : List ℕ} → Fills (partner_form kind seen).parse R s m k d o
    → Fills (partner_item kind (low, seen)).parse R s m k d o
next-partner-fills kind low seen i = fills-only (λ p. leb low p.number) i

-- ---- partners, behind each other

-- the count of their rows
tally-rows : (partner : ℕ) (t : (ℕ × ℕ) × ℕ) (l : List TimeSeries) → (folded counting t l).1 ≡ t.1 + length (flat_map (rows_of_series partner) l)
unfolding folded flat_map
tally-rows partner t [] = omega arith
tally-rows partner t (x ∷ l) =
    omega (arith, tally-rows partner (counting t x) l, length-append (rows_of_series partner x) (flat_map (rows_of_series partner) l), rows-each partner (x.supply, x.delivery) x.observations)

-- n partners from number low on
module _ (kind : Kind) where
  unfoldable pub partners_from : ℕ → ℕ → ℕ × ℕ → List ℕ → Res (List Partner)
  partners_from n low seen = items_parse (partner_item kind) (partner_onto kind) n (low, seen)

  pub partners-filled : (n : ℕ) {R : List Partner → List Row} {s : List ℕ} {m : Option ℕ} {k : ℕ} {d o : List ℕ} → Fills (partners_from n 0 (0, 0)) R s m k d o → Fills (partners_form kind n).parse R s m k d o
  unfolding partners_from partners_form
  partners-filled n i = fills-all i

  module _ (n i low : ℕ) (t : (ℕ × ℕ) × ℕ) (s : List ℕ) (p : ℕ) (d : List ℕ) where
    pub partners-fill-none : n ≤ i → Fills (partners_from (n - i) low t.0) (flat_map rows_of_partner) s (Some p) t.1 d d
    unfolding partners_from
    partners-fill-none h = fills-none (partner_item kind) (partner_onto kind) rows_of_partner n i (low, t.0) s p t.1 d h

    pub partners-fill-bad : (o : List ℕ) → i < n → map_parse (partner_kept t) (partner_item kind (low, t.0)).parse (drop p s) ≡ bad → length o ≡ length d
        → Fills (partners_from (n - i) low t.0) (flat_map rows_of_partner) s (Some p) t.1 d o
    unfolding partners_from
    partners-fill-bad o h e l =
        fills-bad (items_parse (partner_item kind) (partner_onto kind) (n - i) (low, t.0)) (flat_map rows_of_partner) s p t.1 d o l
        (items-bad (partner_item kind) (partner_onto kind) n i (low, t.0) (drop p s) h (view-bad (partner_kept t) (partner_item kind (low, t.0)).parse (drop p s) e))

    pub partners-fill-step : {q : ℕ} {mid o : List ℕ} (v : ℕ × ((ℕ × ℕ) × ℕ)) → i < n → map_parse (partner_kept t) (partner_item kind (low, t.0)).parse (drop p s) ≡ got v (drop q s)
        → Fills (partner_item kind (low, t.0)).parse rows_of_partner s (Some p) t.1 d mid
        → Fills (partners_from (n - (i + 1)) (v.0 + 1) v.1.0) (flat_map rows_of_partner) s (Some q) v.1.1 mid o
        → Fills (partners_from (n - i) low t.0) (flat_map rows_of_partner) s (Some p) t.1 d o
    unfolding partners_from
    partners-fill-step {q} {mid} {o} v h e first rest =
        let a = viewed (partner_kept t) (partner_item kind (low, t.0)).parse (drop p s) v (drop q s) e in
        let r = a.0 in
        let on = subst (λ (j : ℕ). Fills (items_parse (partner_item kind) (partner_onto kind) (n - (i + 1)) (j, v.1.0)) (flat_map rows_of_partner) s (Some q) v.1.1 mid o) (add-one v.0) rest in
        let back = subst (λ (w : ℕ × ((ℕ × ℕ) × ℕ)). Fills (items_parse (partner_item kind) (partner_onto kind) (n - (i + 1)) (suc w.0, w.1.0)) (flat_map rows_of_partner) s (Some q) w.1.1 mid o) (sym a.1.1) on in
        let month = subst (λ (w : ℕ × ℕ). Fills (items_parse (partner_item kind) (partner_onto kind) (n - (i + 1)) (suc r.number, w)) (flat_map rows_of_partner) s (Some q) (folded counting t r.series).1 mid o)
        (sym (months-folded t r.series)) back in
        fills-step (partner_item kind) (partner_onto kind) rows_of_partner n i (low, t.0) r h a.1.0 first (λ room. tally-rows r.number t r.series) month

-- ---- the rows as the file has them

each_row : (partner : ℕ) (directions : ℕ × ℕ) (l : List Observation) → flat_map (rows_of_observation partner directions) l ≡ map (λ r. (partner, r)) (map (λ o. (directions, o)) l)
unfolding flat_map
each_row partner directions [] = refl
each_row partner directions (o ∷ l) = ap (λ (r : List Row). (partner, (directions, o)) ∷ r) (each_row partner directions l)

series-of : (partner : ℕ) (l : List TimeSeries) → flat_map (rows_of_series partner) l ≡ map (λ r. (partner, r)) (spread (map series_rows l))
unfolding flat_map spread
series-of partner [] = refl
series-of partner (x ∷ l) =
    ap₂ ◌++◌ (each_row partner (x.supply, x.delivery) x.observations) (series-of partner l)
    ∙ sym (map-append (λ (r : (ℕ × ℕ) × Observation). (partner, r)) (map (λ o. ((x.supply, x.delivery), o)) x.observations) (spread (map series_rows l)))

pub rows-filled : (l : List Partner) → flat_map rows_of_partner l ≡ rows_of l
unfolding flat_map rows_of spread
rows-filled [] = refl
rows-filled (p ∷ l) = ap₂ ◌++◌ (series-of p.number p.series) (rows-filled l)
