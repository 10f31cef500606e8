-- Laws about a reading of a partner that keeps a mark: its head, its series and its end, one behind the other, are the partner's form.
-- They stand for whoever reads so; the reader itself goes by `Reads` and `Filled`; MarkedFilledLaws leads from what its contracts say to these.
use Rattle.std.specs.Prelude.{◌≡◌, refl, Bool, true, false, List, [], ◌++◌, ℕ, drop, Option, Some, None}
use Rattle.std.proofs.Common.{sym, arith}
use Rattle.formats.specs.Format.{Res, got, bad, Format}
use Rattle.formats.specs.FormatLaws.{got-bad}
use Rattle.formats.specs.Combine.{strip, strip-sound, strip-complete, pre, post, seq, pre_parse, post_parse, seq_parse, map_parse}
use Rattle.formats.specs.Exactly.{fixed_digits}
use Rattle.formats.specs.Words.{words, words_parse}
use Rattle.formats.proofs.RunLaws.{run-pre, run-post, run-seq, run-map}
use Rattle.formats.proofs.MarksLaws.{Within, Parsed}
use Rattle.kinds.specs.declared.Kind.{Kind}
use Rattle.kinds.specs.declared.Kind.TheVariants.{Toe01, Toe02, Toe03}
use Rattle.message.specs.Contents.{TimeSeries}
use Rattle.message.specs.Bytes.{opening, ending, closing, group, partner, digits, supplies}
use Rattle.message.proofs.SeriesForm.{counted, apart-supplies}
use Rattle.message.proofs.SeriesListForm.{series_list}
use Rattle.message.proofs.PartnerForm.{own_partner, own_partner_body, shared_partner, shared_partner_body, partner_form}
use Rattle.formats.proofs.MarksLaws.{keep}
use Rattle.series_reader.proofs.MarkedItemsLaws.{run-same, viewed, read-long}
use Rattle.series_reader.proofs.MarkedReadingInner.{folded}
use Rattle.series_reader.proofs.MarkedSeriesInner.{series_form, counting, list_form, Room}
use Rattle.reader.proofs.MarkedPartnersInner.{numbered, partner_kept}

-- ---- a place further on

-- a tag alone
abbrev pub tag_form : List ℕ → Format (Unit {0})
tag_form t = record { Ok = λ u. Unit {0}; render = λ u. t; parse = strip t; sound = strip-sound t; complete = λ u rest ok. strip-complete t rest }

-- what follows stands no earlier
pub room-on : {A : Type 0} (F : Format A) (s : List ℕ) (m r : Option ℕ) (v : A) (rows : ℕ) → Within s m → Room m rows → Parsed F.parse s m r v → Room r rows
room-on F s m None v rows w h p = tt
room-on F s None (Some q) v rows w h p = absurd (got-bad (sym p.run.run))
room-on F s (Some n) (Some q) v rows w h p = omega (arith, h, read-long F s n q v w p.within p.run.run)

-- ---- the counter of a partner's series

unfoldable pub direction_counter : Format ℕ
direction_counter = post counted (ending "DirectionCounter")

pub counter-parsed : (s : List ℕ) (m a b : Option ℕ) (n : ℕ) → Parsed counted.parse s m a n → Parsed (strip (ending "DirectionCounter")) s a b tt → Parsed direction_counter.parse s m b n
unfolding direction_counter
counter-parsed s m a b n h i = record { run = run-post _ h.run i.run; within = i.within }

-- ---- a partner's head: number, supply direction (0 where each series has its own), how many series follow

abbrev pub Head : Type 0
Head = ℕ × (ℕ × ℕ)

-- with the tags around the number of a company
unfoldable pub company_form : List ℕ → List ℕ → Format (ℕ × ℕ)
company_form before behind = pre before (seq (post (fixed_digits 10) behind) direction_counter)

unfoldable pub access_form : Format Head
access_form =
    pre (opening (group Toe03) ++ opening (partner Toe03))
    (seq (post (fixed_digits 18) (closing (partner Toe03) ++ opening "SupplyDirection"))
    (seq (post (words supplies apart-supplies) (closing "SupplyDirection" ++ opening "DirectionCounter")) direction_counter))

abbrev pub of_company : ℕ × ℕ → Head
of_company p = (p.0, (0, p.1))

abbrev pub company_head : Kind → Format (ℕ × ℕ)
company_head k = company_form (opening (group k) ++ opening (partner k)) (closing (partner k) ++ opening "DirectionCounter")

unfoldable pub head_parse : Kind → List ℕ → Res Head
head_parse Toe01 = map_parse of_company (company_head Toe01).parse
head_parse Toe02 = map_parse of_company (company_head Toe02).parse
head_parse Toe03 = access_form.parse

module _ (s : List ℕ) {m a b c d : Option ℕ} {number n : ℕ} where
  pub company-parsed : (before behind : List ℕ) → Parsed (strip before) s m a tt → Parsed (fixed_digits 10).parse s a b number → Parsed (strip behind) s b c tt
      → Parsed direction_counter.parse s c d n → Parsed (company_form before behind).parse s m d (number, n)
  unfolding company_form
  company-parsed before behind i j k l = record { run = run-pre before i.run (run-seq _ (run-post _ j.run k.run) l.run); within = l.within }

module _ (s : List ℕ) {m a b c d e f : Option ℕ} {number supply n : ℕ} where
  pub access-parsed : Parsed (strip (opening (group Toe03) ++ opening (partner Toe03))) s m a tt → Parsed (fixed_digits 18).parse s a b number
      → Parsed (strip (closing (partner Toe03) ++ opening "SupplyDirection")) s b c tt → Parsed (words_parse supplies) s c d supply
      → Parsed (strip (closing "SupplyDirection" ++ opening "DirectionCounter")) s d e tt → Parsed direction_counter.parse s e f n → Parsed access_form.parse s m f (number, (supply, n))
  unfolding access_form
  access-parsed i j k l o p =
      record {
        run = run-pre (opening (group Toe03) ++ opening (partner Toe03)) i.run (run-seq _ (run-post _ j.run k.run) (run-seq _ (run-post _ l.run o.run) p.run));
        within = p.within;
      }

-- ---- a partner

abbrev rest : {A : Type 0} → Res A → List ℕ
rest bad = []
rest (got a r) = r

abbrev said : Res ℕ → ℕ
said bad = 0
said (got n r) = n

-- the head, then the series and the tag that ends the partner
abbrev pub split_parse : {T : Type 0} → (List ℕ → Res Head) → (ℕ → ℕ → List ℕ → Res (List TimeSeries)) → List ℕ → (List TimeSeries → T) → List ℕ → Res (ℕ × T)
split_parse {T} head list end view = map_parse (λ (p : Head × T). (p.0.0, p.1)) (seq_parse head (λ (h : Head). post_parse (map_parse view (list h.1.0 h.1.1)) (λ v. end)))

module _ {T : Type 0} (A C : List ℕ) (f g : List ℕ → Res ℕ) (list : ℕ → ℕ → List ℕ → Res (List TimeSeries)) (view : List TimeSeries → T) (s : List ℕ) where
  own_split : (x : Res (Unit {0})) → strip A s ≡ x → (y : Res ℕ) → f (rest x) ≡ y → (z : Res ℕ) → g (rest y) ≡ z → (w : Res (List TimeSeries)) → list 0 (said z) (rest z) ≡ w
      → (v : Res (Unit {0})) → strip C (rest w) ≡ v
      → map_parse (numbered view) (map_parse (λ (p : ℕ × (ℕ × List TimeSeries)). record { number = p.0; series = p.1.1 })
      (pre_parse A (seq_parse f (λ a. seq_parse g (λ n. post_parse (list 0 n) (λ l. C)))))) s
      ≡ split_parse (map_parse of_company (pre_parse A (seq_parse f (λ a. g)))) list C view s
  unfolding pre_parse post_parse seq_parse map_parse
  own_split bad e₁ y e₂ z e₃ w e₄ v e₅ = rw e₁
  own_split (got u r₁) e₁ bad e₂ z e₃ w e₄ v e₅ = rw (e₁, e₂)
  own_split (got u r₁) e₁ (got a r₂) e₂ bad e₃ w e₄ v e₅ = rw (e₁, e₂, e₃)
  own_split (got u r₁) e₁ (got a r₂) e₂ (got n r₃) e₃ bad e₄ v e₅ = rw (e₁, e₂, e₃, e₄)
  own_split (got u r₁) e₁ (got a r₂) e₂ (got n r₃) e₃ (got l r₄) e₄ bad e₅ = rw (e₁, e₂, e₃, e₄, e₅)
  own_split (got u r₁) e₁ (got a r₂) e₂ (got n r₃) e₃ (got l r₄) e₄ (got o r₅) e₅ = rw (e₁, e₂, e₃, e₄, e₅)

module _ {T : Type 0} (A C : List ℕ) (f g h : List ℕ → Res ℕ) (list : ℕ → ℕ → List ℕ → Res (List TimeSeries)) (view : List TimeSeries → T) (s : List ℕ) where
  shared-split : (x : Res (Unit {0})) → strip A s ≡ x → (y : Res ℕ) → f (rest x) ≡ y → (k : Res ℕ) → g (rest y) ≡ k → (z : Res ℕ) → h (rest k) ≡ z
      → (w : Res (List TimeSeries)) → list (said k) (said z) (rest z) ≡ w → (v : Res (Unit {0})) → strip C (rest w) ≡ v
      → map_parse (numbered view) (map_parse (λ (p : ℕ × (ℕ × (ℕ × List TimeSeries))). record { number = p.0; series = p.1.1.1 })
      (pre_parse A (seq_parse f (λ a. seq_parse g (λ x. seq_parse h (λ n. post_parse (list x n) (λ l. C))))))) s
      ≡ split_parse (pre_parse A (seq_parse f (λ a. seq_parse g (λ x. h)))) list C view s
  unfolding pre_parse post_parse seq_parse map_parse
  shared-split bad e₁ y e₂ k e₆ z e₃ w e₄ v e₅ = rw e₁
  shared-split (got u r₁) e₁ bad e₂ k e₆ z e₃ w e₄ v e₅ = rw (e₁, e₂)
  shared-split (got u r₁) e₁ (got a r₂) e₂ bad e₆ z e₃ w e₄ v e₅ = rw (e₁, e₂, e₆)
  shared-split (got u r₁) e₁ (got a r₂) e₂ (got b r₆) e₆ bad e₃ w e₄ v e₅ = rw (e₁, e₂, e₆, e₃)
  shared-split (got u r₁) e₁ (got a r₂) e₂ (got b r₆) e₆ (got n r₃) e₃ bad e₄ v e₅ = rw (e₁, e₂, e₆, e₃, e₄)
  shared-split (got u r₁) e₁ (got a r₂) e₂ (got b r₆) e₆ (got n r₃) e₃ (got l r₄) e₄ bad e₅ = rw (e₁, e₂, e₆, e₃, e₄, e₅)
  shared-split (got u r₁) e₁ (got a r₂) e₂ (got b r₆) e₆ (got n r₃) e₃ (got l r₄) e₄ (got o r₅) e₅ = rw (e₁, e₂, e₆, e₃, e₄, e₅)

pub partner-split : {T : Type 0} (k : Kind) (seen : ℕ × ℕ) (view : List TimeSeries → T) (s : List ℕ)
    → map_parse (numbered view) (partner_form k seen).parse s ≡ split_parse (head_parse k) (λ x n. (list_form k x n seen).parse) (closing (group k)) view s
unfolding partner_form own_partner own_partner_body shared_partner shared_partner_body head_parse company_form access_form direction_counter list_form series_list series_form digits
partner-split Toe01 seen view s =
    own_split (opening (group Toe01) ++ opening (partner Toe01)) (closing (group Toe01)) (post (fixed_digits 10) (closing (partner Toe01) ++ opening "DirectionCounter")).parse
    direction_counter.parse (λ x n. (list_form Toe01 x n seen).parse) view s _ refl _ refl _ refl _ refl _ refl
partner-split Toe02 seen view s =
    own_split (opening (group Toe02) ++ opening (partner Toe02)) (closing (group Toe02)) (post (fixed_digits 10) (closing (partner Toe02) ++ opening "DirectionCounter")).parse
    direction_counter.parse (λ x n. (list_form Toe02 x n seen).parse) view s _ refl _ refl _ refl _ refl _ refl
partner-split Toe03 seen view s =
    shared-split (opening (group Toe03) ++ opening (partner Toe03)) (closing (group Toe03)) (post (fixed_digits 18) (closing (partner Toe03) ++ opening "SupplyDirection")).parse
    (post (words supplies apart-supplies) (closing "SupplyDirection" ++ opening "DirectionCounter")).parse
    direction_counter.parse (λ x n. (list_form Toe03 x n seen).parse) view s _ refl _ refl _ refl _ refl _ refl _ refl

pub partner-seen : {T : Type 0} (k : Kind) (seen : ℕ × ℕ) (view : List TimeSeries → T) (s : List ℕ) (m a b c : Option ℕ) (h : Head) (v : T) → Parsed (head_parse k) s m a h
    → Parsed (map_parse view (list_form k h.1.0 h.1.1 seen).parse) s a b v → Parsed (strip (closing (group k))) s b c tt
    → Parsed (map_parse (numbered view) (partner_form k seen).parse) s m c (h.0, v)
partner-seen {T} k seen view s m a b c h v i j l =
    record {
      run = run-same (λ s. sym (partner-split k seen view s)) (run-map (λ (p : Head × T). (p.0.0, p.1)) (run-seq _ i.run (run-post _ j.run l.run)));
      within = l.within;
    }

pub partner-read : (k : Kind) (t : (ℕ × ℕ) × ℕ) (s : List ℕ) (m a b c : Option ℕ) (h : Head) (v : (ℕ × ℕ) × ℕ) → Parsed (head_parse k) s m a h
    → Parsed (map_parse (folded counting t) (list_form k h.1.0 h.1.1 t.0).parse) s a b v → Parsed (strip (closing (group k))) s b c tt
    → Parsed (map_parse (partner_kept t) (partner_form k t.0).parse) s m c (h.0, v)
partner-read k t = partner-seen k t.0 (folded counting t)

-- ---- what a head is known to be

room-view : {A B : Type 0} (F : Format A) (view : A → B) (s : List ℕ) (m r : Option ℕ) (v : B) (rows : ℕ) → Within s m → Room m rows → Parsed (map_parse view F.parse) s m r v → Room r rows
room-view F view s m None v rows w h p = tt
room-view F view s None (Some q) v rows w h p = absurd (got-bad (sym p.run.run))
room-view F view s (Some n) (Some q) v rows w h p =
    let a = viewed view F.parse (drop n s) v (drop q s) p.run.run in
    omega (arith, h, read-long F s n q a.0 w p.within a.1.0)

pub head-room : (k : Kind) (s : List ℕ) (m r : Option ℕ) (h : Head) (rows : ℕ) → Within s m → Room m rows → Parsed (head_parse k) s m r h → Room r rows
unfolding head_parse
head-room Toe01 s m r h rows w i p = room-view (company_head Toe01) of_company s m r h rows w i p
head-room Toe02 s m r h rows w i p = room-view (company_head Toe02) of_company s m r h rows w i p
head-room Toe03 s m r h rows w i p = room-on access_form s m r h rows w i p

pub room-keep : (t : Bool) (m : Option ℕ) (rows : ℕ) → Room m rows → Room (keep t m) rows
room-keep true m rows h = h
room-keep false m rows h = tt

pub of-company : (before behind s : List ℕ) (m r : Option ℕ) (number count : ℕ) → Parsed (company_form before behind).parse s m r (number, count)
    → Parsed (map_parse of_company (company_form before behind).parse) s m r (number, (0, count))
of-company before behind s m r number count p = record { run = run-map of_company p.run; within = p.within }
