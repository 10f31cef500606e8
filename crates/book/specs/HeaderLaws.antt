-- Rows as parts of a section, and sections as parts of the book.
use Rattle.std.specs.Prelude.{◌≡◌, refl, true, ◌&&◌, List, [], ◌∷◌, ℕ, zero, suc, ◌+◌, ◌-◌, ◌*◌, ◌≤◌, eqb, leb, length, take, drop}
use Rattle.std.proofs.Common.{sym, ap, ◌∙◌, mul-suc, add-zero, arith, length-take, length-drop, eqb-true, leb-true}
use Rattle.integers.proofs.TestsLaws.{both}
use Rattle.wire.specs.Numbers.{number_at}
use Rattle.wire.specs.NumbersLaws.{in-part}
use Rattle.quarters.specs.declared.Calendar.{Calendar}
use Rattle.quarters.specs.Quarters.{days_of, quarters_of}
use Rattle.book.specs.Header.{version_of, calendar_of, point_count, engagement_count, between, version_taken, header_fields, header_good, point_width, engagement_width, row_at, offset_of, length_of, is_extent, sizes, adjoining, section_of}
use Rattle.quarters.specs.QuartersInner.{Ranged}

-- the part that ends a row later is the row
pub row-part : (w : ℕ) (section : List ℕ) (i : ℕ) → take (w * i + w - w * i) (drop (w * i) section) ≡ row_at w section i
row-part w section i = let e : w * i + w - w * i ≡ w = omega arith in rw e

-- the part before it is the row before
pub row-before : (w : ℕ) (section : List ℕ) (i : ℕ) → (i ≡ 0 → ⊥) → take (w * i - (w * i - w)) (drop (w * i - w) section) ≡ row_at w section (i - 1)
row-before w section zero h = absurd (h refl)
row-before w section (suc i) h =
    let e : w * suc i - w ≡ w * i = omega (arith, mul-suc w i) in
    let f : w * suc i - (w * suc i - w) ≡ w = omega (arith, mul-suc w i) in
    let g : suc i - 1 ≡ i = omega arith in
    rw (f, e, g)

-- a number in a row is a number in the section
pub in_row : (w : ℕ) (section : List ℕ) (i at k : ℕ) → at + k ≤ w → number_at section (w * i + at) k ≡ number_at (row_at w section i) at k
in_row w section i at k h = sym (in-part section (w * i) w at k h)

pub at_row : (w : ℕ) (section : List ℕ) (i k : ℕ) → k ≤ w → number_at section (w * i) k ≡ number_at (row_at w section i) 0 k
at_row w section i k h = ap (λ (a : ℕ). number_at section a k) (sym (add-zero (w * i))) ∙ in_row w section i 0 k (omega arith)

-- the first extent of those that adjoin, and the others
pub adjoins : (book : List ℕ) (k at n : ℕ) (ns : List ℕ) → adjoining book k at (n ∷ ns) ≡ true → (is_extent book k at n ≡ true) × (adjoining book (suc k) (at + n) ns ≡ true)
adjoins book k at n ns e = both (is_extent book k at n) (adjoining book (suc k) (at + n) ns) e

-- extent k names a part of the book, of n bytes
pub record Held (book : List ℕ) (k n : ℕ) : Type 0 where
  pub inside : offset_of book k + length_of book k ≤ length book
  pub size : length (section_of book k) ≡ n

held : (book : List ℕ) (k at n : ℕ) → is_extent book k at n ≡ true → at + n ≤ length book → Held book k n
held book k at n e h =
    let extent = both (eqb (offset_of book k) at) (eqb (length_of book k) n) e in
    let o = eqb-true (offset_of book k) at extent.0 in
    let l = eqb-true (length_of book k) n extent.1 in
    record { inside = omega arith; size = simp (length-take, length-drop) (omega arith) }

-- the sections of a book that is laid out for a calendar, so many points and so many engagements
pub record LaidOut (book : List ℕ) (c : Calendar) (points rows : ℕ) : Type 0 where
  pub long : 56 ≤ length book
  pub calendar : Held book 0 (days_of c)
  pub table : Held book 1 8
  pub register : Held book 2 (point_width * points)
  pub readings : Held book 3 (4 * quarters_of c * points)
  pub engagements : Held book 4 (engagement_width * rows)

pub laid : (book : List ℕ) (c : Calendar) (points rows : ℕ) → adjoining book 0 56 (sizes c points rows) ≡ true → LaidOut book c points rows
laid book c points rows e =
    let days = days_of c in
    let reg = point_width * points in
    let met = 4 * quarters_of c * points in
    let eng = engagement_width * rows in
    let r₀ = adjoins book 0 56 days (8 ∷ reg ∷ met ∷ eng ∷ []) e in
    let r₁ = adjoins book 1 (56 + days) 8 (reg ∷ met ∷ eng ∷ []) r₀.1 in
    let r₂ = adjoins book 2 (56 + days + 8) reg (met ∷ eng ∷ []) r₁.1 in
    let r₃ = adjoins book 3 (56 + days + 8 + reg) met (eng ∷ []) r₂.1 in
    let r₄ = adjoins book 4 (56 + days + 8 + reg + met) eng [] r₃.1 in
    let whole = eqb-true (length book) (56 + days + 8 + reg + met + eng) r₄.1 in
    record {
      long = omega arith;
      calendar = held book 0 56 days r₀.0 (omega arith);
      table = held book 1 (56 + days) 8 r₁.0 (omega arith);
      register = held book 2 (56 + days + 8) reg r₂.0 (omega arith);
      readings = held book 3 (56 + days + 8 + reg) met r₃.0 (omega arith);
      engagements = held book 4 (56 + days + 8 + reg + met) eng r₄.0 (omega arith);
    }

-- what a good header says
pub record Headed (book : List ℕ) : Type 0 where
  pub long : 56 ≤ length book
  pub ranged : Ranged (calendar_of book)
  pub points : point_count book ≤ 256
  pub some : 1 ≤ point_count book
  pub rows : engagement_count book ≤ 512

pub headed : (book : List ℕ) → header_good book ≡ true → Headed book
unfolding header_good header_fields
headed book e =
    let c = calendar_of book in
    let zeros = eqb (number_at book 10 6) 0 in
    let e₆ = leb (engagement_count book) 512 && zeros in
    let e₅ = between 1 256 (point_count book) && e₆ in
    let e₄ = between 1 33 c.lead && e₅ in
    let e₃ = between 1 12 c.month && e₄ in
    let e₂ = between 2018 2099 c.year && e₃ in
    let f₁ = both (leb 56 (length book)) (version_taken (version_of book) && e₂) e in
    let f₂ = both (version_taken (version_of book)) e₂ f₁.1 in
    let f₃ = both (between 2018 2099 c.year) e₃ f₂.1 in
    let f₄ = both (between 1 12 c.month) e₄ f₃.1 in
    let f₅ = both (between 1 33 c.lead) e₅ f₄.1 in
    let f₆ = both (between 1 256 (point_count book)) e₆ f₅.1 in
    let f₇ = both (leb (engagement_count book) 512) zeros f₆.1 in
    let year = both (leb 2018 c.year) (leb c.year 2099) f₃.0 in
    let month = both (leb 1 c.month) (leb c.month 12) f₄.0 in
    let lead = both (leb 1 c.lead) (leb c.lead 33) f₅.0 in
    let points = both (leb 1 (point_count book)) (leb (point_count book) 256) f₆.0 in
    record {
      long = leb-true 56 (length book) f₁.0;
      ranged = record { from = leb-true 2018 c.year year.0; to = leb-true c.year 2099 year.1; january = leb-true 1 c.month month.0; december = leb-true c.month 12 month.1; some = leb-true 1 c.lead lead.0; few = leb-true c.lead 33 lead.1; clock = refl };
      points = leb-true (point_count book) 256 points.1;
      some = leb-true 1 (point_count book) points.0;
      rows = leb-true (engagement_count book) 512 f₇.0;
    }
