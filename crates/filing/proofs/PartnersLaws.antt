-- The partners of a file, laid one behind the other as a scan of the register finds them: what is laid, and those that follow, are all.
use Rattle.std.specs.Prelude.{◌≡◌, Bool, true, false, ℕ, ◌+◌, ◌*◌, ◌≤◌, ◌<◌, cond, ltb, length, take, Option, Some, None, refl, unwrap_or}
use Rattle.std.proofs.Common.{sym, ap, subst, ◌∙◌, arith}
use mathlib.Core.List.{List, flat_map, map, Memᴰ}
use mir.Val.{bool_byte}
use Rattle.quarters.specs.declared.Calendar.{Calendar}
use Rattle.quarters.specs.QuartersInner.{longest_month}
use Rattle.book.specs.Book.{Book, book_of}
use Rattle.volumes.proofs.SettlementLaws.{passing}
use Rattle.volumes.specs.Series.{Kind}
use Rattle.message.specs.Bytes.{partner_bytes}
use Rattle.emitter.specs.SinksInner.{SinkLaws}
use Rattle.emitter.proofs.Laying.{Laying, laying-none, laying-then, laying-stops, laying-all}
use Rattle.writer.specs.RowsInner.{row_in}
use Rattle.writer.specs.ContentsInner.{partners_in}
use Rattle.series.specs.declared.sums.Delivered.{Delivered}
use Rattle.series.specs.SumsLaws.{parts-of}
use Rattle.reports.specs.FileRows.{partner_numbers, partners_of}
use Rattle.reports.specs.RegisteredInner.{Registered}
use Rattle.reports.proofs.RegisteredLaws.{registered}
use Rattle.partners.specs.PartnersInner.{points_in, partner_column, no_partner, Next, partner_if, partners_from}
use Rattle.partners.specs.PartnersLaws.{partners-all, partners-end}
use Rattle.partners.specs.ObservationsLaws.{dated}
use Rattle.partners.specs.PartnerRowsInner.{partner_rows_of, FileRowsFilled}
use Rattle.partners.specs.PartnerRowsLaws.{filled-stand, partner-bytes, partner-count}
use Rattle.filing.specs.LayingLaws.{next-in, partners-bytes, partners-end-bytes, partners-count}

-- ---- one partner

-- as told otherwise: of the same bytes, with the same answer
pub told : {S : Type 0} (lays : S → List ℕ → Option Unit → S → Type 0) {a b : S} {x y : List ℕ} {r s : Option Unit} → x ≡ y → r ≡ s → lays a x s b → lays a y r b
told lays {a} {b} {x} {y} {r} {s} e f v = subst (λ (o : Option Unit). lays a y o b) (sym f) (subst (λ (l : List ℕ). lays a l s b) e v)

-- a flag as a number: 1, or 0
flag_is : (b : Bool) → bool_byte b ≡ cond b 1 0
flag_is true = refl
flag_is false = refl

flag-most : (b : Bool) → bool_byte b ≤ 1
flag-most true = omega arith
flag-most false = omega arith

-- the registered points of a book of known volumes, and its partners, by the register that stands beside
pub own : (d : Delivered) → Registered (book_of d.book.now)
own d = registered d.book.now (passing d.book.now d.delivered.accepted).passed

pub next-of : (d : Delivered) (kind : Kind) (receiver low next : ℕ) → Next low (partner_column (points_in d.register.now) kind receiver) next → Next low (partner_column (book_of d.book.now).points kind receiver) next
next-of d kind receiver low next s = next-in d.book.now d.register.now kind receiver low next (passing d.book.now d.delivered.accepted).passed d.parts.register s

module _ (d : Delivered) (kind : Kind) (receiver partner : ℕ) (known : Memᴰ partner (partner_numbers (book_of d.book.now) kind receiver)) (before after : List (List ℕ)) (end : ℕ)
    (filled : FileRowsFilled (partner_rows_of (book_of d.book.now) kind receiver partner) before 0 after end × (end ≤ 4 * longest_month)) (room : 4 * longest_month ≤ length before) where
  -- what is laid of the rows that are filled
  pub filled-bytes : (rows : List (List ℕ)) → rows ≡ take end after
      → flat_map (partner_bytes kind) (partners_in (d.c.calendar.year, d.c.calendar.month) rows) ≡ flat_map (partner_bytes kind) (partner_if (book_of d.book.now) kind receiver partner)
  filled-bytes rows cut =
      let book = book_of d.book.now in
      let same : d.c.calendar ≡ book.calendar = d.parts.when ∙ (dated d.book.now d.volumes.now d.delivered).own in
      let stood = filled-stand (partner_rows_of book kind receiver partner) before after end filled.0 (omega (arith, filled.0.behind, filled.1, room)) in
      ap (λ (k : Calendar). flat_map (partner_bytes kind) (partners_in (k.year, k.month) rows)) same
      ∙ partner-bytes book kind receiver partner (parts-of d.book.now d.volumes.now d.delivered).sound (own d) known rows (ap (map row_in) cut ∙ stood)

  -- and how many partners these rows are
  pub filled-count : (n : ℕ) → n ≡ bool_byte (ltb 0 end) → (n ≡ length (partner_if (book_of d.book.now) kind receiver partner)) × (n ≤ 1)
  filled-count n e = (
    e ∙ flag_is (ltb 0 end) ∙ partner-count (book_of d.book.now) kind receiver partner (parts-of d.book.now d.volumes.now d.delivered).sound (own d) known end (omega (arith, filled.0.behind)),
    omega (arith, e, flag-most (ltb 0 end)),
  )

-- ---- all partners

pub record Reached {S : Type 0} (lays : S → List ℕ → Option Unit → S → Type 0) (book : Book) (kind : Kind) (receiver : ℕ) (before : S) (next count : ℕ) (after : S) : Type 0 where
  pub low : ℕ
  pub following : Next low (partner_column book.points kind receiver) next
  pub laying : Laying lays before (flat_map (partner_bytes kind) (partners_of book kind receiver)) (flat_map (partner_bytes kind) (partners_from book kind receiver low)) after
  pub counted : count + length (partners_from book kind receiver low) ≡ length (partners_of book kind receiver)

module _ {S : Type 0} {lays : S → List ℕ → Option Unit → S → Type 0} (laws : SinkLaws lays) (book : Book) (kind : Kind) (receiver : ℕ) where
  pub reached-none : (a : S) (next : ℕ) → Next 0 (partner_column book.points kind receiver) next → Reached lays book kind receiver a next 0 a
  reached-none a next s =
      let all = partners-all book kind receiver in
      record {
        low = 0;
        following = s;
        laying =
            subst (λ l. Laying lays a (flat_map (partner_bytes kind) (partners_of book kind receiver)) (flat_map (partner_bytes kind) l) a) (sym all)
            (laying-none laws a (flat_map (partner_bytes kind) (partners_of book kind receiver)));
        counted = omega (arith, ap length all);
      }

  -- one partner more
  pub reached-then : {a b c : S} {next count : ℕ} (n later : ℕ) → Reached lays book kind receiver a next count b → next < no_partner
      → lays b (flat_map (partner_bytes kind) (partner_if book kind receiver next)) (Some tt) c → n ≡ length (partner_if book kind receiver next) → Next (next + 1) (partner_column book.points kind receiver) later
      → Reached lays book kind receiver a later (count + n) c
  reached-then {a} {b} {c} {next} {count} n later v h w e s =
      record {
        low = next + 1;
        following = s;
        laying = laying-then laws _ v.laying w (partners-bytes book kind receiver v.low next v.following h);
        counted = omega (arith, v.counted, e, partners-count book kind receiver v.low next v.following h);
      }

  -- a partner without room
  pub reached-stops : {a b c : S} {next count : ℕ} {r : Option Unit} → Reached lays book kind receiver a next count b → next < no_partner
      → lays b (flat_map (partner_bytes kind) (partner_if book kind receiver next)) None c → r ≡ None → lays a (flat_map (partner_bytes kind) (partners_of book kind receiver)) r c
  reached-stops {a} {b} {c} {next} v h w e = laying-stops laws _ v.laying w (partners-bytes book kind receiver v.low next v.following h) e

  -- no partner left
  pub reached-all : {a b : S} {next count : ℕ} → Registered book → Reached lays book kind receiver a next count b → no_partner ≤ next
      → lays a (flat_map (partner_bytes kind) (partners_of book kind receiver)) (Some tt) b × (count ≡ length (partners_of book kind receiver))
  reached-all {a} {b} {next} own v h = (
    laying-all laws v.laying (partners-end-bytes book kind receiver own v.low next v.following h),
    omega (arith, v.counted, ap length (partners-end book kind receiver own v.low next v.following h)),
  )

-- where no next one is found, its number is that which no partner has
pub none-left : (next : Option ℕ) → ((n : ℕ) → next ≡ Some n → ⊥) → no_partner ≤ unwrap_or next no_partner
none-left None h = omega arith
none-left (Some n) h = absurd (h n refl)
