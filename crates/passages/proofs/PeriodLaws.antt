-- What stands behind the year and the month of a period is read in four tags.
use Rattle.std.specs.Prelude.{◌≡◌, List, ◌++◌, ℕ, take, drop, Option, Some, None}
use Rattle.std.proofs.Common.{ap, ◌∙◌, append_assoc, take_all, length-drop, arith}
use Rattle.text.specs.Ascii.{bytes}
use Rattle.formats.specs.Format.{Res, bind}
use Rattle.formats.specs.Combine.{strip, strip-both}
use Rattle.cursor.specs.declared.Cursor.{Cursor}
use Rattle.cursor.specs.ReadsInner.{Reads}
use Rattle.cursor.proofs.ReadsLaws.{left, reads-tags}
use Rattle.moments.specs.Moments.{moment_bytes, period_start, period_end}
use Rattle.moments.specs.MomentsLaws.{length-moment}
use Rattle.message.specs.Bytes.{opening, ending, closing}
use Rattle.message.specs.Reading.{behind_month}

-- a tag of two parts, the first of which isn't there
no-tags : (a b : List ℕ) {old new : Cursor} → Reads (strip a) old new None → Reads (strip (a ++ b)) old new None
no-tags a b {old} {new} h = record { text = h.text; found = strip-both a b (left old) ∙ ap (λ (x : Res (Unit {0})). bind x (λ u r. strip b r)) h.found }

-- the code takes the first moment from its eighth byte on
pub from-eighth : (year month : ℕ) (t : List ℕ) → t ≡ moment_bytes (period_start year month) → take 22 (drop 7 t) ≡ drop 7 (moment_bytes (period_start year month))
from-eighth year month t e =
    let m = moment_bytes (period_start year month) in
    ap (λ (l : List ℕ). take 22 (drop 7 l)) e ∙ take_all 22 (drop 7 m) (omega (arith, length-drop 7 m, length-moment (period_start year month)))

module _ (q : ℕ × ℕ) where
  abbrev pub start : List ℕ
  start = drop 7 (moment_bytes (period_start q.0 q.1))

  abbrev pub end : List ℕ
  end = moment_bytes (period_end q.0 q.1)

  abbrev pub between : List ℕ
  between = bytes "</PeriodStart><PeriodEnd>"

  abbrev pub last : List ℕ
  last = bytes "</PeriodEnd><PeriodResolution>PT15M</PeriodResolution>"

  four : behind_month q ≡ ((start ++ between) ++ end) ++ last
  unfolding behind_month opening closing ending bytes
  four = regroup start (closing "PeriodStart") (opening "PeriodEnd") end (closing "PeriodEnd") (opening "PeriodResolution") (bytes "PT15M") (closing "PeriodResolution")
    where
      regroup : (s c o e z a b d : List ℕ) → ((s ++ c) ++ ((o ++ e) ++ z)) ++ ((a ++ b) ++ d) ≡ ((s ++ (c ++ o)) ++ e) ++ (z ++ ((a ++ b) ++ d))
      regroup s c o e z a b d = simp append_assoc

  pub no-start : {a b : Cursor} → Reads (strip start) a b None → Reads (strip (behind_month q)) a b None
  no-start h = rw four (no-tags ((start ++ between) ++ end) last (no-tags (start ++ between) end (no-tags start between h)))

  pub no-between : {a b c : Cursor} → Reads (strip start) a b (Some tt) → Reads (strip between) b c None → Reads (strip (behind_month q)) a c None
  no-between h i = rw four (no-tags ((start ++ between) ++ end) last (no-tags (start ++ between) end (reads-tags start between h i)))

  pub no-end : {a b c d : Cursor} → Reads (strip start) a b (Some tt) → Reads (strip between) b c (Some tt) → Reads (strip end) c d None → Reads (strip (behind_month q)) a d None
  no-end h i j = rw four (no-tags ((start ++ between) ++ end) last (reads-tags (start ++ between) end (reads-tags start between h i) j))

  pub to-last : {a b c d e : Cursor} {r : Option (Unit {0})} → Reads (strip start) a b (Some tt) → Reads (strip between) b c (Some tt) → Reads (strip end) c d (Some tt) → Reads (strip last) d e r
      → Reads (strip (behind_month q)) a e r
  to-last h i j k = rw four (reads-tags ((start ++ between) ++ end) last (reads-tags (start ++ between) end (reads-tags start between h i) j) k)
