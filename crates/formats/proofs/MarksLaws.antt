-- Laws about a reading that keeps a mark, a place that may be missing: it follows from a reading at a place, and ends at no place where a form isn't there.
-- They stand for whoever reads so; the reader itself goes by `Reads` of `cursor`, and none of what the code does needs them.
use Rattle.std.specs.Prelude.{◌≡◌, Bool, true, false, List, [], ℕ, ◌≤◌, length, drop, Option, Some, None}
use Rattle.std.proofs.Common.{arith}
use Rattle.formats.specs.Format.{Res, got, bad}
use Rattle.formats.proofs.RunLaws.{Run}

-- a mark as the end of a reading
abbrev pub placed : List ℕ → Option ℕ → Res (Unit {0})
placed s (Some n) = got tt (drop n s)
placed s None = bad

abbrev pub Within : List ℕ → Option ℕ → Type 0
Within s (Some n) = n ≤ length s
Within s None = Unit {0}

-- what is left to read at a mark
abbrev pub left : List ℕ → Option ℕ → List ℕ
left s (Some n) = drop n s
left s None = []

-- f, read in s at the mark m, ends at the mark r with the value v; where f isn't there, r is None
pub record Parsed {A : Type 0} (f : List ℕ → Res A) (s : List ℕ) (m r : Option ℕ) (v : A) : Type 0 where
  pub run : Run f (placed s m) (placed s r) v
  pub within : Within s r

-- a mark where a test holds
abbrev pub keep : Bool → Option ℕ → Option ℕ
keep true m = m
keep false m = None

-- ---- marks

pub no-at : (q : ℕ) → ◌≡◌ {A = Option ℕ} None (Some q) → ⊥
no-at q e = let z : ◌≡◌ {A = ℕ} 0 1 = cc in omega arith

pub same_at : {p q : ℕ} → ◌≡◌ {A = Option ℕ} (Some p) (Some q) → p ≡ q
same_at e = cc

-- ---- a reading at a place

module _ {A : Type 0} (f : List ℕ → Res A) (s : List ℕ) (p : ℕ) (v : A) where
  pub parsed : (q : ℕ) → f (drop p s) ≡ got v (drop q s) → q ≤ length s → Parsed f s (Some p) (Some q) v
  parsed q e h = record { run = record { run = e }; within = h }

  pub not_there : f (drop p s) ≡ bad → Parsed f s (Some p) None v
  not_there e = record { run = record { run = e }; within = tt }
