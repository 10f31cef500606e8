-- A format: what may be written, its bytes, and how it is read from the front of a list of bytes. The two laws make the reading
-- the only one that fits the bytes, so that `Ok` and `render` alone say what a format is.
use Rattle.std.specs.Prelude.{◌≡◌, Bool, true, false, List, [], ◌∷◌, ◌++◌, ℕ}

-- what a reading finds: contents and what is left behind them, or nothing of the form
pub data Res (A : Type 0) : Type 0 where
  got : A → List ℕ → Res A
  bad : Res A

-- what a reading of s finds is valid, and s begins with its bytes
abbrev pub Sound : {A : Type 0} → (A → Type 0) → (A → List ℕ) → List ℕ → Res A → Type 0
Sound Ok render s (got a rest) = (s ≡ render a ++ rest) × Ok a
Sound Ok render s bad = Unit {0}

pub record Format (A : Type 0) : Type 1 where
  pub Ok : A → Type 0
  pub render : A → List ℕ
  pub parse : List ℕ → Res A
  pub sound : (s : List ℕ) → Sound Ok render s (parse s)
  pub complete : (a : A) (rest : List ℕ) → Ok a → parse (render a ++ rest) ≡ got a rest

-- a reading of all of a list
abbrev pub whole : {A : Type 0} → Res A → Res A
whole bad = bad
whole (got a []) = got a []
whole (got a (x ∷ r)) = bad

unfoldable pub read_all : {A : Type 0} → Format A → List ℕ → Res A
read_all F s = whole (F.parse s)

-- ---- readings one after the other

-- what is left goes on
abbrev pub bind : {A B : Type 0} → Res A → (A → List ℕ → Res B) → Res B
bind bad k = bad
bind (got a rest) k = k a rest

-- a reading under a test
abbrev pub pick : {A : Type 0} → Bool → Res A → Res A
pick true r = r
pick false r = bad

-- a reading whose contents aren't kept
abbrev pub ends : {A : Type 0} → Res A → Res (Unit {0})
ends bad = bad
ends (got a r) = got tt r
