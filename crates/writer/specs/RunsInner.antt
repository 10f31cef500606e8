-- Runs: neighbouring rows of one key, as one partner's or of the same directions.
use Rattle.std.specs.Prelude.{◌≡◌, Bool, List, [], ◌∷◌, ◌++◌, map, ℕ, ◌<◌, length, get_or}
use Rattle.std.specs.List.{IsChunkByPrefix}
use Rattle.message.specs.Contents.{Observation}
use Rattle.message.specs.Group.{Keys, group}
use Rattle.writer.specs.RowsInner.{row_in}

-- a row by its directions, and what stands under them
abbrev pub directed_in : List ℕ → (ℕ × ℕ) × Observation
directed_in a = (row_in a).1

-- the rows a are the first run of some rows, by a test of two that follow each other, and b those behind them
abbrev pub IsRun : (List ℕ → List ℕ → Bool) → List (List ℕ) → List (List ℕ) → List (List ℕ) → Type 0
IsRun e rows a b = (0 < length a) × ((rows ≡ a ++ b) × IsChunkByPrefix e rows (length a))

module _ {K A : Type 0} (E : Keys K) (f : List ℕ → K × A) where
  -- two rows of one key
  abbrev pub goes_with : List ℕ → List ℕ → Bool
  goes_with a b = E.same (f a).0 (f b).0

  -- the rows a are the first group of some rows, and those behind them, b, the others
  pub record FirstRun (rows a b : List (List ℕ)) : Type 0 where
    pub some : 0 < length a
    pub all : rows ≡ a ++ b
    pub first : group E (map f rows) ≡ ((f (get_or a 0 [])).0, map (λ x. x.1) (map f a)) ∷ group E (map f b)
