-- Definitions for a reading that keeps a mark, a place that may be missing: an observation in its order, observations that were passed, a time series and its outline.
-- They stand for whoever reads so; the reader itself goes by `Reads` and `Filled`; MarkedFilledLaws leads from what its contracts say to these.
use Rattle.std.specs.Prelude.{Bool, ◌&&◌, List, [], ◌∷◌, ℕ, leb, length, Option}
use Rattle.formats.specs.Format.{Res}
use Rattle.formats.proofs.RunLaws.{Ran}
use Rattle.formats.proofs.MarksLaws.{placed, Within, Parsed}
use Rattle.message.specs.Contents.{Observation, TimeSeries}
use Rattle.message.specs.Valid.{last_position}
use Rattle.message.specs.Reading.{observable}
use Rattle.message.proofs.ObservationForm.{observations}
use Rattle.message.proofs.SeriesForm.{position-fits, volume_body}

-- an observation of the month, from position low on
abbrev pub in_order : ℕ → ℕ → ℕ × ℕ → Bool
in_order low last p = observable last p && leb low p.0

-- f, read in s at the mark m, ends at the mark r; the code doesn't hold what it says
pub record Passed {A : Type 0} (f : List ℕ → Res A) (s : List ℕ) (m r : Option ℕ) : Type 0 where
  pub ran : Ran f (placed s m) (placed s r)
  pub within : Within s r

-- so many observations of a month
abbrev pub observations_of : ℕ → ℕ → ℕ → List ℕ → Res (List Observation)
observations_of year month n = (observations (last_position year month) (position-fits year month) n).parse

-- a time series of a delivery direction, a month and so many observations was read; they aren't held
pub record VolumeRead (s : List ℕ) (m r : Option ℕ) (delivery year month rows : ℕ) : Type 0 where
  pub observations : List Observation
  pub parsed : Parsed volume_body.parse s m r (delivery, (rows, ((year, month), observations)))

-- what is kept of a series: its directions, its month and how many rows it has
abbrev pub Outline : Type 0
Outline = (ℕ × ℕ) × ((ℕ × ℕ) × ℕ)

abbrev pub outline : TimeSeries → Outline
outline s = ((s.supply, s.delivery), ((s.year, s.month), length s.observations))

-- what is kept of a list, one item after the other
unfoldable pub folded : {A T : Type 0} → (T → A → T) → T → List A → T
folded step t [] = t
folded step t (a ∷ l) = folded step (step t a) l
