-- What was read so far, and what is left.
use Rattle.std.specs.Prelude.{suc, ℕ}
use Rattle.message.specs.Contents.{Observation, position}
use Rattle.series_reader.specs.RowsInner.{directions, rows_of_observation}
use Rattle.series_reader.specs.ViewsInner.{next_observation}
use Rattle.series_reader.specs.TurnsInner.{Turned}
use Rattle.series_reader.proofs.elements.observations.Given as goal

abbrev pub invariant-loop-i : goal.invariant-loop-i
invariant-loop-i l = Turned {A = Observation} {S = ℕ × Unit {0}} (λ t. next_observation l.last t.0) (λ t a. (suc (position a), tt)) (rows_of_observation l.key.partner (directions l.key)) l.count l._i (1, tt) (suc l.behind, tt) l.initial.d l.d l.initial.rows l.rows
