-- A turn stores the volume of row k in cell k, behind those of the rows before it.
use mathlib.Core.Path.{◌≡◌}
use mathlib.Core.List.{map}
use lib.Seq.{sets}
use Rattle.integers.specs.Ranges.{range}
use Rattle.integers.proofs.ZLaws.{up}
use Rattle.series.specs.VolumesInner.{volume_in}
use Rattle.series.proofs.delivered.store_volumes.Given as goal

abbrev pub invariant-loop-k : goal.invariant-loop-k
invariant-loop-k l = (l.volumes ≡ sets l.initial.volumes 0 (map (λ j. up (volume_in l.rows j)) (range 0 l.k)))
