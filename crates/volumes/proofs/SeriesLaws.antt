-- A series' watts add up to its grains rounded down once, a pair's TOE01 and TOE02 series are the same, and a kind takes what the register says.
use Rattle.std.specs.Prelude.{◌≡◌, refl, Bool, true, false, ◌&&◌, List, ℕ, zero, suc, eqb}
use Rattle.std.proofs.Math.Path.{ap}
use Rattle.std.proofs.Common.{◌∙◌}
use Rattle.std.proofs.Math.Bool.{cond}
use Rattle.integers.specs.Sums.{naturals}
use Rattle.integers.specs.Running.{up_to}
use Rattle.grains.specs.Grains.{per_watt, whole_watts}
use Rattle.book.specs.declared.Situation.{Situation}
use Rattle.book.specs.declared.Situation.TheVariants.{Transfer, PassThrough, OptOut, NetInjector}
use Rattle.book.specs.declared.Supply.{Supply}
use Rattle.book.specs.declared.Direction.{Direction}
use Rattle.book.specs.declared.Point.{Point}
use Rattle.book.specs.Register.{situation_of, takers_of, situation_in, register_row, point_at}
use Rattle.book.specs.Book.{Book}
use Rattle.volumes.specs.Baseline.{point_of}
use Rattle.volumes.specs.Settlement.{delivered}
use Rattle.volumes.specs.Sheets.{covers, quarter_at}
use Rattle.volumes.specs.declared.Series.{Series}
use Rattle.volumes.specs.Series.{Kind, Toe01, Toe02, Toe03, takes, receiver_of, partner_of, same_supply, same_direction, is_point, is_engagement, grains_of, grains_at, series_watts, series_of}
use Rattle.integers.proofs.RunningLaws.{telescope, floor_at-cong}
use Rattle.integers.proofs.SumsLaws.{sum-all}
use Rattle.volumes.specs.SeriesInner.{taken_by, Told}

-- up to each position: "the series' grains up to it, over 30,240 rounded down"
pub series-prefix : (book : Book) (kind : Kind) (receiver : ℕ) (s : Series) (p : ℕ) → up_to (series_watts book kind receiver s) p ≡ whole_watts (up_to (grains_at book kind receiver s) p)
unfolding series_watts
series-prefix book kind receiver s p = telescope per_watt (grains_at book kind receiver s) p

-- a register row's takers are those of its situation, for every byte: of one that is no situation, none
takes-by : (kind : Kind) (n : ℕ) → taken_by kind (takers_of n) ≡ takes kind (situation_of n)
unfolding takes taken_by
takes-by Toe01 zero = refl
takes-by Toe01 (suc zero) = refl
takes-by Toe01 (suc (suc zero)) = refl
takes-by Toe01 (suc (suc (suc zero))) = refl
takes-by Toe01 (suc (suc (suc (suc n)))) = refl
takes-by Toe02 zero = refl
takes-by Toe02 (suc zero) = refl
takes-by Toe02 (suc (suc zero)) = refl
takes-by Toe02 (suc (suc (suc zero))) = refl
takes-by Toe02 (suc (suc (suc (suc n)))) = refl
takes-by Toe03 zero = refl
takes-by Toe03 (suc zero) = refl
takes-by Toe03 (suc (suc zero)) = refl
takes-by Toe03 (suc (suc (suc zero))) = refl
takes-by Toe03 (suc (suc (suc (suc n)))) = refl

pub told_at : (register : List ℕ) (i : ℕ) → Told (point_at register i)
told_at register i = record { law = λ kind. takes-by kind (situation_in (register_row register i)) }

-- FSP f by supplier s, and supplier s by FSP f: the same points, grains and watts
alike : (z : Situation) → takes Toe01 z ≡ takes Toe02 z
unfolding takes
alike Transfer = refl
alike PassThrough = refl
alike OptOut = refl
alike NetInjector = refl

and-swap : (a b c : Bool) → (a && (b && c)) ≡ (b && (a && c))
and-swap true true c = refl
and-swap true false c = refl
and-swap false true c = refl
and-swap false false c = refl

module _ (book : Book) (f s : ℕ) (u : Supply) (d : Direction) where
  same_points : (point : Point) → is_point Toe01 f (series_of s u d) point ≡ is_point Toe02 s (series_of f u d) point
  unfolding is_point receiver_of partner_of
  same_points point =
      ap (λ t. t && (eqb point.fsp f && (eqb point.supplier s && same_supply point.supply u))) (alike point.situation)
      ∙ ap (λ t. takes Toe02 point.situation && t) (and-swap (eqb point.fsp f) (eqb point.supplier s) (same_supply point.supply u))

  pub pair-grains : (p : ℕ) → grains_at book Toe01 f (series_of s u d) p ≡ grains_at book Toe02 s (series_of f u d) p
  unfolding grains_at grains_of is_engagement
  pair-grains p = sum-all naturals _ _ book.engagements (λ e. ap (λ t. cond ((t && same_direction e.direction d) && covers book.calendar e p) (delivered book e (quarter_at book.calendar e p)) 0) (same_points (point_of book e)))

  pub pair-watts : (p : ℕ) → series_watts book Toe01 f (series_of s u d) p ≡ series_watts book Toe02 s (series_of f u d) p
  unfolding series_watts
  pair-watts p = floor_at-cong per_watt (grains_at book Toe01 f (series_of s u d)) (grains_at book Toe02 s (series_of f u d)) p (λ q low most. pair-grains q)
