-- What raised numbers stand for, as equations and in ℕ: their differences need no sign.
use Rattle.std.specs.Prelude.{◌≡◌, refl, Bool, true, false, List, map, ℕ, zero, suc, ◌+◌, ◌-◌, ◌*◌, ◌≤◌, ◌<◌, eqb, ℤ, pos, negsuc, neg_ℤ, ◌-ℤ◌, Some}
use Rattle.std.proofs.Common.{sym, ap, ◌∙◌, ⊎_elim, eq-or-lt_of_le, arith}
use Rattle.integers.proofs.TestsLaws.{both}
use Rattle.integers.specs.Ranges.{range}
use Rattle.integers.proofs.ZLaws.{up, Over, over-sub, is-sub, mul, neg, dif}
use Rattle.wire.specs.Readings.{Reading, watts_at, reading_of, reading_at, missing_if}
use Rattle.wire.specs.ReadingsLaws.{raised-over}
use Rattle.grains.specs.Grains.{per_watt, grains, grains_z}
use Rattle.volumes.specs.Baseline.{watts, known, complete}
use Rattle.volumes.specs.SoundInner.{Bounded}
use Rattle.volumes.proofs.WidthsLaws.{most}
use Rattle.settlement.specs.RaisedInner.{bias, greatest, baseline_of, watts_of}
use Rattle.wire.specs.ReadingsInner.{Raised, raise}

-- a baseline, raised
pub over-level : (level : ℕ) → Over bias (baseline_of level) level
unfolding baseline_of
over-level level = over-sub level bias

pub is-level : {z : ℤ} {level : ℕ} → Over bias z level → z ≡ baseline_of level
unfolding baseline_of
is-level h = is-sub h

pub level-is : (level : ℕ) → pos level -ℤ pos bias ≡ baseline_of level
level-is level = is-level (record { law = omega (arith, dif (pos level) (pos bias)) })

-- that of an accepted book is not too great
pub level-most : {z : ℤ} {level : ℕ} → Bounded (3 * most) z → Over bias z level → level ≤ greatest
level-most h o = omega arith

-- a reading, raised
pub over-watts : (raised : ℕ) → Over raise (watts_of raised) raised
unfolding watts_of
over-watts raised = over-sub raised raise

pub is-watts : {w : ℤ} {raised : ℕ} → Over raise w raised → w ≡ watts_of raised
unfolding watts_of
is-watts h = is-sub h

-- in grains it has the bias of a level, two raises giving it what it lacks
pub over-grains : (raised : ℕ) → Over bias (grains_z (watts_of raised)) (grains (raised + 2 * raise))
over-grains raised = record { law = omega (arith, over-watts raised, mul (watts_of raised) per_watt) }

-- what the baseline is above the reading, and the reading above the baseline, two raises giving the reading the level's bias
pub above-up : (level raised : ℕ) → up (baseline_of level -ℤ grains_z (watts_of raised)) ≡ level - grains (raised + 2 * raise)
above-up level raised =
    let z = baseline_of level in
    let w = watts_of raised in
    omega (arith, over-level level, over-watts raised, mul w per_watt, dif z (grains_z w))

pub above_down : (level raised : ℕ) → up (neg_ℤ (baseline_of level -ℤ grains_z (watts_of raised))) ≡ grains (raised + 2 * raise) - level
above_down level raised =
    let z = baseline_of level in
    let w = watts_of raised in
    omega (arith, over-level level, over-watts raised, mul w per_watt, dif z (grains_z w), neg (z -ℤ grains_z w))

-- a reading that is not missing has the watts of the raised one
known-watts : (z : ℤ) → known (reading_of z) ≡ true → watts (reading_of z) ≡ z
unfolding reading_of known watts
known-watts (pos w) h = refl
known-watts (negsuc w) h = go (eqb (suc w) 2147483648) h
  where
    go : (b : Bool) → known (missing_if b (Some (negsuc w))) ≡ true → watts (missing_if b (Some (negsuc w))) ≡ negsuc w
    go true h = let z : ◌≡◌ {A = ℕ} 0 1 = cc in absurd (omega arith)
    go false h = refl

pub raised-watts : {xs : List ℕ} {i r : ℕ} → Raised xs i r → known (reading_at xs i) ≡ true → watts_of r ≡ watts (reading_at xs i)
raised-watts {xs} {i} {r} h k =
    ap watts_of h.is ∙ sym (is-watts (raised-over (watts_at xs i) h.range)) ∙ sym (known-watts (watts_at xs i) k)

-- of readings none of which is missing, one
pub known_at : (f : ℕ → Reading) (a n i : ℕ) → complete (map f (range a n)) ≡ true → a ≤ i → i < a + n → known (f i) ≡ true
unfolding range complete
known_at f a zero i h p q = absurd (omega arith)
known_at f a (suc n) i h p q =
    let k = both (known (f a)) (complete (map f (range (suc a) n))) h in
    ⊎_elim (λ e. rw (← e) k.0) (λ l. known_at f (suc a) n i k.1 (omega arith) (omega arith)) (eq-or-lt_of_le p)
