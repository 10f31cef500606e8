-- `|` has the bits of both, and 2^day has one.
use mathlib.Core.Path.{ap, ◌∙◌}
use mathlib.Core.Bool.{Bool, ◌||◌}
use Prim.Native.Nat.{ℕ, ◌*◌, ◌%◌, ◌^◌}
use native.Mathlib.Nat.{one-mul}
use native.Mathlib.Omega.{arith}
use lib.Pow.{shl_exact}
use Rattle.integers.proofs.BitsLaws.{bit-or, bit-one}
use Rattle.book.specs.Register.{excludes}
use Rattle.settlement.proofs.days.with_day.Goals as goal

pub returns : goal.returns
returns c = λ d.
    let s = c.args in
    bit-or s.mask (1 * 2 ^ s.day % 2 ^ 64) d
    ∙ ap (λ (n : ℕ). excludes s.mask d || excludes n d) (shl_exact 1 s.day 64 (omega arith) (omega arith) ∙ one-mul (2 ^ s.day))
    ∙ ap (λ (b : Bool). excludes s.mask d || b) (bit-one s.day d)
