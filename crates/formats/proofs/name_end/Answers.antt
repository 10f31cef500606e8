-- A name ends where the first other byte stands, or with the text.
use Rattle.std.specs.Prelude.{◌≡◌, ℕ, ◌+◌, ◌-◌, length, take, drop}
use Rattle.std.proofs.Common.{ap, arith, length-drop, take_all}
use Rattle.formats.specs.Name.{name_byte}
use Rattle.formats.proofs.PlaceLaws.{span_position}
use Rattle.formats.proofs.name_end.Goals as goal

pub returns : goal.returns
returns c =
    let a = c.args in
    let rest = drop a.at a.s.now in
    let whole : take (length a.s.now - a.at) rest ≡ rest = take_all (length a.s.now - a.at) rest (omega (arith, length-drop a.at a.s.now)) in
    rw (c.unwrap_or.ensures, c.before_other.ensures, whole) (ap (λ (n : ℕ). a.at + n) (span_position name_byte rest))
