-- After i bytes the flag tells whether they were the tag's: the text has the tag if so, and if it has the rest of the tag behind them.
use Rattle.std.specs.Prelude.{◌≡◌, ◌&&◌, drop}
use Rattle.text.specs.Tag.{begins}
use Rattle.text.proofs.matches.Given as goal

abbrev pub invariant-loop-i : goal.invariant-loop-i
invariant-loop-i l = begins l.tag l.rest ≡ (l.same && begins (drop l.i l.tag) (drop l.i l.rest))
