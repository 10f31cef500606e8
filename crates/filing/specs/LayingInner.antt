-- What laying a file gives: how many bytes and partners, or no room.
use Rattle.std.specs.Prelude.{◌≡◌, List, ℕ, ◌≤◌, ◌<◌, length, Option, Some, None}
use Rattle.refusals.specs.Buffers.{over}

-- whether there was room, whatever was counted
abbrev pub given : Option ℕ → Option Unit
given (Some n) = Some tt
given None = None

-- the length of a text, where there is room for it, and a count beside it
abbrev pub Sized : ℕ → List ℕ → ℕ → Option (ℕ × ℕ) → Type 0
Sized room text count (Some p) = (p.0 ≡ length text) × (p.0 ≤ room) × (p.1 ≡ count)
Sized room text count None = room < length text

-- a text that has room stands over the first places
abbrev pub Filed : List ℕ → List ℕ → List ℕ → Type 0
Filed text before after = length text ≤ length before → after ≡ over text before
