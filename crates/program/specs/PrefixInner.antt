-- How much of a buffer a read fills.
use Rattle.std.specs.Prelude.{◌≡◌, List, ℕ, ◌≤◌, length, take}

-- the first n bytes of a buffer are n bytes of it
abbrev pub IsPrefixLen : ℕ → List ℕ → Type 0
IsPrefixLen n buffer = (n ≤ length buffer) × (n ≡ length (take n buffer))
