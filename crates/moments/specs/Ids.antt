-- Transaction IDs (document 01, "The file").
use Rattle.std.specs.Prelude.{Bool, ◌&&◌, List, ℕ, length}
use Rattle.formats.specs.Name.{name_byte, each}
use Rattle.moments.specs.Moments.{within}

-- "Transaction ID: 1 to 36 of 0-9 A-Z a-z and hyphen"
unfoldable pub is_transaction_id : List ℕ → Bool
is_transaction_id s = within 1 (length s) 36 && each name_byte s
