-- Each section is a part of the book, by the number of its extent.
use Rattle.std.specs.Prelude.{◌≡◌, List, ℕ, zero, suc, ◌+◌, ◌≤◌, length}
use Rattle.std.proofs.Common.{arith}
use Rattle.std.proofs.Math.Option.{none}
use Rattle.book.specs.Header.{offset_of, length_of}
use Rattle.book.specs.declared.Section.TheVariants.{Calendar, Table, Register, Readings, Engagements}
use Rattle.book.specs.Judged.{refusal_of}
use Rattle.settlement.specs.SectionsLaws.{section-inside}

pub extent-inside : (bytes : List ℕ) → refusal_of bytes ≡ none → (k : ℕ) → k ≤ 4 → offset_of bytes k + length_of bytes k ≤ length bytes
extent-inside bytes e zero h = section-inside bytes e Calendar
extent-inside bytes e (suc zero) h = section-inside bytes e Table
extent-inside bytes e (suc (suc zero)) h = section-inside bytes e Register
extent-inside bytes e (suc (suc (suc zero))) h = section-inside bytes e Readings
extent-inside bytes e (suc (suc (suc (suc zero)))) h = section-inside bytes e Engagements
extent-inside bytes e (suc (suc (suc (suc (suc n))))) h = absurd (omega arith)
