-- Case F of document 01, written from its two rows: its 898 bytes.
use Rattle.std.specs.Prelude.{◌≡◌, refl, ℕ, ◌≤◌, length, Ok}
use Rattle.std.proofs.Common.{ap, subst, arith}
use mathlib.Core.List.{List, flat_map}
use Rattle.text.specs.Ascii.{bytes}
use Rattle.message.specs.Valid.{periods, first_of}
use Rattle.message.specs.Rows.{numbers, message}
use Rattle.message.proofs.CaseFLaws.{series, case_f, text}
use Rattle.message.proofs.CaseFReadLaws.{row_numbers_f, filled, valid-message, message-bytes}
use Rattle.refusals.specs.Buffers.{over}
use Rattle.writer.specs.WriteCalls.{WriteCalled}
use Rattle.writer.proofs.RoundTripLaws.{message-written}

abbrev id : List ℕ
id = bytes "T-1"

abbrev moment : List ℕ
moment = bytes "2021-08-02T09:00:00.000+02:00"

text-length : length text ≡ 898
unfolding text bytes
text-length = refl

text-written : (before : List ℕ) → 898 ≤ length before → WriteCalled 1 7 2021 6 (numbers (message case_f).rows) id moment before (over text before) (Ok (length text))
unfolding message case_f series periods first_of flat_map
text-written before h =
    subst (λ (s : List ℕ). WriteCalled 1 7 2021 6 (numbers (message case_f).rows) id moment before (over s before) (Ok (length s))) message-bytes
    (message-written (message case_f) valid-message before (omega (arith, ap length message-bytes, text-length)))

pub case-F-written : (before : List ℕ) → 898 ≤ length before → WriteCalled 1 7 2021 6 row_numbers_f id moment before (over text before) (Ok 898)
case-F-written before h =
    subst (λ (l : List ℕ). WriteCalled 1 7 2021 6 l id moment before (over text before) (Ok 898)) filled
    (subst (λ (n : ℕ). WriteCalled 1 7 2021 6 (numbers (message case_f).rows) id moment before (over text before) (Ok n)) text-length (text-written before h))
