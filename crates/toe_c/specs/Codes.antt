-- A call's answer as one number, which the functions that C links give back.
use Rattle.std.specs.Prelude.{◌≡◌, cond, List, [], ◌∷◌, ℕ, ◌+◌, ◌*◌, ◌/◌, ◌%◌, ◌^◌, ◌≤◌, ◌<◌, ℤ, leb, length, Result, Ok, Err}
use Rattle.refusals.specs.Refusals.{Refusal}
use Rattle.refusals.specs.Sent.{said}
use Rattle.refusals.specs.Buffers.{over}
use Rattle.refusals.specs.declared.Refused.{Refused}
use Rattle.kinds.specs.Numbers.{kind_number}
use Rattle.message.specs.declared.FileFacts.{FileFacts}
use Rattle.message.specs.Calls.{ReadCalled}
use Rattle.writer.specs.WriteCalls.{WriteCalled}
use Rattle.settlement.specs.Calls.{SettleCalled, settled_by}
use Rattle.reports.specs.Calls.{SheetCalled, FileCalled}

-- ---- answers and their codes

-- what an answer says to C: a count, or the refusal that is sent back
abbrev pub reply : {A : Type 0} → (A → ℕ) → Result A Refusal → Result ℕ Refusal
reply count (Ok answer) = Ok (count answer)
reply count (Err r) = Err r

-- refused: 2^63, the number times 2^32, and the item
unfoldable pub refusal_code : ℕ → ℕ → ℕ
refusal_code number item = 2 ^ 63 + number * 2 ^ 32 + item

abbrev pub code_of : Result ℕ Refusal → ℕ
code_of (Ok n) = n
code_of (Err r) = refusal_code r.number r.item

-- a refusal's code is 2^63 or more, and its number and item are taken out of it, as `TOE_NUMBER` and `TOE_ITEM` of include/toe.h do
pub record Decoded (code number item : ℕ) : Type 0 where
  pub high : 2 ^ 63 ≤ code
  pub number_is : code / 2 ^ 32 % 2 ^ 31 ≡ number
  pub item_is : code % 2 ^ 32 ≡ item

-- what a code tells: below 2^63 it is a count
abbrev pub Tells : Result ℕ Refusal → ℕ → Type 0
Tells (Ok n) code = code < 2 ^ 63
Tells (Err r) code = Decoded code r.number r.item

-- ---- the calls: each with its record, and the code of its answer

-- a call of this record, the code of its answer, and what the code tells where what is lent has such a size
pub record Coded {A : Type 0} (count : A → ℕ) (Called : Result A Refused → Type 0) (Sized : Type 0) (code : ℕ) : Type 0 where
  pub answer : Result A Refused
  pub called : Called answer
  pub coded : code ≡ code_of (reply count (said answer))
  pub told : Sized → Tells (reply count (said answer)) code

-- the count itself, and any size
abbrev pub itself : ℕ → ℕ
itself n = n

abbrev pub Any : Type 0
Any = Unit {0}

-- settling a book
abbrev pub SettleCoded : List ℕ → List ℤ → List ℤ → ℕ → Type 0
SettleCoded bytes before after = Coded itself (λ r. SettleCalled bytes before after (settled_by r)) Any

-- a party's sheet
abbrev pub SheetCoded : List ℕ → ℕ → List ℤ → List ℤ → ℕ → Type 0
SheetCoded bytes party before after = Coded itself (λ r. SheetCalled bytes party before after (said r)) Any

-- a receiver's file: of its rows and its bytes, these are counted
abbrev pub bytes_in : ℕ × ℕ → ℕ
bytes_in counts = counts.1

abbrev pub FileCoded : List ℕ → ℕ → ℕ → List ℕ → List ℕ → List ℤ → List ℤ → List ℕ → List ℕ → ℕ → Type 0
FileCoded bytes kind receiver id moment rows_before rows_after before after = Coded bytes_in (λ r. FileCalled bytes kind receiver id moment rows_before rows_after before after (said r)) Any

-- writing from rows; a buffer of 2^63 bytes, which no machine has, could hold a longer file
abbrev pub WriteCoded : ℕ → ℕ → ℕ → ℕ → List ℕ → List ℕ → List ℕ → List ℕ → List ℕ → ℕ → Type 0
WriteCoded kind receiver year month rows id moment before after = Coded itself (WriteCalled kind receiver year month rows id moment before after) (length before < 2 ^ 63)

-- ---- reading, which here puts what the file says into a buffer of its own

-- "kind, receiver, year, month", and "where ID and moment stand": each place and length; a moment has 29 bytes
unfoldable pub fact_numbers : FileFacts → List ℕ
fact_numbers f = kind_number f.kind ∷ f.receiver ∷ f.year ∷ f.month ∷ f.id ∷ f.id_length ∷ f.moment ∷ 29 ∷ []

-- at this boundary alone: fewer than eight numbers lent for facts are 10 with item 1, after 13 and 10 with item 0
unfoldable pub with_facts : ℕ → Result FileFacts Refusal → Result FileFacts Refusal
with_facts lent (Ok f) = cond (leb 8 lent) (Ok f) (Err (record { number = 10; item = 1 }))
with_facts lent (Err r) = Err r

-- "A refusal changes no buffer": the rows, of which a reading leaves these, and the facts
abbrev pub rows_by : Result FileFacts Refusal → List ℕ → List ℕ → List ℕ
rows_by (Ok f) filled before = filled
rows_by (Err r) filled before = before

abbrev pub facts_by : Result FileFacts Refusal → List ℕ → List ℕ
facts_by (Ok f) before = over (fact_numbers f) before
facts_by (Err r) before = before

-- how many rows a file has
abbrev pub rows_read : FileFacts → ℕ
rows_read f = f.rows

pub record ReadCoded (file rows_before rows_after facts_before facts_after : List ℕ) (code : ℕ) : Type 0 where
  pub answer : Result FileFacts Refused
  pub filled : List ℕ
  pub called : ReadCalled file rows_before filled answer
  pub rows : rows_after ≡ rows_by (with_facts (length facts_before) (said answer)) filled rows_before
  pub facts : facts_after ≡ facts_by (with_facts (length facts_before) (said answer)) facts_before
  pub coded : code ≡ code_of (reply rows_read (with_facts (length facts_before) (said answer)))
  pub told : Tells (reply rows_read (with_facts (length facts_before) (said answer))) code
