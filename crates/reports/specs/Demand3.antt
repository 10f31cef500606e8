-- Demand 3: one claim on all sheets and files of a book together, as the calls wrote them.
use Rattle.std.specs.Prelude.{◌≡◌, Bool, true, false, cond, ◌&&◌, ℕ, ◌+◌, ◌*◌, ◌≤◌, ◌<◌, eqb, ℤ, pos, length, take, get_or, Result, Ok, Err}
use mathlib.Core.List.{List, [], map, Memᴰ}
use Rattle.integers.specs.Counts.{times}
use Rattle.integers.specs.Running.{up_to}
use Rattle.integers.specs.Sums.{sum_of, sum_z}
use Rattle.integers.specs.Keep.{keep}
use Rattle.formats.specs.Format.{Res, got, bad}
use Rattle.grains.specs.Grains.{whole_watts}
use Rattle.moments.specs.Ids.{is_transaction_id}
use Rattle.book.specs.declared.Supply.{Supply}
use Rattle.book.specs.declared.Direction.{Direction}
use Rattle.book.specs.Book.{book_of}
use Rattle.quarters.specs.Quarters.{month_quarters}
use Rattle.volumes.specs.Settlement.{row_width, row_count, Accepted}
use Rattle.volumes.specs.Sheets.{parties, sheet, requested_volume}
use Rattle.volumes.specs.Series.{Kind, Toe01, Toe02, grains_at, series_of}
use Rattle.message.specs.Valid.{is_moment}
use Rattle.message.specs.Rows.{Row, Message}
use Rattle.message.specs.Messages.{read_message}
use Rattle.kinds.specs.Numbers.{kind_number}
use Rattle.reports.specs.FileRows.{supply_number, delivery_number, file_text, message_of}
use Rattle.reports.specs.Roles.{receivers}
use Rattle.reports.specs.Watts.{watts_in, directed_in, total_in}
use Rattle.reports.specs.Calls.{SheetCalled, FileCalled}
use Rattle.refusals.specs.Refusals.{Refusal}

-- ---- calls with one book: what was passed, what was lent before and after, and the answer

pub record SheetCall (bytes : List ℕ) : Type 0 where
  pub party : ℕ
  pub before : List ℤ
  pub after : List ℤ
  pub answer : Result ℕ Refusal
  pub called : SheetCalled bytes party before after answer

pub record FileCall (bytes : List ℕ) : Type 0 where
  pub kind : ℕ
  pub receiver : ℕ
  pub id : List ℕ
  pub moment : List ℕ
  pub rows_before : List ℤ
  pub rows_after : List ℤ
  pub before : List ℕ
  pub after : List ℕ
  pub answer : Result (ℕ × ℕ) Refusal
  pub called : FileCalled bytes kind receiver id moment rows_before rows_after before after answer

-- "A refused call adds no sheet or file"
unfoldable pub is_sheet : Result ℕ Refusal → Bool
is_sheet (Ok count) = true
is_sheet (Err refusal) = false

unfoldable pub is_file : Result (ℕ × ℕ) Refusal → Bool
is_file (Ok counts) = true
is_file (Err refusal) = false

unfoldable pub filled : {bytes : List ℕ} → SheetCall bytes → Bool
filled c = is_sheet c.answer

unfoldable pub wrote : {bytes : List ℕ} → Kind → FileCall bytes → Bool
wrote kind c = eqb c.kind (kind_number kind) && is_file c.answer

-- "Its sheets and files are the sums and bytes that the sheet calls and file calls wrote"
unfoldable pub sum_at : {bytes : List ℕ} → ℕ → SheetCall bytes → ℤ
sum_at q c = cond (filled c) (get_or c.after q (pos 0)) (pos 0)

unfoldable pub written : Result (ℕ × ℕ) Refusal → List ℕ → List ℕ
written (Ok counts) after = take counts.1 after
written (Err refusal) after = []

-- "A file's watts are its Quantities times 1,000", as the reader's definition finds them
unfoldable pub rows_read : Res Message → List Row
rows_read (got m rest) = m.rows
rows_read bad = []

unfoldable pub carried : {bytes : List ℕ} → FileCall bytes → List Row
carried c = rows_read (read_message (written c.answer c.after))

-- ---- "let one sheet be filled from it for every balance party, one TOE01 file be written for every provider, and one TOE02 and one TOE03 file for
-- every supplier, in its register, whatever ID and moment each is given and in whichever order"

unfoldable pub filled_for : {bytes : List ℕ} → List (SheetCall bytes) → List ℕ
filled_for calls = map (λ c. c.party) (keep filled calls)

unfoldable pub wrote_for : {bytes : List ℕ} → Kind → List (FileCall bytes) → List ℕ
wrote_for kind calls = map (λ c. c.receiver) (keep (wrote kind) calls)

pub record Whole (bytes : List ℕ) (sheets : List (SheetCall bytes)) (files : List (FileCall bytes)) : Type 0 where
  pub every_party : (party : ℕ) → Memᴰ party (parties (book_of bytes)) → times party (filled_for sheets) ≡ 1
  pub every_receiver : (kind : Kind) (receiver : ℕ) → Memᴰ receiver (receivers (book_of bytes) kind) → times receiver (wrote_for kind files) ≡ 1

-- ---- what then holds

pub record Agreed (bytes : List ℕ) (sheets : List (SheetCall bytes)) (files : List (FileCall bytes)) : Type 0 where
  -- "the corrections on the sheets of all balance parties, each as document 01 defines it"
  pub defined : (c : SheetCall bytes) → Memᴰ c sheets → filled c ≡ true
      → take (month_quarters (book_of bytes).calendar) c.after ≡ sheet (book_of bytes) c.party
  -- "in each quarter-hour of the month the corrections .. sum to the requested volume, up less down"
  pub balanced : (q : ℕ) → q < month_quarters (book_of bytes).calendar
      → sum_z (sum_at q) sheets ≡ requested_volume (book_of bytes) (q + 1)
  -- each file is of one of the three kinds, and is read as one of its kind and receiver, of the book's month (0 and 0 without series)
  pub kinds : (c : FileCall bytes) → Memᴰ c files → is_file c.answer ≡ true → (kind : Kind) × (wrote kind c ≡ true)
  pub read : (c : FileCall bytes) → Memᴰ c files → (kind : Kind) → wrote kind c ≡ true
      → read_message (written c.answer c.after) ≡ got (message_of (book_of bytes) kind c.receiver c.id c.moment) []
  -- "At each position of the month a provider's TOE01 file and a supplier's TOE02 file carry the same watts for that pair, in each supply and
  -- delivery direction"
  pub paired : (c d : FileCall bytes) → Memᴰ c files → Memᴰ d files → wrote Toe01 c ≡ true → wrote Toe02 d ≡ true
      → (u : Supply) (v : Direction) (p : ℕ) → 1 ≤ p → p ≤ month_quarters (book_of bytes).calendar
      → watts_in (carried c) d.receiver (supply_number u) (delivery_number v) p ≡ watts_in (carried d) c.receiver (supply_number u) (delivery_number v) p
  -- "and all TOE01 files together carry the watts of all TOE02 files": in each direction, and over all
  pub directed : (supply delivery p : ℕ)
      → sum_of (λ c. cond (wrote Toe01 c) (directed_in (carried c) supply delivery p) 0) files ≡ sum_of (λ c. cond (wrote Toe02 c) (directed_in (carried c) supply delivery p) 0) files
  pub together : (p : ℕ)
      → sum_of (λ c. cond (wrote Toe01 c) (total_in (carried c) p) 0) files ≡ sum_of (λ c. cond (wrote Toe02 c) (total_in (carried c) p) 0) files
  -- "In every series that document 01 defines for any of these files, written or not, the watts up to each position are the exact delivered volume
  -- of its points in its delivery direction (its grains in document 01) up to there, rounded down once to whole watts."
  pub rounded : (c : FileCall bytes) → Memᴰ c files → (kind : Kind) → wrote kind c ≡ true
      → (partner : ℕ) (u : Supply) (v : Direction) (p : ℕ) → p ≤ month_quarters (book_of bytes).calendar
      → up_to (watts_in (carried c) partner (supply_number u) (delivery_number v)) p ≡ whole_watts (up_to (grains_at (book_of bytes) kind c.receiver (series_of partner u v)) p)

-- "on an accepted book no sheet or file call is refused that names a party of the register, or a receiver in its role with ID and moment in form, and
-- lends long enough buffers"
pub record Answered (bytes : List ℕ) : Type 0 where
  pub sheet_call : (c : SheetCall bytes) → Memᴰ c.party (parties (book_of bytes)) → month_quarters (book_of bytes).calendar ≤ length c.before
      → c.answer ≡ Ok (month_quarters (book_of bytes).calendar)
  pub file_call : (c : FileCall bytes) (kind : Kind) → c.kind ≡ kind_number kind → Memᴰ c.receiver (receivers (book_of bytes) kind)
      → is_transaction_id c.id ≡ true → is_moment c.moment ≡ true
      → row_width * row_count (book_of bytes) ≤ length c.rows_before
      → length (file_text (book_of bytes) kind c.receiver c.id c.moment) ≤ length c.before
      → c.answer ≡ Ok (row_count (book_of bytes), length (file_text (book_of bytes) kind c.receiver c.id c.moment))

-- "For every accepted book"
pub record Holds (bytes : List ℕ) : Type 0 where
  pub answered : Answered bytes
  pub agreed : (sheets : List (SheetCall bytes)) (files : List (FileCall bytes)) → Whole bytes sheets files → Agreed bytes sheets files

abbrev pub Demand3 : Type 0
Demand3 = (bytes : List ℕ) → Accepted bytes → Holds bytes

-- ---- and there are such calls of every accepted book

pub record Calls (bytes : List ℕ) : Type 0 where
  pub sheets : List (SheetCall bytes)
  pub files : List (FileCall bytes)
  pub whole : Whole bytes sheets files

abbrev pub Possible : Type 0
Possible = (bytes : List ℕ) → Accepted bytes → (id moment : List ℕ) → is_transaction_id id ≡ true → is_moment moment ≡ true → Calls bytes
