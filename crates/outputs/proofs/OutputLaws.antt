-- The room that a line of refusal takes; and that each way through the program's function prints what the definition says.
use Rattle.std.proofs.Math.Path.{◌≡◌, sym, ap}
use Rattle.std.specs.Prelude.{refl, List, ℕ, ◌+◌, ◌-◌, ◌^◌, ◌≤◌, ◌<◌, ℤ, take, drop, Result, Ok, Err, Some, None}
use Rattle.std.proofs.Common.{◌∙◌, le-leb, length-append, length-drop, take_all, arith}
use Rattle.std.proofs.Math.Option.{Option, none, some}
use Rattle.std.proofs.lemmas.Bool.{lt-leb}
use Rattle.std.proofs.Math.ListN.{length}
use Rattle.std.proofs.Math.Nat.{zero-add}
use Rattle.text.specs.Decimal.{plain}
use Rattle.text.specs.WrittenInner.{Wrote}
use Rattle.formats.specs.Format.{got}
use Rattle.refusals.specs.Refusals.{Refusal}
use Rattle.refusals.specs.Sent.{sent_back, said, says}
use Rattle.refusals.specs.declared.Refused.{Refused}
use Rattle.refusals.specs.declared.Refused.TheVariants.{Layout, Malformed}
use Rattle.requests.specs.declared.Asked.{Asked}
use Rattle.requests.specs.Line.{Words, line}
use Rattle.requests.proofs.LineLaws.{placed, found, found_none}
use Rattle.book.specs.Book.{book_of}
use Rattle.volumes.specs.Settlement.{rows, row_count}
use Rattle.refusals.specs.Buffers.{over, afterwards}
use Rattle.reports.specs.Calls.{text_of, file_refusal, file_answer, FileCalled}
use Rattle.kinds.specs.Numbers.{kind_numbered}
use Rattle.message.proofs.CallsLaws.{written_over}
use Rattle.outputs.specs.Output.{input_most, rows_lent, file_lent, refused_line, file_for, refusal_for, judged, file_in, rows_in, output, Printed}
use Rattle.outputs.specs.OutputInner.{Filed}
use Rattle.requests.specs.LineInner.{asked, request_of}
use Rattle.text.proofs.DecimalLaws.{few-digits}

-- a number of 64 bits has at most 20 digits
pub digits-few : (v : ℕ) → v < 2 ^ 64 → length (plain v) ≤ 20
digits-few v h = few-digits 20 v (omega arith) (omega arith)

-- the same, as the check cites it
pub ruleset few_places = (digits-few)

-- ---- what is printed

-- of any refusal, where the rows are as they were
module _ (input : List ℕ) where
  pub refusal-printed : (r : Refusal) (rows : List ℤ) (before after : List ℕ) (q : ℕ) → judged (length input) (line.parse input) ≡ some r
      → Wrote before 0 (refused_line r.number r.item) after q → Printed input rows rows before after q
  unfolding output afterwards
  refusal-printed r rows before after q e w =
      record {
        counted = rw e (w.behind ∙ zero-add (length (refused_line r.number r.item)));
        file = rw e (w.list ∙ written_over before (refused_line r.number r.item));
        rows = rw e;
      }

  pub no_line-printed : (rows : List ℤ) (before after : List ℕ) (q : ℕ) → None ≡ request_of input → Wrote before 0 (refused_line 12 0) after q → Printed input rows rows before after q
  no_line-printed rows before after q e w = refusal-printed (record { number = 12; item = 0 }) rows before after q (ap (judged (length input)) (found_none input e)) w

  pub too_long-printed : (a : Asked) (rows : List ℤ) (before after : List ℕ) (q : ℕ) → Some a ≡ request_of input → input_most < length input
      → Wrote before 0 (refused_line 2 0) after q → Printed input rows rows before after q
  unfolding refusal_for
  too_long-printed a rows before after q l h w =
      refusal-printed (record { number = 2; item = 0 }) rows before after q (ap (judged (length input)) (found input a l).parsed ∙ rw (lt-leb (length input) input_most h)) w

-- what the file that is asked for leaves, by its judgement
record Left (input : List ℕ) (x : Option Refusal) (rows_before rows_after : List ℤ) (before after : List ℕ) (r : Result ℕ Refusal) : Type 0 where
  judgement : judged (length input) (line.parse input) ≡ x
  answer : r ≡ says x (length (file_in (line.parse input)))
  rows : rows_after ≡ afterwards x (rows_in (line.parse input)) rows_before
  file : after ≡ afterwards x (file_in (line.parse input)) before

module _ (input : List ℕ) (rows_before rows_after : List ℤ) (before between : List ℕ) where
  left : {r : Result ℕ Refused} → Filed input rows_before rows_after before between r → Left input (judged (length input) (line.parse input)) rows_before rows_after before between (said r)
  left f = record { judgement = refl; answer = f.answer; rows = f.rows; file = f.file }

  accepted-by : (x : Option Refusal) (count : ℕ) → Left input x rows_before rows_after before between (Ok count) → Printed input rows_before rows_after before between count
  unfolding output afterwards
  accepted-by none count k =
      let c : count ≡ length (file_in (line.parse input)) = cc k.answer in
      record { counted = rw k.judgement c; file = rw k.judgement k.file; rows = rw k.judgement k.rows }
  accepted-by (some r) count k = let z : ◌≡◌ {A = ℕ} 0 1 = cc k.answer in absurd (omega arith)

  pub printed-file : (count : ℕ) → Filed input rows_before rows_after before between (Ok count) → Printed input rows_before rows_after before between count
  printed-file count f = accepted-by (judged (length input) (line.parse input)) count (left f)

  refused-by : (x : Option Refusal) (e : Refusal) (after : List ℕ) (q : ℕ) → Left input x rows_before rows_after before between (Err e)
      → Wrote between 0 (refused_line e.number e.item) after q → Printed input rows_before rows_after before after q
  unfolding afterwards
  refused-by none e after q k w = let z : ◌≡◌ {A = ℕ} 0 1 = cc k.answer in absurd (omega arith)
  refused-by (some r) e after q k w =
      let s : e ≡ r = cc k.answer in
      let w' : Wrote before 0 (refused_line r.number r.item) after q = rw (← s, ← k.file) w in
      rw k.rows (refusal-printed input r rows_before before after q k.judgement w')

  pub printed-refused : (e : Refused) (after : List ℕ) (q : ℕ) → Filed input rows_before rows_after before between (Err e)
      → Wrote between 0 (refused_line (sent_back e).number (sent_back e).item) after q → Printed input rows_before rows_after before after q
  printed-refused e after q f w = refused-by (judged (length input) (line.parse input)) (sent_back e) after q (left f) w

-- the output lies in the buffer
pub printed-fits : {input : List ℕ} {rows_before rows_after : List ℤ} {before after : List ℕ} {count : ℕ} → Printed input rows_before rows_after before after count → count ≤ length after
unfolding over
printed-fits {input} {before = before} p = omega (arith, p.counted, ap length p.file, length-append (output input) (drop (length (output input)) before))

-- ---- a refusal before the file call

module _ (input : List ℕ) (rows_before : List ℤ) (before : List ℕ) where
  unfiled : (e : Refused) → judged (length input) (line.parse input) ≡ some (sent_back e) → Filed input rows_before rows_before before before (Err e)
  unfolding afterwards
  unfiled e j = record { answer = rw j; rows = rw j; file = rw j }

  pub no_line : None ≡ request_of input → Filed input rows_before rows_before before before (Err Malformed)
  no_line e = unfiled Malformed (ap (judged (length input)) (found_none input e))

  pub too_long : (a : Asked) → Some a ≡ request_of input → input_most < length input → Filed input rows_before rows_before before before (Err Layout)
  unfolding refusal_for
  too_long a l h = unfiled Layout (ap (judged (length input)) (found input a l).parsed ∙ rw (lt-leb (length input) input_most h))

-- ---- the file call, of the parts of the input

abbrev book_part : List ℕ → Asked → List ℕ
book_part input a = drop a.book input

abbrev id_part : List ℕ → Asked → List ℕ
id_part input a = take a.id_length (drop a.id input)

abbrev moment_part : List ℕ → Asked → List ℕ
moment_part input a = take 29 (drop a.moment input)

unfoldable refusal_on : List ℕ → Asked → Option Refusal
refusal_on input a = file_refusal (book_part input a) a.kind a.receiver (id_part input a) (moment_part input a) rows_lent file_lent

unfoldable text_on : List ℕ → Asked → List ℕ
text_on input a = text_of (book_of (book_part input a)) (kind_numbered a.kind) a.receiver (id_part input a) (moment_part input a)

unfoldable rows_on : List ℕ → Asked → List ℤ
rows_on input a = rows (book_of (book_part input a))

module _ (input : List ℕ) (w : Words) (rest : List ℕ) (e : line.parse input ≡ got w rest) where
  refusal-on : length input ≤ input_most → judged (length input) (line.parse input) ≡ refusal_on input (asked w)
  unfolding refusal_for refusal_on asked
  refusal-on h =
      let p = placed input w rest e in
      ap (judged (length input)) e ∙ rw (le-leb (length input) input_most h) (sym (rw (p.id, p.moment, p.book)))

  text-on : file_in (line.parse input) ≡ text_on input (asked w)
  unfolding file_for text_on asked
  text-on = let p = placed input w rest e in ap file_in e ∙ sym (rw (p.id, p.moment, p.book))

  rows-on : rows_in (line.parse input) ≡ rows_on input (asked w)
  unfolding rows_on asked
  rows-on = let p = placed input w rest e in ap rows_in e ∙ sym (rw p.book)

-- the parts of the input that are lent to the file call lie in it
pub record Inside (input : List ℕ) (a : Asked) : Type 0 where
  pub id : a.id + a.id_length ≤ length input
  pub moment : a.moment + 29 ≤ length input
  pub book : a.book ≤ length input

pub inside : (input : List ℕ) (a : Asked) → Some a ≡ request_of input → Inside input a
unfolding asked
inside input a l =
    let f = found input a l in
    let r = (placed input f.words f.rest f.parsed).room in
    record {
      id = omega (arith, r, ap (λ (b : Asked). b.id) f.is, ap (λ (b : Asked). b.id_length) f.is);
      moment = omega (arith, r, ap (λ (b : Asked). b.moment) f.is);
      book = omega (arith, r, ap (λ (b : Asked). b.book) f.is);
    }

-- the same, as the check cites it
module _ (input : List ℕ) (a : Asked) (l : Some a ≡ request_of input) where
  pub inside-id : a.id + a.id_length ≤ length input
  inside-id = (inside input a l).id

  pub inside-moment : a.moment + 29 ≤ length input
  inside-moment = (inside input a l).moment

  pub inside-book : a.book ≤ length input
  inside-book = (inside input a l).book

pub ruleset parts_inside = (inside-id, inside-moment, inside-book)

-- an answer without the number of settlement rows
abbrev pub bytes_of : {R : Type 0} → Result (ℕ × ℕ) R → Result ℕ R
bytes_of (Ok counts) = Ok counts.1
bytes_of (Err e) = Err e

bytes-says : (x : Option Refusal) (m n : ℕ) → bytes_of (says x (m, n)) ≡ says x n
bytes-says none m n = refl
bytes-says (some r) m n = refl

bytes-said : (r : Result (ℕ × ℕ) Refused) → said (bytes_of r) ≡ bytes_of (said r)
bytes-said (Ok counts) = refl
bytes-said (Err e) = refl

module _ (input : List ℕ) (a : Asked) (l : Some a ≡ request_of input) where
  -- the parts are what the slices hold
  pub parts-on : (kind receiver : ℕ) (rows_before rows_after : List ℤ) (before after : List ℕ) (r : Result (ℕ × ℕ) Refusal)
      → FileCalled (take (length input - a.book) (drop a.book input)) kind receiver (take (a.id + a.id_length - a.id) (drop a.id input)) (take (a.moment + 29 - a.moment) (drop a.moment input)) rows_before rows_after before after r
      → FileCalled (book_part input a) kind receiver (id_part input a) (moment_part input a) rows_before rows_after before after r
  parts-on kind receiver rows_before rows_after before after r c =
      let b : take (length input - a.book) (drop a.book input) ≡ book_part input a = take_all (length input - a.book) (drop a.book input) (omega (arith, length-drop a.book input)) in
      let i : a.id + a.id_length - a.id ≡ a.id_length = omega arith in
      let m : a.moment + 29 - a.moment ≡ 29 = omega arith in
      rw (b, i, m) at c

  module _ (h : length input ≤ input_most) (rows_before rows_after : List ℤ) (before after : List ℕ) (eʳ : length rows_before ≡ rows_lent) (eᶠ : length before ≡ file_lent) where
    abbrev Called : Result (ℕ × ℕ) Refusal → Type 0
    Called r = FileCalled (book_part input a) a.kind a.receiver (id_part input a) (moment_part input a) rows_before rows_after before after r

    called-on : (r : Result (ℕ × ℕ) Refusal) → Called r → Left input (judged (length input) (line.parse input)) rows_before rows_after before after (bytes_of r)
    unfolding refusal_on text_on rows_on file_answer
    called-on r c =
        let f = found input a l in
        let j : judged (length input) (line.parse input) ≡ refusal_on input a = refusal-on input f.words f.rest f.parsed h ∙ ap (refusal_on input) (sym f.is) in
        let t : file_in (line.parse input) ≡ text_on input a = text-on input f.words f.rest f.parsed ∙ ap (text_on input) (sym f.is) in
        let s : rows_in (line.parse input) ≡ rows_on input a = rows-on input f.words f.rest f.parsed ∙ ap (rows_on input) (sym f.is) in
        let e : r ≡ says (refusal_on input a) (row_count (book_of (book_part input a)), length (text_on input a)) = rw (← eʳ, ← eᶠ) c.answer in
        record {
          judgement = refl;
          answer = rw (j, t) (ap bytes_of e ∙ bytes-says (refusal_on input a) (row_count (book_of (book_part input a))) (length (text_on input a)));
          rows = rw (j, s, ← eʳ, ← eᶠ) c.rows;
          file = rw (j, t, ← eʳ, ← eᶠ) c.file;
        }

    pub file-accepted : (n count : ℕ) → Called (Ok (n, count)) → Printed input rows_before rows_after before after count
    file-accepted n count c = accepted-by input rows_before rows_after before after (judged (length input) (line.parse input)) count (called-on (Ok (n, count)) c)

    pub file-refused : (number item : ℕ) (out : List ℕ) (q : ℕ) → Called (Err (record { number = number; item = item })) → Wrote after 0 (refused_line number item) out q → Printed input rows_before rows_after before out q
    file-refused number item out q c w =
        let e : Refusal = record { number = number; item = item } in
        refused-by input rows_before rows_after before after (judged (length input) (line.parse input)) e out q (called-on (Err e) c) w

    pub filed : (r : Result (ℕ × ℕ) Refused)
        → FileCalled (take (length input - a.book) (drop a.book input)) a.kind a.receiver (take (a.id + a.id_length - a.id) (drop a.id input)) (take (a.moment + 29 - a.moment) (drop a.moment input)) rows_before rows_after before after (said r)
        → Filed input rows_before rows_after before after (bytes_of r)
    filed r c =
        let k = called-on (said r) (parts-on a.kind a.receiver rows_before rows_after before after (said r) c) in
        record { answer = bytes-said r ∙ k.answer; rows = k.rows; file = k.file }
