-- From the reading of a file at a cursor to what the call answers: no file, bytes left behind one, or all of a file, whose rows were stored.
use Rattle.std.specs.Prelude.{IsErrAnd, ◌≡◌, refl, ℕ, suc, ◌*◌, ◌/◌, ◌^◌, ◌≤◌, ◌<◌, length, drop, get_or, Some, None, Result, Ok, Err}
use Rattle.std.proofs.Common.{sym, ap, ◌∙◌, subst, arith, length-append, drop_of_length-le, drop-cons}
use mathlib.Core.List.{List, [], ◌∷◌, ◌++◌}
use Rattle.integers.specs.All.{All}
use Rattle.refusals.specs.Buffers.{over, afterwards}
use Rattle.refusals.specs.declared.Refused.{Refused}
use Rattle.refusals.specs.declared.Refused.TheVariants.{Short, NoFile}
use Rattle.refusals.specs.Sent.{said}
use Rattle.formats.specs.Format.{Res, got, bad}
use Rattle.formats.specs.FormatLaws.{sound-of}
use Rattle.formats.specs.Combine.{map_parse}
use Rattle.cursor.specs.declared.Cursor.{Cursor}
use Rattle.cursor.proofs.ReadsLaws.{left}
use Rattle.message.specs.declared.FileFacts.{FileFacts}
use Rattle.message.specs.Contents.{File}
use Rattle.message.specs.Bytes.{file_bytes}
use Rattle.message.specs.Valid.{periods, first_of, IsFile}
use Rattle.message.specs.Months.{after}
use Rattle.message.specs.Reading.{file_parse, message_parse}
use Rattle.message.specs.Rows.{Row, rows_of, numbers, Message, message}
use Rattle.message.specs.Messages.{read_message}
use Rattle.message.specs.Calls.{id_place, moment_place, facts_of, read_refusal, message_in, read_answer, ReadCalled}
use Rattle.message.proofs.FileForm.{file}
use Rattle.message.proofs.ReadingLaws.{file-parse}
use Rattle.message.proofs.SizeLaws.{file-least}
use Rattle.message.proofs.CallsLaws.{says-no-file, says-short, says-file, written_over, accepted-is, called-refused}
use Rattle.series_reader.specs.declared.rows.Rows.{Rows}
use Rattle.series_reader.specs.RowsInner.{held, with_rows, Filled}
use Rattle.series_reader.proofs.RowsLaws.{rows-fit, rows-counted}
use Rattle.series_reader.proofs.FillingLaws.{filled-got, filled-none}
use Rattle.reader.specs.FileInner.{Kept, kept_of_file, rows_of_file, file_told, facts_in, RowsRead}
use Rattle.reader.proofs.PartnersLaws.{rows-are}

-- ---- the bytes, and the file by its rows

module _ (s : List ℕ) where
  no-file : file_parse s ≡ bad → read_message s ≡ bad
  unfolding message_parse map_parse
  no-file e = rw e

  bytes_left : (f : File) (x : ℕ) (r : List ℕ) → file_parse s ≡ got f (x ∷ r) → read_message s ≡ bad
  unfolding message_parse map_parse
  bytes_left f x r e = rw e

  all-of : (f : File) → file_parse s ≡ got f [] → read_message s ≡ got (message f) []
  unfolding message_parse map_parse
  all-of f e = rw e

  is-file : (f : File) (r : List ℕ) → file_parse s ≡ got f r → (s ≡ file_bytes f ++ r) × IsFile f
  unfolding file
  is-file f r e = sound-of file s f r (ap (λ (g : List ℕ → Res File). g s) file-parse ∙ e)

-- a file has fewer rows than bytes
few-rows : (s : List ℕ) (f : File) (r : List ℕ) → s ≡ file_bytes f ++ r → length (rows_of f.partners) ≤ length s
few-rows s f r e = omega (arith, file-least f, ap length e, length-append (file_bytes f) r)

-- ---- the month: all series are of the first one's

after_same : (q : ℕ × ℕ) (l : List (ℕ × ℕ)) → All (λ x. x ≡ q) l → after q l ≡ q
unfolding after All
after_same q [] a = refl
after_same q (x ∷ l) a = ap (λ (y : ℕ × ℕ). after y l) a.0 ∙ after_same q l a.1

after_first : (l : List (ℕ × ℕ)) → All (λ x. x ≡ first_of l) l → after (0, 0) l ≡ first_of l
unfolding after All first_of
after_first [] a = refl
after_first (q ∷ l) a = after_same q l a.1

-- ---- what is told

told-is : (f : File) (t : FileFacts) (n : ℕ) → IsFile f → kept_of_file 0 f ≡ file_told t → n ≡ length (rows_of f.partners)
    → facts_of (message f) ≡ record { kind = t.kind; receiver = t.receiver; year = t.year; month = t.month; rows = n; id = t.id; id_length = t.id_length; moment = t.moment }
unfolding facts_of message
told-is f t n ok e count =
    let month = sym (after_first (periods f.partners) ok.same) ∙ ap (λ (k : Kept). k.1.0) e in
    let id : id_place f.kind ≡ t.id = omega (arith, ap (λ (k : Kept). k.1.1.0) e) in
    let moment : moment_place f.kind f.id ≡ t.moment = omega (arith, ap (λ (k : Kept). k.1.1.1.1) e) in
    λ i. record {
      kind = (e i).0.0;
      receiver = (e i).0.1;
      year = (month i).0;
      month = (month i).1;
      rows = sym count i;
      id = id i;
      id_length = (e i).1.1.1.0;
      moment = moment i;
    }

-- ---- by the cursor

from-first : (s : List ℕ) (c : Cursor) → c.at ≡ 0 → c.text.now ≡ s → left c ≡ s
from-first s c at text = rw (at, text) refl

-- all of a file was read
pub record AllRead (s : List ℕ) (t : FileFacts) (before after : Rows) : Type 0 where
  pub message : Message
  pub read : read_message s ≡ got message []
  pub facts : facts_of message ≡ record { kind = t.kind; receiver = t.receiver; year = t.year; month = t.month; rows = after.count; id = t.id; id_length = t.id_length; moment = t.moment }
  pub rows : 6 * length message.rows ≤ length before.numbers.now → after.numbers.now ≡ over (numbers message.rows) before.numbers.now

module _ (s : List ℕ) {c d : Cursor} {before after : Rows} (at : c.at ≡ 0) (text : c.text.now ≡ s) where
  pub none-read : Filled file_parse (kept_of_file c.at) rows_of_file c d before after None → read_message s ≡ bad
  none-read h = no-file s (ap file_parse (sym (from-first s c at text)) ∙ (filled-none h).found)

  pub some-left : (k : Kept) → Filled file_parse (kept_of_file c.at) rows_of_file c d before after (Some k) → (d.at ≡ length s → ⊥) → read_message s ≡ bad
  some-left k h n =
      let g = filled-got h in
      let t : d.text.now ≡ s = g.read.text ∙ text in
      let i = d.inside in
      let less : d.at < length s = omega (arith, ap length t) in
      let rest : left d ≡ get_or s d.at 0 ∷ drop (suc d.at) s = ap (drop d.at) t ∙ drop-cons s d.at 0 less in
      bytes_left s g.value (get_or s d.at 0) (drop (suc d.at) s) (ap file_parse (sym (from-first s c at text)) ∙ g.read.found ∙ ap (got g.value) rest)

  pub some-all : (t : FileFacts) → before.count ≡ 0 → length s < 2 ^ 64 → Filled file_parse (kept_of_file c.at) rows_of_file c d before after (Some (file_told t)) → d.at ≡ length s
      → AllRead s t before after
  unfolding message
  some-all t none small h end =
      let g = filled-got h in
      let f = g.value in
      let l = rows_of f.partners in
      let e : d.text.now ≡ s = g.read.text ∙ text in
      let nothing : left d ≡ [] = ap (drop d.at) e ∙ drop_of_length-le s {i = d.at} (omega arith) in
      let parsed = ap file_parse (sym (from-first s c at text)) ∙ g.read.found ∙ ap (got f) nothing in
      let is = is-file s f [] parsed in
      let few = few-rows s f [] is.0 in
      let kept = ap (λ (n : ℕ). kept_of_file n f) (sym at) ∙ g.is in
      let stored : held after ≡ with_rows l (before.numbers.now, 0) = g.rows ∙ ap (λ (r : List Row). with_rows r (held before)) (rows-are f.partners) ∙ ap (λ (n : ℕ). with_rows l (before.numbers.now, n)) none in
      let count : after.count ≡ length l = ap (λ (p : List ℕ × ℕ). p.1) stored ∙ omega (arith, rows-counted l (before.numbers.now, 0) (omega arith)) in
      record {
        message = message f;
        read = all-of s f parsed;
        facts = told-is f t after.count is.1 kept count;
        rows = λ room.
            ap (λ (p : List ℕ × ℕ). p.0) stored ∙ ap (λ (p : List ℕ × ℕ). p.0) (rows-fit l before.numbers.now 0 (omega arith) (omega arith)) ∙ written_over before.numbers.now (numbers l);
      }

-- ---- from what is told to what was read

pub record FactsTold (s : List ℕ) (t : FileFacts) : Type 0 where
  pub message : Message
  pub rest : List ℕ
  pub read : read_message s ≡ got message rest
  pub facts : t ≡ facts_of message
  pub many : t.rows ≡ length message.rows

told-none : (x : Res Message) → None ≡ facts_in x → x ≡ bad
told-none bad e = refl
told-none (got m r) e = cc

told-some : (s : List ℕ) (t : FileFacts) → Some t ≡ facts_in (read_message s) → FactsTold s t
unfolding facts_of
told-some s t e = go (read_message s) refl e
  where
    go : (x : Res Message) → read_message s ≡ x → Some t ≡ facts_in x → FactsTold s t
    go bad f e = cc
    go (got m r) f e = let g : t ≡ facts_of m = cc in record { message = m; rest = r; read = f; facts = g; many = ap (λ (k : FileFacts). k.rows) g }

-- ---- what is told is what the call answers

module _ (s : List ℕ) (lent : ℕ) where
  pub answers_none : None ≡ facts_in (read_message s) → said (Err NoFile) ≡ read_answer s lent
  answers_none e = says-no-file s lent (told-none (read_message s) e)

  pub answers_short : (t : FileFacts) → Some t ≡ facts_in (read_message s) → lent / 6 < t.rows → said (Err (Short 0)) ≡ read_answer s lent
  answers_short t e h = let g = told-some s t e in says-short s lent g.message g.rest g.read (omega (arith, g.many))

  pub answers_file : (t : FileFacts) → Some t ≡ facts_in (read_message s) → t.rows ≤ lent / 6 → said (Ok t) ≡ read_answer s lent
  answers_file t e h = let g = told-some s t e in ap (λ (f : FileFacts). said (Ok f)) g.facts ∙ says-file s lent g.message g.rest g.read (omega (arith, g.many))

-- ---- the rows, by the second reading

pub file_called : (s before after : List ℕ) (t : FileFacts) → said (Ok t) ≡ read_answer s (length before) → RowsRead (read_message s) before after → ReadCalled s before after (Ok t)
file_called s before after t e h =
    let a = accepted-is s before (afterwards (read_refusal (read_message s) (length before)) (numbers (message_in (read_message s)).rows) before) t (record { answer = e; rows = refl }) in
    record { answer = e; rows = subst (λ (x : Res Message). RowsRead x before after) a.read h a.long ∙ sym a.rows }

-- a refusal is passed on
pub refusal_called : (s rows : List ℕ) (e : Refused) (r : Result FileFacts Refused) → IsErrAnd r (λ f. f ≡ e) → said (Err e) ≡ read_answer s (length rows) → ReadCalled s rows rows r
refusal_called s rows e (Ok t) i a = absurd i
refusal_called s rows e (Err f) i a = called-refused s rows f (ap (λ (g : Refused). said (Err g)) i ∙ a)
