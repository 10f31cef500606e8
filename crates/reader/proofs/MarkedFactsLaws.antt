-- Laws about a reading of a file that keeps marks: what it tells is what the call answers, and a file that was judged one has its rows filled by the second reading.
-- They stand for whoever reads so; the reader itself goes by FactsLaws; MarkedFilledLaws leads from what its contracts say to these.
use Rattle.std.specs.Prelude.{◌≡◌, List, ℕ, ◌+◌, ◌-◌, ◌*◌, ◌/◌, ◌≤◌, ◌<◌, length, take, Option, Some, None, Ok, Err}
use Rattle.std.proofs.Math.Path.{refl}
use Rattle.std.proofs.Common.{sym, ap, ◌∙◌, arith}
use Rattle.formats.specs.Name.{name_byte, span}
use Rattle.formats.proofs.MarksLaws.{left, same_at}
use Rattle.kinds.specs.declared.Kind.{Kind}
use Rattle.refusals.specs.declared.Refused.TheVariants.{Short, NoFile}
use Rattle.refusals.specs.Sent.{said}
use Rattle.message.specs.declared.FileFacts.{FileFacts}
use Rattle.message.specs.Reading.{Parts}
use Rattle.message.proofs.FileForm.{file_body}
use Rattle.message.specs.Rows.{Row, numbers}
use Rattle.message.specs.Messages.{read_message}
use Rattle.refusals.specs.Buffers.{over, afterwards}
use Rattle.message.specs.Calls.{read_refusal, message_in, read_answer, ReadCalled}
use Rattle.message.proofs.CallsLaws.{accepted-is, written_over}
use Rattle.series_reader.proofs.MarkedFillingInner.{Fills}
use Rattle.reader.proofs.MarkedFileInner.{Filed, rows_of_parts}
use Rattle.reader.proofs.MarkedJudgedLaws.{judged-none, judged-left, judged-short, judged-file, parts-read, id-place, moment-place}

module _ (s : List ℕ) (lent : ℕ) {o : Option ℕ} {k : Kind} {receiver : ℕ} {t : (ℕ × ℕ) × ℕ} {b c d : Option ℕ} (f : Filed s o k receiver t b c d) where
  abbrev id : List ℕ
  id = span name_byte (left s b)

  abbrev moment : List ℕ
  moment = take 29 (left s d)

  abbrev parts : Parts
  parts = (k, (id, (moment, (receiver, (f.count, f.partners)))))

  -- 13: no file, or bytes behind it
  pub read-lost : o ≡ None → said (Err NoFile) ≡ read_answer s lent
  read-lost e = judged-none s lent parts (rw e at f.parsed)

  pub read_left : (q : ℕ) → o ≡ Some q → (q ≡ length s → ⊥) → said (Err NoFile) ≡ read_answer s lent
  read_left q e n = judged-left s lent parts q (rw e at f.parsed) n

  module _ (all : o ≡ Some (length s)) where
    -- 10: no room for its rows
    pub read_short : lent / 6 < t.1 → said (Err (Short 0)) ≡ read_answer s lent
    read_short l = judged-short s (length s) k id moment receiver f.count f.partners (rw all at f.parsed) refl lent t (f.is (length s) all) (omega arith)

    -- a file
    pub read-file : (i e m : ℕ) → b ≡ Some i → c ≡ Some e → d ≡ Some m → t.1 ≤ lent / 6
        → said (Ok (record { kind = k; receiver = receiver; year = t.0.0; month = t.0.1; rows = t.1; id = i; id_length = e - (i + 1); moment = m })) ≡ read_answer s lent
    read-file i e m at_id behind_id at_moment l =
        let p = f.places (length s) all in
        let start = same_at (sym at_id ∙ p.start) in
        let end = same_at (sym behind_id ∙ p.end) in
        let at = same_at (sym at_moment ∙ p.moment) in
        judged-file s (length s) k id moment receiver f.count f.partners (rw all at f.parsed) refl lent t (f.is (length s) all)
        i (e - (i + 1)) m (start ∙ id-place k) (omega (arith, start, end)) (omega (arith, at, id-place k, moment-place k id)) (omega arith)

-- ---- the rows, by the second reading

-- what was judged a file has its rows filled
pub read-filled : (s before after : List ℕ) (facts : FileFacts) → said (Ok facts) ≡ read_answer s (length before) → Fills file_body.parse rows_of_parts s (Some 0) 0 before after
    → ReadCalled s before after (Ok facts)
read-filled s before after facts e fills =
    let a = accepted-is s before (afterwards (read_refusal (read_message s) (length before)) (numbers (message_in (read_message s)).rows) before) facts (record { answer = e; rows = refl }) in
    let p = parts-read s a.message a.rest a.read in
    let long : 6 * (0 + length (rows_of_parts p.parts)) ≤ length before = omega (arith, a.long, ap (λ (l : List Row). length l) p.rows) in
    let w = fills.wrote 0 p.parts p.rest refl p.parsed long ∙ written_over before (numbers (rows_of_parts p.parts)) ∙ ap (λ (l : List Row). over (numbers l) before) p.rows in
    record { answer = e; rows = w ∙ sym a.rows }
