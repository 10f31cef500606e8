-- The round trip of the calls: that of the file's form, at the numbers of its rows and the places of ID and moment.
use Rattle.std.specs.Prelude.{◌≡◌, refl, true, ◌&&◌, ℕ, ◌*◌, ◌^◌, ◌≤◌, ltb, drop, Result, Ok}
use Rattle.std.proofs.Math.Path.{sym, ap, subst}
use Rattle.std.proofs.Common.{◌∙◌, arith}
use mathlib.Core.List.{List, []}
use Rattle.std.proofs.Math.Option.{some}
use Rattle.std.proofs.Math.ListN.{length, take}
use Rattle.integers.proofs.TestsLaws.{and_left, and_right, and_both}
use Rattle.formats.specs.Format.{got}
use Rattle.formats.specs.FormatLaws.{got-bad}
use Rattle.text.proofs.DecimalLaws.{true-false}
use Rattle.kinds.specs.declared.Kind.{Kind}
use Rattle.message.specs.declared.FileFacts.{FileFacts}
use Rattle.refusals.specs.declared.Refused.{Refused}
use Rattle.message.proofs.FileForm.{moment-length}
use Rattle.message.specs.Rows.{numbers, rows_in, in_sixes, Message, contents, IsMessage}
use Rattle.message.proofs.SixesLaws.{numbers-rows, length-numbers, rows-numbers, numbers-sixes}
use Rattle.message.specs.Messages.{message_bytes, read_message}
use Rattle.message.proofs.FileLaws.{written-is-read, read-is-written}
use Rattle.refusals.specs.Buffers.{over}
use Rattle.kinds.specs.Numbers.{kind_numbered, kind_number}
use Rattle.message.specs.Calls.{id_place, moment_place, facts_of, ReadCalled}
use Rattle.kinds.specs.NumbersLaws.{kind-numbered, number-kind}
use Rattle.refusals.specs.BuffersLaws.{over_first}
use Rattle.message.proofs.CallsLaws.{called-file, ReadAccepted, accepted-is, refused-is, one-reading, id-stands, moment-stands}
use Rattle.writer.specs.Rows.{is_rows, of_month, rows_message}
use Rattle.writer.proofs.RowsLaws.{rows-message, message-rows}
use Rattle.writer.specs.WriteCalls.{WriteCalled}
use Rattle.writer.proofs.WriteCallsLaws.{WriteAccepted, write-accepted, wrote-file, refused-rows, one-write}
use Rattle.writer.specs.RoundTrip.{id_in, moment_in, GivesBack, NoRows, RoundTrip}

in-sixes : (k : Kind) (receiver year month : ℕ) (l : List ℕ) → is_rows k receiver year month l ≡ true → in_sixes l ≡ true
unfolding is_rows
in-sixes k receiver year month l e =
    let b = and_right (ltb receiver (10 ^ 10)) (in_sixes l && of_month k year month (rows_in l)) e in
    and_left (in_sixes l) (of_month k year month (rows_in l)) b

-- ---- what is written is read

module _ (number receiver year month : ℕ) (rows id moment before after : List ℕ) (n : ℕ) (a : WriteAccepted number receiver year month rows id moment before after n) where
  abbrev made : Message
  made = rows_message a.kind receiver year month rows id moment

  made_bytes : take n after ≡ message_bytes made
  made_bytes = ap (take n) a.file ∙ over_first (message_bytes made) before n (sym a.count)

  made-is : IsMessage made
  made-is = rows-message a.kind receiver year month rows id moment a.judged a.named a.timed

  made-read : read_message (take n after) ≡ got made []
  made-read = ap read_message made_bytes ∙ written-is-read made made-is

  made-rows : numbers (rows_in rows) ≡ rows
  made-rows = numbers-rows rows (in-sixes a.kind receiver year month rows a.judged)

  made-count : 6 * length (rows_in rows) ≡ length rows
  made-count = sym (length-numbers (rows_in rows)) ∙ ap length made-rows

  gives_back : (lent filled : List ℕ) (r : Result FileFacts Refused) → ReadCalled (take n after) lent filled r → length rows ≤ length lent
      → GivesBack number receiver year month rows id moment (take n after) filled r
  unfolding facts_of
  gives_back lent filled r c h =
      let d = one-reading c (called-file (take n after) lent made [] made-read (omega (arith, made-count))) in
      record {
        facts = facts_of made;
        answer = d.0;
        same_kind = number-kind number a.kind a.numbered;
        same_receiver = refl;
        same_year = refl;
        same_month = refl;
        count = made-count;
        same_rows = ap (take (6 * length (rows_in rows))) d.1 ∙ over_first (numbers (rows_in rows)) lent (6 * length (rows_in rows)) (length-numbers (rows_in rows)) ∙ made-rows;
        same_id = ap (λ (s : List ℕ). take (length id) (drop (id_place a.kind) s)) made_bytes ∙ id-stands made;
        same_moment = ap (λ (j : ℕ). take j (drop (moment_place a.kind id) (take n after))) (sym (moment-length moment a.timed))
            ∙ ap (λ (s : List ℕ). take (length moment) (drop (moment_place a.kind id) s)) made_bytes ∙ moment-stands made;
      }

-- ---- what is read is written again

module _ (m : Message) (ok : IsMessage m) where
  abbrev again : Message
  again = rows_message m.kind m.receiver m.year m.month (numbers m.rows) m.id m.moment

  again-is : again ≡ m
  again-is =
      let r = rows-numbers m.rows in
      λ i. record { kind = m.kind; receiver = m.receiver; id = m.id; moment = m.moment; year = m.year; month = m.month; rows = r i }

  again-judged : is_rows m.kind m.receiver m.year m.month (numbers m.rows) ≡ true
  again-judged =
      message-rows m.kind m.receiver m.year m.month (numbers m.rows) m.id m.moment (numbers-sixes m.rows) (subst IsMessage (sym again-is) ok)

  pub message-written : (before : List ℕ) → length (message_bytes m) ≤ length before
      → WriteCalled (kind_number m.kind) m.receiver m.year m.month (numbers m.rows) m.id m.moment before (over (message_bytes m) before) (Ok (length (message_bytes m)))
  unfolding contents
  message-written before h =
      let e : message_bytes again ≡ message_bytes m = ap message_bytes again-is in
      let w = wrote-file (kind_number m.kind) m.receiver m.year m.month (numbers m.rows) m.id m.moment before m.kind (kind-numbered m.kind) again-judged
      (and_both ok.file.id ok.file.moment) (omega (arith, ap length e)) in
      subst
      (λ (l : List ℕ). WriteCalled (kind_number m.kind) m.receiver m.year m.month (numbers m.rows) m.id m.moment before (over l before) (Ok (length l)))
      e w

  again-written : (before after : List ℕ) (r : Result ℕ Refused) → WriteCalled (kind_number m.kind) m.receiver m.year m.month (numbers m.rows) m.id m.moment before after r
      → length (message_bytes m) ≤ length before → (r ≡ Ok (length (message_bytes m))) × (take (length (message_bytes m)) after ≡ message_bytes m)
  again-written before after r c h =
      let d = one-write c (message-written before h) in
      (d.0, ap (take (length (message_bytes m))) d.1 ∙ over_first (message_bytes m) before (length (message_bytes m)) refl)

module _ (file lent filled : List ℕ) (facts : FileFacts) (a : ReadAccepted file lent filled facts) where
  abbrev found : Message
  found = a.message

  found_is : (file ≡ message_bytes found) × IsMessage found
  found_is = read-is-written file found a.rest a.read

  found_rows : take (6 * facts.rows) filled ≡ numbers found.rows
  unfolding facts_of
  found_rows =
      ap (λ (f : FileFacts). take (6 * f.rows) filled) a.says ∙ ap (take (6 * length found.rows)) a.rows
      ∙ over_first (numbers found.rows) lent (6 * length found.rows) (length-numbers found.rows)

  found-id : id_in facts file ≡ found.id
  unfolding facts_of
  found-id =
      ap (λ (f : FileFacts). id_in f file) a.says ∙ ap (λ (s : List ℕ). take (length found.id) (drop (id_place found.kind) s)) found_is.0 ∙ id-stands found

  found-moment : moment_in facts file ≡ found.moment
  unfolding facts_of contents
  found-moment =
      ap (λ (f : FileFacts). moment_in f file) a.says
      ∙ ap (λ (j : ℕ). take j (drop (moment_place found.kind found.id) file)) (sym (moment-length found.moment found_is.1.file.moment))
      ∙ ap (λ (s : List ℕ). take (length found.moment) (drop (moment_place found.kind found.id) s)) found_is.0 ∙ moment-stands found

  found-written : (before after : List ℕ) (r : Result ℕ Refused)
      → WriteCalled (kind_number facts.kind) facts.receiver facts.year facts.month (take (6 * facts.rows) filled) (id_in facts file) (moment_in facts file) before after r
      → length file ≤ length before → (r ≡ Ok (length file)) × (take (length file) after ≡ file)
  unfolding facts_of
  found-written before after r c h =
      let d : WriteCalled (kind_number facts.kind) facts.receiver facts.year facts.month (numbers found.rows) found.id found.moment before after r
      = rw (found_rows, found-id, found-moment) at c in
      let e = subst (λ (f : FileFacts). WriteCalled (kind_number f.kind) f.receiver f.year f.month (numbers found.rows) found.id found.moment before after r) a.says d in
      subst (λ (s : List ℕ). (r ≡ Ok (length s)) × (take (length s) after ≡ s)) (sym found_is.0)
      (again-written found found_is.1 before after r e (omega (arith, ap length found_is.0)))

  -- such rows are never refused
  found-judged : (number receiver year month : ℕ) (rows : List ℕ) → kind_number facts.kind ≡ number → facts.receiver ≡ receiver → facts.year ≡ year → facts.month ≡ month
      → take (6 * facts.rows) filled ≡ rows → (kind_numbered number ≡ some found.kind) × (is_rows found.kind receiver year month rows ≡ true)
  unfolding facts_of
  found-judged number receiver year month rows k v y m l =
      let says = a.says in
      let k' : kind_number found.kind ≡ number = sym (ap (λ (f : FileFacts). kind_number f.kind) says) ∙ k in
      let v' : found.receiver ≡ receiver = sym (ap (λ (f : FileFacts). f.receiver) says) ∙ v in
      let y' : found.year ≡ year = sym (ap (λ (f : FileFacts). f.year) says) ∙ y in
      let m' : found.month ≡ month = sym (ap (λ (f : FileFacts). f.month) says) ∙ m in
      let l' : numbers found.rows ≡ rows = sym found_rows ∙ l in (
        sym (ap kind_numbered k') ∙ kind-numbered found.kind,
        sym (λ i. is_rows found.kind (v' i) (y' i) (m' i) (l' i)) ∙ again-judged found found_is.1,
      )

-- ---- both ways

never-read : NoRows
never-read number receiver year month rows id moment before after w file lent filled own_id own_moment r c g =
    let d = subst (ReadCalled file lent filled) g.answer c in
    let j = found-judged file lent filled g.facts (accepted-is file lent filled g.facts d) number receiver year month rows g.same_kind g.same_receiver g.same_year g.same_month g.same_rows in
    true-false (sym j.1 ∙ refused-rows number receiver year month rows id moment before after (accepted-is file lent filled g.facts d).message.kind w j.0)

pub round_trip : RoundTrip
round_trip =
    record {
      written = λ number receiver year month rows id moment before after n c lent filled r d h.
          gives_back number receiver year month rows id moment before after n (write-accepted number receiver year month rows id moment before after n c) lent filled r d h;
      read = λ file lent filled facts c before after r d h. found-written file lent filled facts (accepted-is file lent filled facts c) before after r d h;
      no_file = λ file lent filled c number receiver year month rows id moment before after n d e.
          let a = write-accepted number receiver year month rows id moment before after n d in
          got-bad (sym (made-read number receiver year month rows id moment before after n a) ∙ ap read_message e ∙ refused-is file lent filled c);
      no_rows = never-read;
    }
