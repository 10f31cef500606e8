-- From what the code's contracts say (`Filled`) to what the laws about marks speak of: a file's partners, the parts of a file that was read (`Steps`), the file (`Filed`) and its rows (`Fills`), and so
-- what the call answers. By these the laws about marks hold of the code that runs.
use Rattle.std.specs.Prelude.{◌≡◌, refl, Bool, true, false, ℕ, ◌+◌, ◌-◌, ◌*◌, ◌/◌, ◌^◌, ◌≤◌, ◌<◌, length, leb, take, drop, Option, Some, None, Ok, Err}
use Rattle.std.proofs.Common.{sym, ap, ◌∙◌, subst, length-append, arith}
use mathlib.Core.List.{List, [], ◌∷◌, ◌++◌, flat_map}
use Rattle.text.specs.Decimal.{fixed, plain}
use Rattle.text.specs.WrittenInner.{written}
use Rattle.formats.specs.Format.{Res, got, bad, pick}
use Rattle.formats.specs.FormatLaws.{got-bad, sound-of}
use Rattle.formats.specs.Combine.{strip, seq_parse, post_parse, map_parse, only_parse}
use Rattle.formats.specs.Exactly.{exactly_parse, exactly, fixed_digits}
use Rattle.formats.specs.Name.{name_byte, span, name_parse, name}
use Rattle.formats.proofs.RunLaws.{run-map}
use Rattle.formats.proofs.MarksLaws.{Parsed, left, no-at, parsed, not_there}
use Rattle.cursor.specs.declared.Cursor.{Cursor}
use Rattle.cursor.proofs.ReadsLaws as behind
use Rattle.cursor.proofs.MarkedReadsLaws.{mark_behind, read_or}
use Rattle.cursor.proofs.ParsedLaws.{name-is}
use Rattle.cursor.proofs.StepsLaws.{seq-got, pre-got, post-got, tag-step, form-step, last-step}
use Rattle.kinds.specs.declared.Kind.{Kind}
use Rattle.kinds.specs.declared.Kind.TheVariants.{Toe01}
use Rattle.refusals.specs.declared.Refused.TheVariants.{Short, NoFile}
use Rattle.refusals.specs.Sent.{said}
use Rattle.message.specs.declared.FileFacts.{FileFacts}
use Rattle.message.specs.Bytes.{opening, ending, closing, element, counter, root, group, partner, digits, supply_bytes, with_partner, series_bytes, supply_of, partner_bytes, file_bytes}
use Rattle.message.specs.Contents.{Partner, File, number}
use Rattle.message.specs.Valid.{is_moment}
use Rattle.message.specs.Rows.{Row, rows_of, numbers}
use Rattle.message.specs.Reading.{Parts, partners_parse, file_of, file_parse}
use Rattle.message.specs.Calls.{id_place, moment_place, read_answer, ReadCalled}
use Rattle.message.proofs.ObservationForm.{plain_number}
use Rattle.message.proofs.FileForm.{kind_form, partners_form, file_body, file}
use Rattle.message.proofs.ReadingLaws.{partner-parse, partners-parse, file-parse}
use Rattle.message.proofs.SizeLaws.{file-least}
use Rattle.series_reader.specs.declared.rows.Rows.{Rows}
use Rattle.series_reader.specs.RowsInner.{rows_of_observations, rows_of_all, Filled}
use Rattle.series_reader.specs.RowsInner as stored
use Rattle.series_reader.proofs.FillingLaws.{filled-none, filled-same}
use Rattle.series_reader.proofs.MarkedReadingInner.{folded}
use Rattle.series_reader.proofs.MarkedReadingLaws.{any_value}
use Rattle.series_reader.proofs.MarkedItemsLaws.{viewed, view-bad, longer, longer-both, read-long}
use Rattle.series_reader.proofs.MarkedFillingInner.{Fills, rows_of_partner}
use Rattle.series_reader.proofs.MarkedFillingLaws.{fills_same, fills-view}
use Rattle.series_reader.proofs.MarkedFilledLaws.{FilledRead, filled-fills, filled-read, series-many}
use Rattle.reader.specs.PartnersInner.{kept_of_partner, next_partner, rows_of_partners, month_behind}
use Rattle.reader.specs.FileInner.{Kept, kept_of_file, rows_of_file, file_told}
use Rattle.reader.proofs.PartnersLaws.{rows-are}
use Rattle.reader.proofs.MarkedPartnersInner.{partner_item, adding}
use Rattle.reader.proofs.MarkedPartnersFillingLaws.{rows-filled}
use Rattle.reader.proofs.MarkedPlacesLaws.{Steps, placed}
use Rattle.reader.proofs.MarkedFileInner.{id_start, Filed, rows_of_parts}
use Rattle.reader.proofs.MarkedFileLaws.{filed, partners-rows, partners-after}
use Rattle.reader.proofs.MarkedJudgedLaws.{id-place, moment-place}
use Rattle.reader.proofs.MarkedFactsLaws.{read-lost, read_left, read_short, read-file, read-filled}

-- ---- the partners

-- the next one: behind a number, and of the month that was seen
pub partner-done : (k : Kind) (st : ℕ × (ℕ × ℕ)) {c d : Cursor} {before after : Rows} {r : Option (ℕ × (ℕ × ℕ))} → length before.numbers.now < 2 ^ 64
    → Filled (next_partner k st) (kept_of_partner st.1) stored.rows_of_partner c d before after r
    → FilledRead (partner_item k st).parse (kept_of_partner st.1) rows_of_partner c d before after r
    × Fills (partner_item k st).parse rows_of_partner c.text.now (Some c.at) before.count before.numbers.now after.numbers.now
unfolding rows_of_all rows_of_observations
partner-done k st small h =
    let g = filled-same (λ s. ap (λ (f : List ℕ → Res Partner). only_parse (λ p. leb st.0 (number p)) f s) (sym (partner-parse k st.1))) h in
    (filled-read (record { number = 0; series = [] }) g, filled-fills small g)

-- rows are no more than bytes
partners-bytes : (k : Kind) (n : ℕ) (l : List Partner) → (partners_form k n).render l ≡ flat_map (partner_bytes k) l
unfolding partners_form
partners-bytes k n l = refl

partner-many : (k : Kind) (p : Partner) → length (rows_of_partner p) ≤ length (partner_bytes k p)
unfolding partner_bytes
partner-many k p =
    let n = length (rows_of_partner p) in
    let head = element (partner k) (fixed (digits k) p.number) ++ with_partner k (supply_bytes (supply_of p.series)) ++ element "DirectionCounter" (plain (length p.series)) in
    let series = flat_map (series_bytes k) p.series in
    longer-both n (opening (group k)) (head ++ series) (closing (group k)) (longer n head series (series-many k p.number p.series))

partners-many : (k : Kind) (l : List Partner) → length (flat_map rows_of_partner l) ≤ length (flat_map (partner_bytes k) l)
unfolding flat_map
partners-many k [] = omega arith
partners-many k (p ∷ l) =
    omega (arith, partners-many k l, partner-many k p, length-append (rows_of_partner p) (flat_map rows_of_partner l), length-append (partner_bytes k p) (flat_map (partner_bytes k) l))

-- so many partners were read, none before them, and their rows were filled
pub record PartnersDone (k : Kind) (n : ℕ) (c d : Cursor) (before after : Rows) (r : Option (ℕ × ℕ)) : Type 0 where
  pub read : Parsed (map_parse (folded adding ((0, 0), 0)) (partners_form k n).parse) c.text.now (Some c.at) (mark_behind d r) (read_or (0, 0) r, after.count)
  pub fills : Fills (partners_form k n).parse (flat_map rows_of_partner) c.text.now (Some c.at) 0 before.numbers.now after.numbers.now

module _ (k : Kind) (n : ℕ) {c d : Cursor} {before after : Rows} (long : length c.text.now < 2 ^ 64) (small : length before.numbers.now < 2 ^ 64) (none : before.count ≡ 0) where
  partners-fills : {r : Option (ℕ × ℕ)} → Filled (partners_parse k n) month_behind rows_of_partners c d before after r
      → Fills (partners_form k n).parse (flat_map rows_of_partner) c.text.now (Some c.at) 0 before.numbers.now after.numbers.now
  unfolding rows_of_partners rows_of_all rows_of_observations
  partners-fills h =
      let i : Fills (partners_form k n).parse (flat_map rows_of_partner) c.text.now (Some c.at) before.count before.numbers.now after.numbers.now =
      fills_same (partners_form k n).parse (λ q. ap (λ (f : List ℕ → Res (List Partner)). f q) (partners-parse k n)) (filled-fills small h) in
      subst (λ (x : ℕ). Fills (partners_form k n).parse (flat_map rows_of_partner) c.text.now (Some c.at) x before.numbers.now after.numbers.now) none i

  pub partners-done : {r : Option (ℕ × ℕ)} → Filled (partners_parse k n) month_behind rows_of_partners c d before after r → PartnersDone k n c d before after r
  unfolding rows_of_partners rows_of_all rows_of_observations
  partners-done {r = None} h =
      let no : (partners_form k n).parse (behind.left c) ≡ bad = ap (λ (f : List ℕ → Res (List Partner)). f (behind.left c)) (partners-parse k n) ∙ (filled-none h).found in
      record {
        read = any_value (record { run = run-map (folded adding ((0, 0), 0)) (not_there (partners_form k n).parse c.text.now c.at [] no).run; within = tt });
        fills = partners-fills h;
      }
  partners-done {r = Some m} h =
      let y = filled-read [] h in
      let l : List Partner = y.value in
      let within : d.at ≤ length c.text.now = y.parsed.within in
      let yes : (partners_form k n).parse (behind.left c) ≡ got l (drop d.at c.text.now) = ap (λ (f : List ℕ → Res (List Partner)). f (behind.left c)) (partners-parse k n) ∙ y.parsed.run.run in
      let far = read-long (partners_form k n) c.text.now c.at d.at l c.inside within yes in
      let many : length (flat_map rows_of_partner l) ≤ length c.text.now = omega (arith, far, within, ap length (partners-bytes k n l), partners-many k l) in
      let count : after.count ≡ before.count + length (flat_map rows_of_partner l) = y.counted m refl (omega (arith, many, long, none)) in
      let month : (folded adding ((0, 0), 0) l).0 ≡ m = partners-after ((0, 0), 0) l ∙ y.is m refl in
      let rows : (folded adding ((0, 0), 0) l).1 ≡ after.count = omega (arith, partners-rows ((0, 0), 0) l, ap length (rows-filled l), count, none) in
      record {
        read = subst (λ (v : (ℕ × ℕ) × ℕ). Parsed (map_parse (folded adding ((0, 0), 0)) (partners_form k n).parse) c.text.now (Some c.at) (Some d.at) v) (λ i. (month i, rows i))
            (record { run = run-map (folded adding ((0, 0), 0)) (parsed (partners_form k n).parse c.text.now c.at l d.at yes within).run; within = within });
        fills = partners-fills h;
      }

-- ---- the parts of a file that was read

exactly-is : (n : ℕ) (test : List ℕ → Bool) (q l r : List ℕ) → exactly_parse n test q ≡ got l r → l ≡ take n q
unfolding exactly_parse
exactly-is n test q l r e = go (leb n (length q)) (test (take n q)) e
  where
    go : (a b : Bool) → pick a (pick b (got (take n q) (drop n q))) ≡ got l r → l ≡ take n q
    go false b e = absurd (got-bad (sym e))
    go true false e = absurd (got-bad (sym e))
    go true true e = let z : take n q ≡ l = cc in sym z

-- from behind the moment on
record TailSteps (s : List ℕ) (e o : Option ℕ) (k : Kind) (company n : ℕ) (t : (ℕ × ℕ) × ℕ) : Type 0 where
  pub f : Option ℕ
  pub g : Option ℕ
  pub h : Option ℕ
  pub i : Option ℕ
  pub j : Option ℕ
  pub l : Option ℕ
  pub before_receiver : Parsed (strip (closing "MessageCreateDateTime" ++ opening "ReceiverID")) s e f tt
  pub receiver : Parsed (fixed_digits 10).parse s f g company
  pub before_count : Parsed (strip (closing "ReceiverID" ++ opening (counter k))) s g h tt
  pub count : Parsed plain_number.parse s h i n
  pub behind_count : Parsed (strip (ending (counter k))) s i j tt
  pub partners : Parsed (map_parse (folded adding ((0, 0), 0)) (partners_form k n).parse) s j l t
  pub end : Parsed (strip (closing (root k))) s l o tt

abbrev tail_parse : Kind → List ℕ → Res (ℕ × (ℕ × List Partner))
tail_parse k =
    seq_parse (post_parse (fixed_digits 10).parse (λ r. closing "ReceiverID" ++ opening (counter k)))
    (λ r. seq_parse (post_parse plain_number.parse (λ n. ending (counter k))) (λ n. post_parse (partners_form k n).parse (λ l. closing (root k))))

tail-steps : (s : List ℕ) (k : Kind) (o at : ℕ) (q r : List ℕ) (p : ℕ × (ℕ × List Partner)) → o ≤ length s → at ≤ length s → q ≡ drop at s
    → strip (closing "MessageCreateDateTime" ++ opening "ReceiverID") q ≡ got tt r → tail_parse k r ≡ got p (drop o s) → TailSteps s (Some at) (Some o) k p.0 p.1.0 (folded adding ((0, 0), 0) p.1.1)
tail-steps s k o at q r p within here is tag read =
    let first = seq-got _ _ _ read in
    let received = post-got _ _ _ first.1.0 in
    let second = seq-got _ _ _ first.1.1 in
    let counted = post-got _ _ _ second.1.0 in
    let list = post-got _ _ _ second.1.1 in
    let f = tag-step (closing "MessageCreateDateTime" ++ opening "ReceiverID") s here is tag in
    let g = form-step (fixed_digits 10) s f.within f.rest received.1.0 in
    let h = tag-step (closing "ReceiverID" ++ opening (counter k)) s g.within g.rest received.1.1 in
    let i = form-step plain_number s h.within h.rest counted.1.0 in
    let j = tag-step (ending (counter k)) s i.within i.rest counted.1.1 in
    let l = form-step (partners_form k p.1.0) s j.within j.rest list.1.0 in
    record {
      f = Some f.at;
      g = Some g.at;
      h = Some h.at;
      i = Some i.at;
      j = Some j.at;
      l = Some l.at;
      before_receiver = f.parsed;
      receiver = g.parsed;
      before_count = h.parsed;
      count = i.parsed;
      behind_count = j.parsed;
      partners = record { run = run-map (folded adding ((0, 0), 0)) l.parsed.run; within = l.within };
      end = last-step (strip (closing (root k))) s within l.rest list.1.1;
    }

-- the parts from mark to mark, the last of which ends at o
pub record FileSteps (s : List ℕ) (o : ℕ) (p : Parts) : Type 0 where
  pub a : Option ℕ
  pub b : ℕ
  pub c : ℕ
  pub d : ℕ
  pub e : Option ℕ
  pub f : Option ℕ
  pub g : Option ℕ
  pub h : Option ℕ
  pub i : Option ℕ
  pub j : Option ℕ
  pub l : Option ℕ
  pub steps : Steps s a (Some b) (Some c) (Some d) e f g h i j l (Some o) p.0 p.1.1.1.0 p.1.1.1.1.0 (folded adding ((0, 0), 0) p.1.1.1.1.1)
  pub id : p.1.0 ≡ span name_byte (drop b s)
  pub moment : p.1.1.0 ≡ take 29 (drop d s)

pub file-steps : (s : List ℕ) (o : ℕ) (p : Parts) → o ≤ length s → file_body.parse s ≡ got p (drop o s) → FileSteps s o p
unfolding file_body
file-steps s o p within read =
    let first = seq-got _ _ _ read in
    let tag = pre-got (opening "TransactionID") _ _ first.1.1 in
    let second = seq-got _ _ _ tag.1.1 in
    let named = post-got _ _ _ second.1.0 in
    let third = seq-got _ _ _ second.1.1 in
    let timed = post-got _ _ _ third.1.0 in
    let a = form-step kind_form s {p = 0} (omega arith) refl first.1.0 in
    let b = tag-step (opening "TransactionID") s a.within a.rest tag.1.0 in
    let n = form-step (name name_byte 1 36 60 refl) s b.within b.rest named.1.0 in
    let d = tag-step (ending "TransactionID" ++ opening "MessageCreateDateTime") s n.within n.rest named.1.1 in
    let m = form-step (exactly 29 is_moment) s d.within d.rest timed.1.0 in
    let tail = tail-steps s p.0 o m.at timed.0 third.0 p.1.1.1 within m.within m.rest timed.1.1 third.1.1 in
    let id : p.1.0 ≡ span name_byte (drop b.at s) = name-is name_byte 1 36 60 tag.0 p.1.0 named.0 named.1.0 ∙ ap (span name_byte) b.rest in
    let moment : p.1.1.0 ≡ take 29 (drop d.at s) = exactly-is 29 is_moment second.0 p.1.1.0 timed.0 timed.1.0 ∙ ap (take 29) d.rest in
    record {
      a = Some a.at;
      b = b.at;
      c = n.at;
      d = d.at;
      e = Some m.at;
      f = tail.f;
      g = tail.g;
      h = tail.h;
      i = tail.i;
      j = tail.j;
      l = tail.l;
      id = id;
      moment = moment;
      steps = record {
        kind = a.parsed;
        before_id = b.parsed;
        id = subst (λ (x : List ℕ). Parsed (name_parse name_byte 1 36 60) s (Some b.at) (Some n.at) x) id n.parsed;
        before_moment = d.parsed;
        moment = subst (λ (x : List ℕ). Parsed (exactly_parse 29 is_moment) s (Some d.at) (Some m.at) x) moment m.parsed;
        before_receiver = tail.before_receiver;
        receiver = tail.receiver;
        before_count = tail.before_count;
        count = tail.count;
        behind_count = tail.behind_count;
        partners = tail.partners;
        end = tail.end;
      };
    }

-- ---- the file

-- a file is read as the form of its parts
read-as : (s : List ℕ) (x : Res File) → file_parse s ≡ x → map_parse file_of file_body.parse s ≡ x
unfolding file
read-as s x e = ap (λ (f : List ℕ → Res File). f s) file-parse ∙ e

-- it has fewer rows than bytes
few-rows : (s r : List ℕ) (f : File) → file_parse s ≡ got f r → length (rows_of f.partners) ≤ length s
unfolding file
few-rows s r f e =
    let b : s ≡ file_bytes f ++ r = (sound-of file s f r (ap (λ (g : List ℕ → Res File). g s) file-parse ∙ e)).0 in
    omega (arith, file-least f, ap length b, length-append (file_bytes f) r)

-- the same file by equal numbers and marks
filed-same : {s : List ℕ} {o : Option ℕ} {k k' : Kind} {n n' : ℕ} {t t' : (ℕ × ℕ) × ℕ} {b b' c c' d d' : Option ℕ} → k ≡ k' → n ≡ n' → t ≡ t' → b ≡ b' → c ≡ c' → d ≡ d' → Filed s o k n t b c d
    → Filed s o k' n' t' b' c' d'
filed-same {s} {o} {k} {k'} {n} {n'} {t} {t'} {b} {b'} {c} {c'} {d} {d'} e f g h i j file =
    let all : ◌≡◌ {A = Kind × (ℕ × (((ℕ × ℕ) × ℕ) × (Option ℕ × (Option ℕ × Option ℕ))))} (k, (n, (t, (b, (c, d))))) (k', (n', (t', (b', (c', d'))))) = λ a. (e a, (f a, (g a, (h a, (i a, j a))))) in
    subst (λ (x : Kind × (ℕ × (((ℕ × ℕ) × ℕ) × (Option ℕ × (Option ℕ × Option ℕ))))). Filed s o x.0 x.1.0 x.1.1.0 x.1.1.1.0 x.1.1.1.1.0 x.1.1.1.1.1) all file

-- what is told of its parts, and the marks before and behind them
module _ (s : List ℕ) (o : ℕ) (p : Parts) (t : FileFacts) (count : ℕ) where
  told-filed : FileSteps s o p → kept_of_file 0 (file_of p) ≡ file_told t → count ≡ length (rows_of p.1.1.1.1.1)
      → Filed s (Some o) t.kind t.receiver ((t.year, t.month), count) (Some t.id) (Some (t.id + (t.id_length + 1))) (Some t.moment)
  unfolding file_of
  told-filed st is many =
      let k = p.0 in
      let partners = p.1.1.1.1.1 in
      let place = placed st.steps o refl in
      let long = ap length st.id in
      let id : 0 + id_place k ≡ t.id = ap (λ (x : Kept). x.1.1.0) is in
      let id_length : length p.1.0 ≡ t.id_length = ap (λ (x : Kept). x.1.1.1.0) is in
      let moment : 0 + moment_place k p.1.0 ≡ t.moment = ap (λ (x : Kept). x.1.1.1.1) is in
      let month : (folded adding ((0, 0), 0) partners).0 ≡ (t.year, t.month) = partners-after ((0, 0), 0) partners ∙ ap (λ (x : Kept). x.1.0) is in
      let rows : (folded adding ((0, 0), 0) partners).1 ≡ count = omega (arith, partners-rows ((0, 0), 0) partners, many) in
      let tally : folded adding ((0, 0), 0) partners ≡ ((t.year, t.month), count) = λ i. (month i, rows i) in
      let at_id : id_start k ≡ t.id = omega (arith, id, id-place k) in
      let behind_id : id_start k + length (span name_byte (drop st.b s)) + 1 ≡ t.id + (t.id_length + 1) = omega (arith, at_id, id_length, long) in
      let at_moment : id_start k + length (span name_byte (drop st.b s)) + 1 + length (ending "TransactionID" ++ opening "MessageCreateDateTime") ≡ t.moment =
      omega (arith, moment, id-place k, moment-place k p.1.0, long) in
      filed-same (ap (λ (x : Kept). x.0.0) is) (ap (λ (x : Kept). x.0.1) is) tally (place.start ∙ ap Some at_id) (place.end ∙ ap Some behind_id) (place.moment ∙ ap Some at_moment) (filed st.steps)

-- rows in another form
fills-as : {A : Type 0} {f : List ℕ → Res A} {Q R : A → List Row} {s : List ℕ} {m : Option ℕ} {k : ℕ} {d o : List ℕ} → ((a : A) → Q a ≡ R a) → Fills f Q s m k d o → Fills f R s m k d o
fills-as {k = k} {d} h i =
    record {
      keeps = i.keeps;
      wrote = λ p v r e j room.
          i.wrote p v r e j (subst (λ (l : List Row). 6 * (k + length l) ≤ length d) (sym (h v)) room) ∙ ap (λ (l : List Row). written d (6 * k) (numbers l)) (h v);
    }

parts-rows : (p : Parts) → rows_of_file (file_of p) ≡ rows_of_parts p
unfolding file_of
parts-rows p = rows-are p.1.1.1.1.1

start : (s : List ℕ) (c : Cursor) → c.at ≡ 0 → c.text.now ≡ s → drop c.at c.text.now ≡ s
start s c at text = rw (at, text) refl

module _ (s : List ℕ) {c d : Cursor} {before after : Rows} (at : c.at ≡ 0) (text : c.text.now ≡ s) (none : before.count ≡ 0) where
  -- no file is there
  pub none-filed : Filled file_parse (kept_of_file c.at) rows_of_file c d before after None → (k : Kind) (receiver : ℕ) (t : (ℕ × ℕ) × ℕ) (b e m : Option ℕ) → Filed s None k receiver t b e m
  none-filed h k receiver t b e m =
      let no : file_body.parse s ≡ bad = view-bad file_of file_body.parse s (read-as s bad (ap file_parse (sym (start s c at text)) ∙ (filled-none h).found)) in
      record {
        count = 0;
        partners = [];
        parsed = not_there file_body.parse s 0 (k, (span name_byte (left s b), (take 29 (left s m), (receiver, (0, []))))) no;
        is = λ q i. absurd (no-at q i);
        places = λ q i. absurd (no-at q i);
      }

  -- a file was read; its rows are counted
  pub filled-filed : (t : FileFacts) → length s < 2 ^ 64 → Filled file_parse (kept_of_file c.at) rows_of_file c d before after (Some (file_told t))
      → Filed s (Some d.at) t.kind t.receiver ((t.year, t.month), after.count) (Some t.id) (Some (t.id + (t.id_length + 1))) (Some t.moment)
  unfolding file_of
  filled-filed t long h =
      let other : File = record { kind = t.kind; receiver = 0; id = []; moment = []; partners = [] } in
      let x = filled-read other h in
      let f : File = x.value in
      let found : file_parse s ≡ got f (drop d.at s) = ap file_parse (sym (start s c at text)) ∙ x.parsed.run.run ∙ ap (λ (u : List ℕ). got f (drop d.at u)) text in
      let inside : d.at ≤ length c.text.now = x.parsed.within in
      let within : d.at ≤ length s = omega (arith, inside, ap length text) in
      let v = viewed file_of file_body.parse s f (drop d.at s) (read-as s (got f (drop d.at s)) found) in
      let p : Parts = v.0 in
      let same : file_of p ≡ f = v.1.1 in
      let kept : kept_of_file 0 (file_of p) ≡ file_told t = ap (kept_of_file 0) same ∙ ap (λ (n : ℕ). kept_of_file n f) (sym at) ∙ x.is (file_told t) refl in
      let rows : length (rows_of_file f) ≡ length (rows_of f.partners) = ap length (rows-are f.partners) in
      let few : length (rows_of f.partners) ≤ length s = few-rows s (drop d.at s) f found in
      let count : after.count ≡ before.count + length (rows_of_file f) = x.counted (file_told t) refl (omega (arith, rows, few, none, long)) in
      let partners : length (rows_of p.1.1.1.1.1) ≡ length (rows_of f.partners) = ap (λ (g : File). length (rows_of g.partners)) same in
      told-filed s d.at p t after.count (file-steps s d.at p within v.1.0) kept (omega (arith, count, rows, none, partners))

  -- and filled
  pub filled-file-fills : {r : Option Kept} → length before.numbers.now < 2 ^ 64 → Filled file_parse (kept_of_file c.at) rows_of_file c d before after r
      → Fills file_body.parse rows_of_parts s (Some 0) 0 before.numbers.now after.numbers.now
  unfolding file
  filled-file-fills small h =
      let i = fills-view file_of rows_of_file (fills_same (map_parse file_of file_body.parse) (λ q. ap (λ (f : List ℕ → Res File). f q) file-parse) (filled-fills small h)) in
      let places : ◌≡◌ {A = List ℕ × (ℕ × ℕ)} (c.text.now, (c.at, before.count)) (s, (0, 0)) = λ a. (text a, (at a, none a)) in
      subst (λ (x : List ℕ × (ℕ × ℕ)). Fills file_body.parse rows_of_parts x.0 (Some x.1.0) x.1.1 before.numbers.now after.numbers.now) places (fills-as parts-rows i)

  -- ---- so the laws about marks say what the call answers: 13 where there is no file or bytes are left behind it, 10 without room, else the file and its rows

  pub called-none : (lent : ℕ) → Filled file_parse (kept_of_file c.at) rows_of_file c d before after None → said (Err NoFile) ≡ read_answer s lent
  called-none lent h = read-lost s lent (none-filed h Toe01 0 ((0, 0), 0) None None None) refl

  module _ (lent : ℕ) (t : FileFacts) (long : length s < 2 ^ 64) (h : Filled file_parse (kept_of_file c.at) rows_of_file c d before after (Some (file_told t))) where
    pub called-left : (d.at ≡ length s → ⊥) → said (Err NoFile) ≡ read_answer s lent
    called-left n = read_left s lent (filled-filed t long h) d.at refl n

    pub called-short : d.at ≡ length s → lent / 6 < after.count → said (Err (Short 0)) ≡ read_answer s lent
    called-short e l = read_short s lent (filled-filed t long h) (ap Some e) l

    pub called-file : d.at ≡ length s → after.count ≤ lent / 6
        → said (Ok (record { kind = t.kind; receiver = t.receiver; year = t.year; month = t.month; rows = after.count; id = t.id; id_length = t.id_length; moment = t.moment })) ≡ read_answer s lent
    called-file e l =
        let n : t.id + (t.id_length + 1) - (t.id + 1) ≡ t.id_length = omega arith in
        subst (λ (x : ℕ). said (Ok (record { kind = t.kind; receiver = t.receiver; year = t.year; month = t.month; rows = after.count; id = t.id; id_length = x; moment = t.moment })) ≡ read_answer s lent) n
        (read-file s lent (filled-filed t long h) (ap Some e) t.id (t.id + (t.id_length + 1)) t.moment refl refl refl l)

  pub called-rows : {r : Option Kept} (facts : FileFacts) → length before.numbers.now < 2 ^ 64 → said (Ok facts) ≡ read_answer s (length before.numbers.now)
      → Filled file_parse (kept_of_file c.at) rows_of_file c d before after r → ReadCalled s before.numbers.now after.numbers.now (Ok facts)
  called-rows facts small e h = read-filled s before.numbers.now after.numbers.now facts e (filled-file-fills small h)
