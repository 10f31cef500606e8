-- Laws about a reading that keeps a mark: the passages of a partner's head, a file's ID and its receiver, as the code's contracts read them (`Reads`), are readings from mark to mark (`Parsed`) of their parts.
-- By these the laws about marks hold of the code that runs.
use Rattle.std.specs.Prelude.{◌≡◌, refl, List, ◌++◌, ℕ, ◌≤◌, ◌<◌, length, Option, Some}
use Rattle.std.proofs.Common.{sym, ap, ◌∙◌, subst, arith}
use Rattle.integers.specs.All.{All}
use Rattle.integers.proofs.AllLaws.{all_map}
use Rattle.formats.specs.Format.{Res}
use Rattle.formats.specs.FormatLaws.{sound-of}
use Rattle.formats.specs.Combine.{strip}
use Rattle.formats.specs.Exactly.{fixed_parse, fixed_digits}
use Rattle.formats.specs.Name.{name_byte, span, name_parse}
use Rattle.formats.proofs.MarksLaws.{Parsed, left}
use Rattle.cursor.specs.declared.Cursor.{Cursor}
use Rattle.cursor.specs.ReadsInner.{Reads}
use Rattle.cursor.proofs.MarkedReadsLaws.{reads-parsed}
use Rattle.cursor.proofs.StepsLaws.{seq-got, pre-got, post-got, tag-step, word-step, word-few, form-step}
use Rattle.kinds.specs.declared.Kind.{Kind}
use Rattle.kinds.specs.declared.Kind.TheVariants.{Toe01, Toe03}
use Rattle.message.specs.Contents.{TimeSeries, Partner}
use Rattle.message.specs.Bytes.{opening, ending, closing, counter, group, partner, digits, supplies}
use Rattle.message.specs.Reading.{plain_parse, counted_parse, shared_partner_parse, partner_parse}
use Rattle.message.proofs.ObservationForm.{plain_number}
use Rattle.message.proofs.SeriesForm.{counted}
use Rattle.message.proofs.SeriesListForm.{series_list}
use Rattle.series_reader.proofs.MarkedItemsLaws.{viewed}
use Rattle.series_reader.proofs.MarkedSeriesInner.{series_form, list_form}
use Rattle.series_reader.proofs.MarkedFilledLaws.{list-form, list-count}
use Rattle.reader.specs.PartnersInner.{company_parse}
use Rattle.reader.proofs.MarkedPartnerLaws.{company_form, access_form, counter-parsed, company-parsed, access-parsed}
use Rattle.reader.proofs.MarkedPlacesLaws.{Steps}

-- an access point's head: its supply direction, which each of its series has, and how many they are
pub record AccessRead (s : List ℕ) (m : Option ℕ) (p : Partner) : Type 0 where
  pub end : ℕ
  pub supply : ℕ
  pub fits : supply ≤ 1
  pub parsed : Parsed access_form.parse s m (Some end) (p.number, (supply, length p.series))
  pub each : All (λ (t : TimeSeries). t.supply ≡ supply) p.series

-- series with the supply direction of their access point have it
supplied : (x n : ℕ) (seen : ℕ × ℕ) (l : List TimeSeries) → (list_form Toe03 x n seen).Ok l → All (λ (t : TimeSeries). t.supply ≡ x) l
unfolding list_form series_list series_form
supplied x n seen l ok = all_map (λ t h. h.supply) l ok.each

few : (x : ℕ) → x < length supplies → x ≤ 1
unfolding supplies
few x h = omega arith

module _ {c d : Cursor} where
  -- a supplier's or an FSP's head: its number, and how many series it has
  pub company-read : (before behind end : List ℕ) (seen : ℕ × ℕ) {p : Partner} → Reads (company_parse before behind end seen) c d (Some p)
      → (m : ℕ) × Parsed (company_form before behind).parse c.text.now (Some c.at) (Some m) (p.number, length p.series)
  unfolding company_parse counted_parse plain_parse fixed_parse
  company-read before behind end seen {p} h =
      let s = c.text.now in
      let w = reads-parsed p h in
      let of = viewed _ _ _ _ _ w.run.run in
      let tag = pre-got before _ _ of.1.0 in
      let first = seq-got _ _ _ tag.1.1 in
      let figures = post-got _ _ _ first.1.0 in
      let second = seq-got _ _ _ first.1.1 in
      let counter = post-got _ _ _ second.1.0 in
      let list = post-got _ _ _ second.1.1 in
      let head = tag-step before s c.inside refl tag.1.0 in
      let number = form-step (fixed_digits 10) s head.within head.rest figures.1.0 in
      let between = tag-step behind s number.within number.rest figures.1.1 in
      let count = form-step counted s between.within between.rest counter.1.0 in
      let last = tag-step (ending "DirectionCounter") s count.within count.rest counter.1.1 in
      let many : length of.0.1.1 ≡ of.0.1.0 = list-count Toe01 0 of.0.1.0 seen second.0 list.1.0 in
      let is : ◌≡◌ {A = ℕ × ℕ} (of.0.0, of.0.1.0) (p.number, length p.series) = (λ i. (of.0.0, sym many i)) ∙ ap (λ (u : Partner). (u.number, length u.series)) of.1.1 in (
        last.at,
        subst (λ (v : ℕ × ℕ). Parsed (company_form before behind).parse s (Some c.at) (Some last.at) v) is
            (company-parsed s before behind head.parsed number.parsed between.parsed (counter-parsed s (Some between.at) (Some count.at) (Some last.at) of.0.1.0 count.parsed last.parsed)),
      )

  pub access-read : (seen : ℕ × ℕ) {p : Partner} → Reads (partner_parse Toe03 seen) c d (Some p) → AccessRead c.text.now (Some c.at) p
  unfolding partner_parse shared_partner_parse counted_parse plain_parse fixed_parse digits
  access-read seen {p} h =
      let s = c.text.now in
      let w = reads-parsed p h in
      let of = viewed _ _ _ _ _ w.run.run in
      let tag = pre-got (opening (group Toe03) ++ opening (partner Toe03)) _ _ of.1.0 in
      let first = seq-got _ _ _ tag.1.1 in
      let figures = post-got _ _ _ first.1.0 in
      let second = seq-got _ _ _ first.1.1 in
      let direction = post-got _ _ _ second.1.0 in
      let third = seq-got _ _ _ second.1.1 in
      let counter = post-got _ _ _ third.1.0 in
      let list = post-got _ _ _ third.1.1 in
      let head = tag-step (opening (group Toe03) ++ opening (partner Toe03)) s c.inside refl tag.1.0 in
      let number = form-step (fixed_digits 18) s head.within head.rest figures.1.0 in
      let between = tag-step (closing (partner Toe03) ++ opening "SupplyDirection") s number.within number.rest figures.1.1 in
      let word = word-step supplies s between.within between.rest direction.1.0 in
      let behind = tag-step (closing "SupplyDirection" ++ opening "DirectionCounter") s word.within word.rest direction.1.1 in
      let count = form-step counted s behind.within behind.rest counter.1.0 in
      let last = tag-step (ending "DirectionCounter") s count.within count.rest counter.1.1 in
      let x = of.0.1.0 in
      let n = of.0.1.1.0 in
      let l = of.0.1.1.1 in
      let many : length l ≡ n = list-count Toe03 x n seen third.0 list.1.0 in
      let ok : (list_form Toe03 x n seen).Ok l = (sound-of (list_form Toe03 x n seen) third.0 l list.0 (ap (λ (f : List ℕ → Res (List TimeSeries)). f third.0) (list-form Toe03 x n seen) ∙ list.1.0)).1 in
      let is : ◌≡◌ {A = ℕ × (ℕ × ℕ)} (of.0.0, (x, n)) (p.number, (x, length p.series)) = (λ i. (of.0.0, (x, sym many i))) ∙ ap (λ (u : Partner). (u.number, (x, length u.series))) of.1.1 in
      record {
        end = last.at;
        supply = x;
        fits = few x (word-few supplies first.0 direction.1.0);
        parsed = subst (λ (v : ℕ × (ℕ × ℕ)). Parsed access_form.parse s (Some c.at) (Some last.at) v) is
            (access-parsed s head.parsed number.parsed between.parsed word.parsed behind.parsed (counter-parsed s (Some behind.at) (Some count.at) (Some last.at) n count.parsed last.parsed));
        each = subst (λ (u : Partner). All (λ (t : TimeSeries). t.supply ≡ x) u.series) of.1.1 (supplied x n seen l ok);
      }

-- ---- the passages of a file that was read part by part (MarkedFilledLaws `file-steps`): up to its moment, and from behind it up to its partners

pub record MessageSteps (s : List ℕ) (m b c d : Option ℕ) : Type 0 where
  pub before_id : Parsed (strip (opening "TransactionID")) s m b tt
  pub id : Parsed (name_parse name_byte 1 36 60) s b c (span name_byte (left s b))
  pub before_moment : Parsed (strip (ending "TransactionID" ++ opening "MessageCreateDateTime")) s c d tt

-- a receiver and the counter of partners, with the tags around them
pub record ReceiverSteps (s : List ℕ) (m e : Option ℕ) (k : Kind) (company n : ℕ) : Type 0 where
  pub a : Option ℕ
  pub b : Option ℕ
  pub c : Option ℕ
  pub d : Option ℕ
  pub before_receiver : Parsed (strip (closing "MessageCreateDateTime" ++ opening "ReceiverID")) s m a tt
  pub receiver : Parsed (fixed_digits 10).parse s a b company
  pub before_count : Parsed (strip (closing "ReceiverID" ++ opening (counter k))) s b c tt
  pub count : Parsed plain_number.parse s c d n
  pub behind_count : Parsed (strip (ending (counter k))) s d e tt

module _ {s : List ℕ} {a b c d e f g h i j l o : Option ℕ} {k : Kind} {receiver n : ℕ} {t : (ℕ × ℕ) × ℕ} (p : Steps s a b c d e f g h i j l o k receiver n t) where
  pub message-steps : MessageSteps s a b c d
  message-steps = record { before_id = p.before_id; id = p.id; before_moment = p.before_moment }

  pub receiver-steps : ReceiverSteps s e j k receiver n
  receiver-steps =
      record {
        a = f;
        b = g;
        c = h;
        d = i;
        before_receiver = p.before_receiver;
        receiver = p.receiver;
        before_count = p.before_count;
        count = p.count;
        behind_count = p.behind_count;
      }
