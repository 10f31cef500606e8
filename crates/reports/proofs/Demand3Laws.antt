-- Demand 3 holds: each accepted call wrote what document 01 defines, and of the definitions the sheets balance, pairs and sums agree, and floors are taken once.
use Rattle.std.specs.Prelude.{◌≡◌, true, ℕ, ◌+◌, ◌<◌, eqb, pos, length, take, drop}
use Rattle.std.proofs.Math.Path.{sym, ap}
use Rattle.std.proofs.Common.{◌∙◌, arith, eqb-true, eq-eqb}
use Rattle.std.proofs.Math.Bool.{cond}
use mathlib.Core.List.Memᴰ
use mathlib.Core.List.{List, [], Memᴰ}
use Rattle.std.proofs.Math.Option.{none}
use Rattle.std.proofs.Math.ListN.{get_or, get_or-append}
use Rattle.integers.proofs.OnceLaws.{Once}
use Rattle.integers.specs.Running.{up_to}
use Rattle.integers.specs.Sums.{naturals, integers, sum_of, sum_z}
use Rattle.integers.proofs.TestsLaws.{both, and_both}
use Rattle.integers.specs.Keep.{keep}
use Rattle.integers.proofs.KeepLaws.{keep-sum, mem-keep}
use Rattle.formats.specs.Format.{got}
use Rattle.book.specs.Book.{book_of}
use Rattle.quarters.specs.Quarters.{month_quarters}
use Rattle.volumes.specs.Settlement.{book_refusal}
use Rattle.volumes.proofs.SettlementLaws.{accepted, passing}
use Rattle.volumes.specs.Sheets.{parties, sheet_at, sheet}
use Rattle.volumes.proofs.SheetsLaws.{balance, sheet-length}
use Rattle.volumes.specs.Series.{Kind, Toe01, Toe02}
use Rattle.volumes.specs.SoundInner.{Sound}
use Rattle.volumes.proofs.SoundLaws.{sound}
use Rattle.message.specs.Rows.{Row}
use Rattle.message.specs.Messages.{read_message}
use Rattle.kinds.specs.Numbers.{kind_numbered, kind_number}
use Rattle.reports.specs.FileRows.{supply_number, delivery_number, file_text, file_rows, message_of}
use Rattle.reports.specs.Roles.{receivers}
use Rattle.reports.specs.Watts.{watts_in, directed_in, total_in}
use Rattle.reports.proofs.PointsLaws.{Inside}
use Rattle.reports.proofs.CarryLaws.{carries-floor, pair-carries}
use Rattle.reports.proofs.TotalsLaws.{directed-totals, totals}
use Rattle.reports.specs.RegisteredInner.{Registered}
use Rattle.reports.proofs.RegisteredLaws.{registered}
use Rattle.reports.proofs.ReadLaws.{file-read}
use Rattle.refusals.specs.Buffers.{over, afterwards}
use Rattle.reports.specs.Calls.{sheet_refusal, text_of, file_refusal, file_answer}
use Rattle.refusals.specs.BuffersLaws.{over_first}
use Rattle.reports.proofs.CallsLaws.{sheet-not-refused, sheet-party, sheet-answered, kind-is, InForm, file-in-form, file-written, file-answered}
use Rattle.reports.specs.Demand3.{SheetCall, FileCall, is_sheet, is_file, filled, wrote, sum_at, written, rows_read, carried, filled_for, wrote_for, Whole, Agreed, Answered, Demand3}
use Rattle.integers.proofs.RangesLaws.{get_d-map-range}
use Rattle.integers.proofs.SumsLaws.{sum-cong, sum-map}

-- ---- a sheet that was filled

module _ (bytes : List ℕ) (c : SheetCall bytes) (e : filled c ≡ true) where
  sheet-none : sheet_refusal bytes c.party (length c.before) ≡ none
  unfolding filled
  sheet-none = sheet-not-refused bytes c.party (length c.before) (sym (ap is_sheet c.called.answer) ∙ e)

  filled-party : Memᴰ c.party (parties (book_of bytes))
  filled-party = sheet-party bytes c.party (length c.before) sheet-none

  filled-sums : c.after ≡ over (sheet (book_of bytes) c.party) c.before
  unfolding afterwards
  filled-sums = c.called.sums ∙ ap (λ r. afterwards r (sheet (book_of bytes) c.party) c.before) sheet-none

  filled-sheet : take (month_quarters (book_of bytes).calendar) c.after ≡ sheet (book_of bytes) c.party
  filled-sheet = ap (take (month_quarters (book_of bytes).calendar)) filled-sums ∙ over_first (sheet (book_of bytes) c.party) c.before (month_quarters (book_of bytes).calendar) (sheet-length (book_of bytes) c.party)

  filled-sum : (q : ℕ) → q < month_quarters (book_of bytes).calendar → sum_at q c ≡ sheet_at (book_of bytes) c.party (q + 1)
  unfolding sum_at over sheet
  filled-sum q h =
      let defined = sheet (book_of bytes) c.party in
      let n = month_quarters (book_of bytes).calendar in
      rw e
      (ap (λ l. get_or l q (pos 0)) filled-sums
      ∙ get_or-append defined (drop (length defined) c.before) (pos 0) q (omega (arith, sheet-length (book_of bytes) c.party))
      ∙ get_d-map-range (sheet_at (book_of bytes) c.party) 1 n q (pos 0) h
      ∙ ap (sheet_at (book_of bytes) c.party) (omega arith))

-- ---- a file that was written

wrote-kind : (bytes : List ℕ) (kind : Kind) (c : FileCall bytes) → wrote kind c ≡ true → (c.kind ≡ kind_number kind) × (is_file c.answer ≡ true)
unfolding wrote
wrote-kind bytes kind c e = let b = both (eqb c.kind (kind_number kind)) (is_file c.answer) e in (eqb-true c.kind (kind_number kind) b.0, b.1)

file-kind : (bytes : List ℕ) (c : FileCall bytes) → is_file c.answer ≡ true → (kind : Kind) × (wrote kind c ≡ true)
unfolding wrote
file-kind bytes c e =
    let k = kind-is bytes c.kind c.receiver c.id c.moment (length c.rows_before) (length c.before) (sym (ap is_file c.called.answer) ∙ e) in
    (k.0, and_both (eq-eqb c.kind (kind_number k.0) k.1) e)

module _ (bytes : List ℕ) (kind : Kind) (c : FileCall bytes) (e : wrote kind c ≡ true) where
  wrote-answer : c.answer ≡ file_answer bytes (kind_number kind) c.receiver c.id c.moment (length c.rows_before) (length c.before)
  wrote-answer = c.called.answer ∙ ap (λ k. file_answer bytes k c.receiver c.id c.moment (length c.rows_before) (length c.before)) (wrote-kind bytes kind c e).0

  wrote_after : c.after ≡ afterwards (file_refusal bytes (kind_number kind) c.receiver c.id c.moment (length c.rows_before) (length c.before)) (text_of (book_of bytes) (kind_numbered (kind_number kind)) c.receiver c.id c.moment) c.before
  wrote_after = c.called.file ∙ ap (λ k. afterwards (file_refusal bytes k c.receiver c.id c.moment (length c.rows_before) (length c.before)) (text_of (book_of bytes) (kind_numbered k) c.receiver c.id c.moment) c.before) (wrote-kind bytes kind c e).0

  wrote-file : is_file (file_answer bytes (kind_number kind) c.receiver c.id c.moment (length c.rows_before) (length c.before)) ≡ true
  wrote-file = sym (ap is_file wrote-answer) ∙ (wrote-kind bytes kind c e).1

  wrote-form : InForm (book_of bytes) kind c.receiver c.id c.moment
  wrote-form = file-in-form bytes kind c.receiver c.id c.moment (length c.rows_before) (length c.before) wrote-file

  wrote-text : written c.answer c.after ≡ file_text (book_of bytes) kind c.receiver c.id c.moment
  wrote-text =
      ap (λ r. written r c.after) wrote-answer
      ∙ ap (written (file_answer bytes (kind_number kind) c.receiver c.id c.moment (length c.rows_before) (length c.before))) wrote_after
      ∙ file-written bytes kind c.receiver c.id c.moment (length c.rows_before) (length c.before) wrote-file c.before

module _ (bytes : List ℕ) (ok : book_refusal bytes ≡ none) where
  book-sound : Sound (book_of bytes)
  book-sound = sound bytes (passing bytes ok).passed

  book-registered : Registered (book_of bytes)
  book-registered = registered bytes (passing bytes ok).passed

  points-inside : Inside (book_of bytes)
  points-inside e m = (book-sound.engagements e m).point

  wrote-read : (kind : Kind) (c : FileCall bytes) → wrote kind c ≡ true → read_message (written c.answer c.after) ≡ got (message_of (book_of bytes) kind c.receiver c.id c.moment) []
  wrote-read kind c e =
      let f = wrote-form bytes kind c e in
      ap read_message (wrote-text bytes kind c e) ∙ file-read (book_of bytes) book-sound book-registered kind c.receiver c.id c.moment f.role f.named f.timed

  pub carried-is : (kind : Kind) (c : FileCall bytes) → wrote kind c ≡ true → carried c ≡ file_rows (book_of bytes) kind c.receiver
  unfolding carried rows_read message_of
  carried-is kind c e = ap rows_read (wrote-read kind c e)

  -- ---- all sheets, and all files of a kind

  sheets-sum : (sheets : List (SheetCall bytes)) (q : ℕ) → q < month_quarters (book_of bytes).calendar → sum_z (sum_at q) sheets ≡ sum_z (λ party. sheet_at (book_of bytes) party (q + 1)) (filled_for sheets)
  unfolding filled_for sum_at
  sheets-sum sheets q h =
      sym (keep-sum filled integers (sum_at q) (λ c e. rw e) sheets)
      ∙ sum-cong integers (sum_at q) (λ c. sheet_at (book_of bytes) c.party (q + 1)) (keep filled sheets) (λ c m. filled-sum bytes c (mem-keep filled sheets c m).1 q h)
      ∙ sym (sum-map integers (λ party. sheet_at (book_of bytes) party (q + 1)) (λ c. c.party) (keep filled sheets))

  only-parties : (sheets : List (SheetCall bytes)) (x : ℕ) → Memᴰ x (filled_for sheets) → Memᴰ x (parties (book_of bytes))
  unfolding filled_for
  only-parties sheets x m = go (Memᴰ.of_map (λ c. c.party) (keep filled sheets) m)
    where
      go : (c : SheetCall bytes) × Memᴰ c (keep filled sheets) × (c.party ≡ x) → Memᴰ x (parties (book_of bytes))
      go (c, k, e) = Memᴰ.cast (sym e) (filled-party bytes c (mem-keep filled sheets c k).1)

  files-sum : (kind : Kind) (f : List Row → ℕ) (files : List (FileCall bytes)) → sum_of (λ c. cond (wrote kind c) (f (carried c)) 0) files ≡ sum_of (λ r. f (file_rows (book_of bytes) kind r)) (wrote_for kind files)
  unfolding wrote_for
  files-sum kind f files =
      sym (keep-sum (wrote kind) naturals (λ c. cond (wrote kind c) (f (carried c)) 0) (λ c e. rw e) files)
      ∙ sum-cong naturals (λ c. cond (wrote kind c) (f (carried c)) 0) (λ c. f (file_rows (book_of bytes) kind c.receiver)) (keep (wrote kind) files) (λ c m. let e = (mem-keep (wrote kind) files c m).1 in rw e (ap f (carried-is kind c e)))
      ∙ sym (sum-map naturals (λ r. f (file_rows (book_of bytes) kind r)) (λ c. c.receiver) (keep (wrote kind) files))

  only-receivers : (kind : Kind) (files : List (FileCall bytes)) (x : ℕ) → Memᴰ x (wrote_for kind files) → Memᴰ x (receivers (book_of bytes) kind)
  unfolding wrote_for
  only-receivers kind files x m = go (Memᴰ.of_map (λ c. c.receiver) (keep (wrote kind) files) m)
    where
      go : (c : FileCall bytes) × Memᴰ c (keep (wrote kind) files) × (c.receiver ≡ x) → Memᴰ x (receivers (book_of bytes) kind)
      go (c, k, e) = Memᴰ.cast (sym e) (wrote-form bytes kind c (mem-keep (wrote kind) files c k).1).role

  module _ (sheets : List (SheetCall bytes)) (files : List (FileCall bytes)) (whole : Whole bytes sheets files) where
    receivers-once : (kind : Kind) → Once (wrote_for kind files) (receivers (book_of bytes) kind)
    receivers-once kind = record { once = whole.every_receiver kind; only = only-receivers kind files }

    agrees : Agreed bytes sheets files
    agrees =
        record {
          defined = λ c m e. filled-sheet bytes c e;
          balanced = λ q h. sheets-sum sheets q h ∙ balance (book_of bytes) (filled_for sheets) (record { once = whole.every_party; only = only-parties sheets }) points-inside (q + 1);
          kinds = λ c m e. file-kind bytes c e;
          read = λ c m kind e. wrote-read kind c e;
          paired = λ c d m k e f u v p low most.
              ap (λ l. watts_in l d.receiver (supply_number u) (delivery_number v) p) (carried-is Toe01 c e)
              ∙ pair-carries (book_of bytes) points-inside c.receiver d.receiver u v p low most
              ∙ sym (ap (λ l. watts_in l c.receiver (supply_number u) (delivery_number v) p) (carried-is Toe02 d f));
          directed = λ supply delivery p.
              files-sum Toe01 (λ l. directed_in l supply delivery p) files
              ∙ directed-totals (book_of bytes) points-inside (wrote_for Toe01 files) (wrote_for Toe02 files) (receivers-once Toe01) (receivers-once Toe02) supply delivery p
              ∙ sym (files-sum Toe02 (λ l. directed_in l supply delivery p) files);
          together = λ p.
              files-sum Toe01 (λ l. total_in l p) files
              ∙ totals (book_of bytes) points-inside (wrote_for Toe01 files) (wrote_for Toe02 files) (receivers-once Toe01) (receivers-once Toe02) p
              ∙ sym (files-sum Toe02 (λ l. total_in l p) files);
          rounded = λ c m kind e partner u v p most.
              ap (λ l. up_to (watts_in l partner (supply_number u) (delivery_number v)) p) (carried-is kind c e)
              ∙ carries-floor (book_of bytes) points-inside kind c.receiver partner u v p most;
        }

  answers : Answered bytes
  answers =
      record {
        sheet_call = λ c m h. c.called.answer ∙ sheet-answered bytes c.party (length c.before) ok m h;
        file_call = λ c kind k role named timed h i.
            c.called.answer
            ∙ ap (λ n. file_answer bytes n c.receiver c.id c.moment (length c.rows_before) (length c.before)) k
            ∙ file-answered bytes kind c.receiver c.id c.moment (length c.rows_before) (length c.before) ok (record { role = role; named = named; timed = timed }) h i;
      }

pub demand-3 : Demand3
demand-3 bytes a = let ok = accepted bytes a in record { answered = answers bytes ok; agreed = agrees bytes ok }

-- the same, as the check cites it
pub ruleset calls_agree = (demand-3)
