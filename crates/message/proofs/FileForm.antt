-- The format of a file: its bytes and its valid contents are those of the definitions.
use Rattle.std.specs.Prelude.{◌≡◌, refl, true, ◌&&◌, ℕ, zero, suc, ◌<◌, length, leb, Option, Some, None}
use Rattle.std.proofs.Common.{sym, ap, ◌∙◌, arith, leb-true, le-leb}
use mathlib.Core.List.{List, [], ◌∷◌, ◌++◌, append_assoc, flat_map}
use Rattle.integers.proofs.TestsLaws.{and_left, and_right, and_both}
use Rattle.text.specs.Ascii.{bytes}
use Rattle.text.specs.Tag.{begins}
use Rattle.text.specs.Decimal.{fixed, plain}
use Rattle.text.proofs.DecimalLaws.{true-false}
use Rattle.formats.specs.Format.{Format, bad}
use Rattle.formats.specs.Words.{Apart, word_at, words}
use Rattle.formats.specs.Combine.{strip, pre, post, seq, seq_by, Recast, recast}
use Rattle.formats.specs.Exactly.{exactly, fixed_digits}
use Rattle.formats.specs.Name.{name_byte, each, Name, name}
use Rattle.formats.specs.Rising.{rising_items}
use Rattle.moments.specs.declared.Moment.{Moment}
use Rattle.moments.specs.Moments.{moment_of}
use Rattle.moments.specs.MomentsLaws.{judged-is, length-moment}
use Rattle.moments.specs.Ids.{is_transaction_id}
use Rattle.kinds.specs.declared.Kind.{Kind}
use Rattle.kinds.specs.declared.Kind.TheVariants.{Toe01, Toe02, Toe03}
use Rattle.message.specs.Contents.{Partner, File, number}
use Rattle.message.specs.Bytes.{opening, ending, closing, root, counter, partner_bytes, file_bytes}
use Rattle.message.specs.Valid.{is_real, is_moment, periods, IsFile}
use Rattle.message.specs.Reading.{roots, kind_of, Parts, file_of}
use Rattle.message.proofs.ObservationForm.{plain_number}
use Rattle.message.proofs.PartnerForm.{partner_form, partner-bytes}
use Rattle.message.specs.Months.{next_months}
use Rattle.message.proofs.MonthsLaws.{months-to, months-from, years, one-month, month-one}

-- ---- the kind, by the root's name

pub apart-roots : Apart roots
unfolding roots Apart word_at opening root bytes strip begins
apart-roots = (first, (second, ((λ n rest h. absurd (omega arith)), tt)))
  where
    first : (n : ℕ) (rest : List ℕ) → n < 2 → strip (opening (root Toe01)) (word_at (opening (root Toe02) ∷ opening (root Toe03) ∷ []) n ++ rest) ≡ bad
    first zero rest h = refl
    first (suc zero) rest h = refl
    first (suc (suc n)) rest h = absurd (omega arith)

    second : (n : ℕ) (rest : List ℕ) → n < 1 → strip (opening (root Toe02)) (word_at (opening (root Toe03) ∷ []) n ++ rest) ≡ bad
    second zero rest h = refl
    second (suc n) rest h = absurd (omega arith)

unfoldable pub index_of : Kind → ℕ
index_of Toe01 = 0
index_of Toe02 = 1
index_of Toe03 = 2

index-fits : (k : Kind) → index_of k < 3
unfolding index_of
index-fits Toe01 = omega arith
index-fits Toe02 = omega arith
index-fits Toe03 = omega arith

index-kind : (n : ℕ) → n < 3 → index_of (kind_of n) ≡ n
unfolding index_of kind_of
index-kind zero h = refl
index-kind (suc zero) h = refl
index-kind (suc (suc zero)) h = refl
index-kind (suc (suc (suc n))) h = absurd (omega arith)

kind-index : (k : Kind) → kind_of (index_of k) ≡ k
unfolding index_of kind_of
kind-index Toe01 = refl
kind-index Toe02 = refl
kind-index Toe03 = refl

kind-bytes : (k : Kind) → word_at roots (index_of k) ≡ opening (root k)
unfolding index_of roots word_at
kind-bytes Toe01 = refl
kind-bytes Toe02 = refl
kind-bytes Toe03 = refl

pub kind-recast : Recast (words roots apart-roots) (λ k. Unit {0}) (λ k. opening (root k)) kind_of index_of
unfolding roots
kind-recast = record { to_ok = λ n ok. tt; from_ok = λ k ok. index-fits k; back = λ n ok. index-kind n ok; forth = λ k ok. kind-index k; same = λ k ok. kind-bytes k }

unfoldable pub kind_form : Format Kind
kind_form = recast (words roots apart-roots) (λ k. Unit {0}) (λ k. opening (root k)) kind_of index_of kind-recast

-- ---- the partners

unfoldable pub partners_form : Kind → ℕ → Format (List Partner)
partners_form k n = rising_items (partner_form k) number next_months (partner_bytes k) (λ seen p. partner-bytes k seen p) n 0 (0, 0)

-- ---- the file

file-join : (o r t i e m w c v x s d n a l f : List ℕ)
    → r ++ (t ++ (i ++ o ++ (e ++ m) ++ (w ++ (c ++ v) ++ (x ++ (s ++ d) ++ (n ++ o ++ a ++ (l ++ f))))))
    ≡ r ++ ((t ++ i ++ (o ++ e)) ++ (m ++ w ++ c) ++ (v ++ x ++ s) ++ (d ++ n ++ (o ++ a)) ++ l) ++ f
file-join o r t i e m w c v x s d n a l f = simp append_assoc

unfoldable pub parts_of : File → Parts
parts_of f = (f.kind, (f.id, (f.moment, (f.receiver, (length f.partners, f.partners)))))

-- a transaction ID is a name, and a moment has its length
id-to : (s : List ℕ) → Name name_byte 1 36 60 s → is_transaction_id s ≡ true
unfolding is_transaction_id
id-to s n = and_both (and_both (le-leb 1 (length s) n.long) (le-leb (length s) 36 n.short)) n.passes

id-from : (s : List ℕ) → is_transaction_id s ≡ true → Name name_byte 1 36 60 s
unfolding is_transaction_id
id-from s e =
    let l = and_left (leb 1 (length s) && leb (length s) 36) (each name_byte s) e in
    record {
      passes = and_right (leb 1 (length s) && leb (length s) 36) (each name_byte s) e;
      long = leb-true 1 (length s) (and_left (leb 1 (length s)) (leb (length s) 36) l);
      short = leb-true (length s) 36 (and_right (leb 1 (length s)) (leb (length s) 36) l);
    }

pub moment-length : (s : List ℕ) → is_moment s ≡ true → length s ≡ 29
moment-length s e = go (moment_of s) refl e
  where
    go : (j : Option Moment) → moment_of s ≡ j → is_real j ≡ true → length s ≡ 29
    go (Some m) f e = ap length (judged-is s m f).form ∙ length-moment m
    go None f e = absurd (true-false (sym e))

unfoldable pub file_body : Format Parts
file_body =
    seq_by kind_form (λ k. pre (opening "TransactionID")
    (seq (post (name name_byte 1 36 60 refl) (ending "TransactionID" ++ opening "MessageCreateDateTime"))
    (seq (post (exactly 29 is_moment) (closing "MessageCreateDateTime" ++ opening "ReceiverID"))
    (seq (post (fixed_digits 10) (closing "ReceiverID" ++ opening (counter k)))
    (seq_by (post plain_number (ending (counter k))) (λ n. post (partners_form k n) (closing (root k))))))))

file-to : (p : Parts) → file_body.Ok p → IsFile (file_of p)
unfolding file_body file_of partners_form
file-to p ok =
    let k = p.0 in
    let l = p.1.1.1.1.1 in
    let r = ok.1.1.1.1.1 in
    let m = months-to k (0, 0) l r.each in
    record {
      receiver = ok.1.1.1.0;
      id = id-to p.1.0 ok.1.0;
      moment = ok.1.1.0.1;
      fits = omega (arith, ok.1.1.1.1.0, r.count);
      rising = r.rising;
      each = m.0;
      same = one-month (periods l) (years k l m.0) m.1;
    }

file-from : (f : File) → IsFile f → file_body.Ok (parts_of f)
unfolding file_body parts_of partners_form kind_form
file-from f ok =
    let months = months-from f.kind (0, 0) f.partners ok.each (month-one (periods f.partners) ok.same) in
    let moment : (length f.moment ≡ 29) × (is_moment f.moment ≡ true) = (moment-length f.moment ok.moment, ok.moment) in
    (tt, (id-from f.id ok.id, (moment, (ok.receiver, (ok.fits, record { count = refl; rising = ok.rising; each = months })))))

file-back : (p : Parts) → file_body.Ok p → parts_of (file_of p) ≡ p
unfolding file_body file_of parts_of partners_form
file-back p ok = let e = ok.1.1.1.1.1.count in λ i. (p.0, (p.1.0, (p.1.1.0, (p.1.1.1.0, (e i, p.1.1.1.1.1)))))

file-bytes : (f : File) → file_body.render (parts_of f) ≡ file_bytes f
unfolding file_body parts_of partners_form kind_form file_bytes closing
file-bytes f =
    file-join (60 ∷ []) (opening (root f.kind)) (opening "TransactionID") f.id (ending "TransactionID") (opening "MessageCreateDateTime") f.moment
    (closing "MessageCreateDateTime") (opening "ReceiverID") (fixed 10 f.receiver) (closing "ReceiverID") (opening (counter f.kind)) (plain (length f.partners))
    (ending (counter f.kind)) (flat_map (partner_bytes f.kind) f.partners) (closing (root f.kind))

pub file-recast : Recast file_body IsFile file_bytes file_of parts_of
unfolding file_of parts_of
file-recast = record { to_ok = file-to; from_ok = file-from; back = file-back; forth = λ f ok. refl; same = λ f ok. file-bytes f }

unfoldable pub file : Format File
file = recast file_body IsFile file_bytes file_of parts_of file-recast
