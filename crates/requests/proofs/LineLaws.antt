-- A line's words stand where the code says.
use Rattle.std.specs.Prelude.{◌≡◌, refl, true, List, ◌++◌, ℕ, ◌+◌, ◌-◌, ◌≤◌, drop}
use Rattle.std.proofs.Math.Path.{sym}
use Rattle.std.proofs.Common.{ap, ◌∙◌, append_assoc, length-append, length-drop, take_at, drop_at}
use Rattle.std.specs.Prelude.{Some, None, Result, Ok, Err}
use Rattle.std.proofs.Math.ListN.{length, take}
use native.Mathlib.Omega.{arith}
use Rattle.text.specs.Ascii.{bytes}
use Rattle.text.specs.Decimal.{fixed}
use Rattle.text.proofs.DecimalLaws.{length-fixed}
use Rattle.formats.specs.Format.{Res, got, bad}
use Rattle.formats.specs.FormatLaws.{sound-of}
use Rattle.formats.specs.Combine.{strip, seq_parse, post_parse, only_parse}
use Rattle.formats.specs.Exactly.{exactly_parse, fixed_digits}
use Rattle.formats.specs.Name.{name_byte, name_parse}
use Rattle.message.specs.Valid.{is_moment}
use Rattle.requests.specs.declared.Asked.{Asked}
use Rattle.std.specs.Result.{result_ok}
use Rattle.kinds.specs.declared.Kind.{Kind}
use Rattle.kinds.specs.declared.UnknownKind.{UnknownKind}
use Rattle.std.proofs.Math.Option.{none}
use Rattle.kinds.specs.Numbers.{kind_numbered, is_there, is_kind}
use Rattle.kinds.specs.NumbersInner.{kind_in}
use Rattle.kinds.specs.NumbersLaws.{kind-most}
use Rattle.requests.specs.Line.{Words, line}
use Rattle.requests.specs.LineInner.{asked, request_by, request_of}

-- ---- the line

-- the parts one after the other
pub line-is : (s : List ℕ) {kind receiver : ℕ} {id moment a b c d f g h : List ℕ} → (fixed_digits 2).parse s ≡ got kind a → is_kind kind ≡ true → strip (bytes " ") a ≡ got tt b
    → (fixed_digits 10).parse b ≡ got receiver c → strip (bytes " ") c ≡ got tt d → name_parse name_byte 1 36 32 d ≡ got id f → exactly_parse 29 is_moment f ≡ got moment g
    → strip (bytes "\n") g ≡ got tt h → line.parse s ≡ got (kind, (receiver, (id, moment))) h
unfolding line seq_parse post_parse only_parse
line-is s e₀ e₁ e₂ e₃ e₄ e₅ e₆ e₇ = rw (e₀, e₁, e₂, e₃, e₄, e₅, e₆, e₇)

-- a number is a kind's where the conversion answers one
pub kind-on : (n : ℕ) (r : Result Kind UnknownKind) (k : Kind) → kind_in r ≡ kind_numbered n → Some k ≡ result_ok r → is_kind n ≡ true
kind-on n (Ok j) k e f = ap is_there (sym e)
kind-on n (Err u) k e f = let z : ◌≡◌ {A = ℕ} 0 1 = cc in absurd (omega arith)

-- what `ok` makes of the conversion's answer, as the check cites it
pub kind-lost : (r : Result Kind UnknownKind) → None ≡ result_ok r → kind_in r ≡ none
kind-lost (Err u) e = refl
kind-lost (Ok k) e = let z : ◌≡◌ {A = ℕ} 0 1 = cc in absurd (omega arith)

pub kind-kept : (r : Result Kind UnknownKind) → (None ≡ result_ok r → ⊥) → is_there (kind_in r) ≡ true
kind-kept (Err u) h = absurd (h refl)
kind-kept (Ok k) h = refl

pub ruleset kinds_read = (kind-lost, kind-kept)

-- the places that the code has are those of the words
pub request-some : (s : List ℕ) (w : Words) (rest : List ℕ) (id moment book : ℕ) → line.parse s ≡ got w rest
    → id ≡ 14 → moment ≡ 15 + length w.1.1.0 → book ≡ 45 + length w.1.1.0
    → Some (record { kind = w.0; receiver = w.1.0; id = id; id_length = moment - id - 1; moment = moment; book = book }) ≡ request_of s
unfolding request_of asked
request-some s w rest id moment book e f g h =
    let n : moment - id - 1 ≡ length w.1.1.0 = omega arith in
    rw (e, n, f, g, h) refl

-- the same by the book's place alone
pub line-there : (s : List ℕ) (w : Words) (rest : List ℕ) (q : ℕ) → line.parse s ≡ got w rest → q ≡ 45 + length w.1.1.0
    → Some (record { kind = w.0; receiver = w.1.0; id = 14; id_length = q - 45; moment = q - 30; book = q }) ≡ request_of s
line-there s w rest q e f =
    let n : q - 45 ≡ (q - 30) - 14 - 1 = omega arith in
    rw n (request-some s w rest 14 (q - 30) q e refl (omega arith) f)

pub line-length : (w : Words) → line.Ok w → length (line.render w) ≡ 45 + length w.1.1.0
unfolding line bytes
line-length w ok = simp (length-append, length-fixed) (omega (arith, ok.1.1.1.0))

kind-small : (w : Words) → line.Ok w → w.0 ≤ 3
unfolding line
kind-small w ok = kind-most w.0 ok.0.1

-- where the line at the front of s ends, if q is the place behind it
pub record Ended (s : List ℕ) (q : ℕ) (w : Words) : Type 0 where
  pub form : s ≡ line.render w ++ drop q s
  pub ok : line.Ok w
  pub behind : q ≡ 45 + length w.1.1.0
  pub kind : w.0 ≤ 3

pub line-ended : (s : List ℕ) (q : ℕ) (w : Words) → q ≤ length s → line.parse s ≡ got w (drop q s) → Ended s q w
line-ended s q w h e =
    let f = sound-of line s w (drop q s) e in
    record {
      form = f.0;
      ok = f.1;
      behind = omega (arith, simp length-append at (ap length f.0), length-drop q s, line-length w f.1);
      kind = kind-small w f.1;
    }

-- ---- the words of a line, as parts of the input

-- where the words and the book behind them stand
pub record PlacedWords (s : List ℕ) (w : Words) (rest : List ℕ) : Type 0 where
  pub room : (asked w).book ≤ length s
  pub id : take (asked w).id_length (drop (asked w).id s) ≡ w.1.1.0
  pub moment : take 29 (drop (asked w).moment s) ≡ w.1.1.1
  pub book : drop (asked w).book s ≡ rest

-- what stands behind n bytes
part : (a x r : List ℕ) (n k : ℕ) → length a ≡ n → length x ≡ k → take k (drop n (a ++ (x ++ r))) ≡ x
part a x r n k e f = ap (take k) (drop_at a (x ++ r) n e) ∙ take_at x r k f

-- the line up to its ID, and up to its moment
unfoldable head : Words → List ℕ
head w = fixed 2 w.0 ++ bytes " " ++ fixed 10 w.1.0 ++ bytes " "

unfoldable to-moment : Words → List ℕ
to-moment w = head w ++ w.1.1.0 ++ bytes " "

at-id : (w : Words) (rest : List ℕ) → line.render w ++ rest ≡ head w ++ (w.1.1.0 ++ (bytes " " ++ w.1.1.1 ++ bytes "\n" ++ rest))
unfolding line bytes head
at-id w rest = simp append_assoc

at-moment : (w : Words) (rest : List ℕ) → line.render w ++ rest ≡ to-moment w ++ (w.1.1.1 ++ (bytes "\n" ++ rest))
unfolding line bytes head to-moment
at-moment w rest = simp append_assoc

head-length : (w : Words) → length (head w) ≡ 14
unfolding head bytes
head-length w = simp (length-append, length-fixed)

moment-at : (w : Words) → length (to-moment w) ≡ 15 + length w.1.1.0
unfolding to-moment bytes
moment-at w = simp (length-append, head-length w) (omega arith)

moment-long : (w : Words) → line.Ok w → length w.1.1.1 ≡ 29
unfolding line
moment-long w ok = ok.1.1.1.0

pub placed : (s : List ℕ) (w : Words) (rest : List ℕ) → line.parse s ≡ got w rest → PlacedWords s w rest
unfolding asked
placed s w rest e =
    let f = sound-of line s w rest e in
    let n = length w.1.1.0 in
    record {
      room = omega (arith, simp length-append at (ap length f.0), line-length w f.1);
      id = ap (λ (l : List ℕ). take n (drop 14 l)) (f.0 ∙ at-id w rest) ∙ part (head w) w.1.1.0 _ 14 n (head-length w) refl;
      moment = ap (λ (l : List ℕ). take 29 (drop (15 + n) l)) (f.0 ∙ at-moment w rest) ∙ part (to-moment w) w.1.1.1 _ (15 + n) 29 (moment-at w) (moment-long w f.1);
      book = ap (drop (45 + n)) f.0 ∙ drop_at (line.render w) rest (45 + n) (line-length w f.1);
    }

-- the words that a line's places are of, and what stands behind the line
pub record FoundLine (s : List ℕ) (a : Asked) : Type 0 where
  pub words : Words
  pub rest : List ℕ
  pub parsed : line.parse s ≡ got words rest
  pub is : a ≡ asked words

pub found : (s : List ℕ) (a : Asked) → Some a ≡ request_of s → FoundLine s a
unfolding request_of
found s a e = go (line.parse s) refl e
  where
    go : (r : Res Words) → line.parse s ≡ r → Some a ≡ request_by r → FoundLine s a
    go (got w rest) p e = record { words = w; rest = rest; parsed = p; is = cc }
    go bad p e = let z : ◌≡◌ {A = ℕ} 0 1 = cc in absurd (omega arith)

pub found_none : (s : List ℕ) → None ≡ request_of s → line.parse s ≡ bad
unfolding request_of
found_none s e = go (line.parse s) e
  where
    go : (r : Res Words) → None ≡ request_by r → r ≡ bad
    go (got w rest) e = let z : ◌≡◌ {A = ℕ} 0 1 = cc in absurd (omega arith)
    go bad e = refl
