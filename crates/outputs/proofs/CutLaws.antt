-- What the program prints hangs on no more of its input than it reads: a line has at most 81 bytes, so it is read whole or not at all, and what is
-- longer than the longest input stays so.
use Rattle.std.specs.Prelude.{◌≡◌, refl, Bool, true, false, List, ◌++◌, ℕ, ◌+◌, ◌-◌, ◌≤◌, ◌<◌, leb, length, take, drop}
use Rattle.std.proofs.Common.{sym, ap, ◌∙◌, append_assoc, take-append-drop, take_all, length-take-le, arith, leb-true, leb-false}
use Rattle.std.proofs.Math.Seq.{take-append-add}
use Rattle.std.proofs.lemmas.Bool.{lt-leb}
use Rattle.formats.specs.Format.{Res, got, bad}
use Rattle.formats.specs.FormatLaws.{got-bad, sound-of}
use Rattle.requests.specs.Line.{Words, line}
use Rattle.requests.proofs.LineLaws.{line-length}
use Rattle.outputs.specs.Output.{input_most, input_read, refused_line, refusal_for, output}

-- ---- the line of a part of the input

line-most : (w : Words) → line.Ok w → length (line.render w) ≤ 81
unfolding line
line-most w ok = omega (arith, line-length w ok, ok.1.1.0.short)

module _ (input : List ℕ) (n : ℕ) where
  -- a line that is read in a part is read in the whole
  line-in-whole : (w : Words) (rest : List ℕ) → line.parse (take n input) ≡ got w rest → line.parse input ≡ got w (rest ++ drop n input)
  line-in-whole w rest e =
      let f = sound-of line (take n input) w rest e in
      let all : input ≡ line.render w ++ (rest ++ drop n input)
      = sym (take-append-drop n input) ∙ ap (λ (l : List ℕ). l ++ drop n input) f.0 ∙ append_assoc (line.render w) rest (drop n input) in
      ap line.parse all ∙ line.complete w (rest ++ drop n input) f.1

  -- and a line of the whole is read in a part that is long enough
  line-in-part : (w : Words) (rest : List ℕ) → 81 ≤ n → line.parse input ≡ got w rest → line.parse (take n input) ≡ got w (take (n - length (line.render w)) rest)
  line-in-part w rest h e =
      let f = sound-of line input w rest e in
      let k = length (line.render w) in
      let m : n ≡ k + (n - k) = omega (arith, line-most w f.1) in
      let part : take n input ≡ line.render w ++ take (n - k) rest
      = ap (take n) f.0 ∙ ap (λ (j : ℕ). take j (line.render w ++ rest)) m ∙ take-append-add (line.render w) rest (n - k) in
      ap line.parse part ∙ line.complete w (take (n - k) rest) f.1

-- ---- what is printed

no-line-output : (input : List ℕ) → line.parse input ≡ bad → output input ≡ refused_line 12 0
unfolding output
no-line-output input e = rw e

long-output : (input : List ℕ) (w : Words) (rest : List ℕ) → line.parse input ≡ got w rest → input_most < length input → output input ≡ refused_line 2 0
unfolding output refusal_for
long-output input w rest e h = rw (e, lt-leb (length input) input_most h)

-- of a long input
module _ (input : List ℕ) (long : input_read ≤ length input) where
  part-long : input_most < length (take input_read input)
  part-long = omega (arith, length-take-le input_read input long)

  none-in-whole : line.parse (take input_read input) ≡ bad → line.parse input ≡ bad
  none-in-whole e = go (line.parse input) refl
    where
      go : (r : Res Words) → line.parse input ≡ r → r ≡ bad
      go bad f = refl
      go (got w rest) f = absurd (got-bad (sym (line-in-part input input_read w rest (omega arith) f) ∙ e))

  cut-long : (r : Res Words) → line.parse (take input_read input) ≡ r → output (take input_read input) ≡ output input
  cut-long bad e = no-line-output (take input_read input) e ∙ sym (no-line-output input (none-in-whole e))
  cut-long (got w rest) e =
      long-output (take input_read input) w rest e part-long
      ∙ sym (long-output input w (rest ++ drop input_read input) (line-in-whole input input_read w rest e) (omega arith))

-- of any input
pub cut-output : (input : List ℕ) → output (take input_read input) ≡ output input
cut-output input = go (leb (length input) input_read) refl
  where
    go : (b : Bool) → leb (length input) input_read ≡ b → output (take input_read input) ≡ output input
    go true e = ap output (take_all input_read input (leb-true (length input) input_read e))
    go false e = cut-long input (omega (arith, leb-false (length input) input_read e)) (line.parse (take input_read input)) refl

-- the same, as the check cites it
pub ruleset cut_outputs = (cut-output)
