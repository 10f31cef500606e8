-- A word of two is told as a bit; kilowatts are few; and a name, by where it ends: its bytes stand up to the byte that ends it.
use Rattle.std.specs.Prelude.{◌≡◌, refl, List, [], ◌∷◌, ◌++◌, ℕ, zero, suc, eqb, ◌<◌, ◌+◌, ◌-◌, slice_range, ◌≤◌, length, take, Some}
use Rattle.std.proofs.Common.{sym, ap, ◌∙◌, length-append, arith, append_assoc}
use Rattle.std.proofs.Math.Seq.{take_at}
use Rattle.std.proofs.Math.Path.{subst}
use Rattle.formats.specs.Format.{got, Sound}
use Rattle.formats.specs.Words.{word_at, words_parse, words-sound}
use Rattle.passages.specs.ViewsInner.{bit}
use Rattle.formats.specs.FormatLaws.{ends-got}
use Rattle.formats.specs.Exactly.{fixed_digits}
use Rattle.formats.specs.Numbers.{number}
use Rattle.formats.specs.Name.{name_byte, name_parse, name}
use Rattle.cursor.specs.declared.Cursor.{Cursor}
use Rattle.cursor.specs.ReadsInner.{Reads, number_of, fixed_of, name_of}
use Rattle.cursor.proofs.ReadsLaws.{left}
use Rattle.cursor.proofs.SoundLaws.{reads-ok, reads-bytes, passed}

-- ---- a word of two

word_told : (n : ℕ) → n < 2 → bit (eqb n 1) ≡ n
word_told zero h = refl
word_told (suc zero) h = refl
word_told (suc (suc n)) h = absurd (omega arith)

two-words : (v w : List ℕ) {c d : Cursor} {n : ℕ} → Reads (words_parse (v ∷ w ∷ [])) c d (Some n) → n < 2
two-words v w {c} {d} {n} h = (subst (Sound (λ n. n < 2) (word_at (v ∷ w ∷ [])) (left c)) h.found (words-sound (v ∷ w ∷ []) (left c))).1

pub two_told : (v w : List ℕ) {c d : Cursor} {n : ℕ} → Reads (words_parse (v ∷ w ∷ [])) c d (Some n) → Reads (words_parse (v ∷ w ∷ [])) c d (Some (bit (eqb n 1)))
two_told v w {n = n} h = rw (word_told n (two-words v w h)) h

-- ---- the two numbers of kilowatts

pub whole_few : {c d : Cursor} {n : ℕ} → Reads (number_of 46 999999999) c d (Some n) → n ≤ 999999999
whole_few h = reads-ok (number 46 999999999 (omega arith) refl) h

pub part_few : {c d : Cursor} {n : ℕ} → Reads (fixed_of 3) c d (Some n) → n < 1000
part_few h = reads-ok (fixed_digits 3) h

-- ---- a name

module _ (c d : Cursor) where
  pub a_name : (n : List ℕ) → n ≡ slice_range c.text.now c.at (d.at - 1) → Reads (name_of 1 36 60) c d (Some tt) → Reads (name_parse name_byte 1 36 60) c d (Some n)
  a_name n is h =
      let g = ends-got (name_parse name_byte 1 36 60 (left c)) (left d) h.found in
      let l = g.0 in
      let r : Reads (name_parse name_byte 1 36 60) c d (Some l) = record { text = h.text; found = g.1 } in
      let bytes = reads-bytes (name name_byte 1 36 60 refl) r in
      let at = passed c d (l ++ (60 ∷ [])) h.text bytes in
      let long : d.at - 1 - c.at ≡ length l = omega (arith, at, length-append l (60 ∷ [])) in
      let same : n ≡ l = is ∙ ap (λ (k : ℕ). take k (left c)) long ∙ ap (take (length l)) (bytes ∙ append_assoc l (60 ∷ []) (left d)) ∙ take_at l ((60 ∷ []) ++ left d) (length l) refl in
      record { text = h.text; found = g.1 ∙ ap (λ (k : List ℕ). got k (left d)) (sym same) }

  -- the byte that ends it
  pub behind_name : Reads (name_of 1 36 60) c d (Some tt) → c.at + 1 ≤ d.at
  behind_name h =
      let g = ends-got (name_parse name_byte 1 36 60 (left c)) (left d) h.found in
      let r : Reads (name_parse name_byte 1 36 60) c d (Some g.0) = record { text = h.text; found = g.1 } in
      omega (arith, passed c d (g.0 ++ (60 ∷ [])) h.text (reads-bytes (name name_byte 1 36 60 refl) r), length-append g.0 (60 ∷ []))
