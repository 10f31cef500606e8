-- What a method of the cursor reads (`Reads`) is a reading from mark to mark (`Parsed`), and what it finds is in range; and a reading from mark to mark is a method's.
-- The laws are for whoever reads with marks: by them what is said of marks holds of the cursor's methods.
use Rattle.std.specs.Prelude.{◌≡◌, refl, Bool, true, false, ℕ, ◌^◌, ◌≤◌, ◌<◌, length, drop, leb, ltb, Option, Some, None}
use Rattle.std.proofs.Common.{sym, ap, ◌∙◌, subst, length-drop, arith, le-leb, lt-ltb}
use Rattle.std.proofs.lemmas.Bool.{lt-leb}
use mathlib.Core.List.{List, [], ◌∷◌}
use Rattle.text.specs.Decimal.{digit}
use Rattle.formats.specs.Format.{Res, got, bad, bind, pick, Sound}
use Rattle.formats.specs.FormatLaws.{got-bad, ends-got, ends-bad}
use Rattle.formats.specs.Combine.{strip}
use Rattle.formats.specs.Words.{word_at, words_parse, words-sound}
use Rattle.formats.specs.Exactly.{fixed_digits}
use Rattle.formats.specs.Numbers.{number_parse, number}
use Rattle.formats.specs.Name.{name_byte, span, name_parse}
use Rattle.formats.proofs.MarksLaws.{Parsed}
use Rattle.cursor.specs.declared.Cursor.{Cursor}
use Rattle.cursor.specs.ReadsInner.{Reads, number_of, counter_parse, fixed_of, name_of}
use Rattle.cursor.proofs.ReadsLaws.{left, reads-same, reads-only, reads-fail}
use Rattle.cursor.proofs.SoundLaws.{reads-ok}
use Rattle.cursor.proofs.MarkedReadsLaws.{mark_behind, read_or, reads-parsed}

-- a name is the bytes up to the first that no name has
pub name-is : (test : ℕ → Bool) (least most stop : ℕ) (q l r : List ℕ) → name_parse test least most stop q ≡ got l r → l ≡ span test q
unfolding name_parse
name-is test least most stop q l r e = go (leb least (length (span test q))) (leb (length (span test q)) most) (strip (stop ∷ []) (drop (length (span test q)) q)) e
  where
    go : (a b : Bool) (x : Res (Unit {0})) → pick a (pick b (bind x (λ u t. got (span test q) t))) ≡ got l r → l ≡ span test q
    go false b x e = absurd (got-bad (sym e))
    go true false x e = absurd (got-bad (sym e))
    go true true bad e = absurd (got-bad (sym e))
    go true true (got u t) e = let z : span test q ≡ l = cc in sym z

module _ {c d : Cursor} where
  -- within its limit a form is the form itself
  number-within : (stop max : ℕ) {r : Option ℕ} → 9 ≤ max → Reads (number_of stop max) c d r → Reads (number_parse stop max) c d r
  number-within stop max nine h = reads-same (λ s. ap (λ (t : Bool). pick t (number_parse stop max s)) (le-leb 9 max nine)) h

  fixed-within : (n : ℕ) {r : Option ℕ} → n ≤ 18 → Reads (fixed_of n) c d r → Reads (fixed_digits n).parse c d r
  fixed-within n few h = reads-same (λ s. ap (λ (t : Bool). pick t ((fixed_digits n).parse s)) (le-leb n 18 few)) h

  -- ---- from the method to the marks

  pub tag-parsed : (t : List ℕ) {r : Option (Unit {0})} → Reads (strip t) c d r → Parsed (strip t) c.text.now (Some c.at) (mark_behind d r) tt
  tag-parsed t h = reads-parsed tt h

  pub word-parsed : (v w : List ℕ) {r : Option ℕ} → Reads (words_parse (v ∷ w ∷ [])) c d r → Parsed (words_parse (v ∷ w ∷ [])) c.text.now (Some c.at) (mark_behind d r) (read_or 0 r)
  word-parsed v w h = reads-parsed 0 h

  pub number-parsed : (stop max : ℕ) {r : Option ℕ} → 9 ≤ max → Reads (number_of stop max) c d r → Parsed (number_parse stop max) c.text.now (Some c.at) (mark_behind d r) (read_or 0 r)
  number-parsed stop max nine h = reads-parsed 0 (number-within stop max nine h)

  pub counter-parsed : {r : Option ℕ} → Reads counter_parse c d r → Parsed counter_parse c.text.now (Some c.at) (mark_behind d r) (read_or 0 r)
  counter-parsed h = reads-parsed 0 h

  pub fixed-parsed : (n : ℕ) {r : Option ℕ} → n ≤ 18 → Reads (fixed_of n) c d r → Parsed (fixed_digits n).parse c.text.now (Some c.at) (mark_behind d r) (read_or 0 r)
  fixed-parsed n few h = reads-parsed 0 (fixed-within n few h)

  -- which bytes the name is, where its end alone is told
  pub name-parsed : (least most stop : ℕ) {r : Option (Unit {0})} → Reads (name_of least most stop) c d r
      → Parsed (name_parse name_byte least most stop) c.text.now (Some c.at) (mark_behind d r) (span name_byte (left c))
  name-parsed least most stop {r = Some u} h =
      let g = ends-got (name_parse name_byte least most stop (left c)) (left d) h.found in
      let is = name-is name_byte least most stop (left c) g.0 (left d) g.1 in
      let n : Reads (name_parse name_byte least most stop) c d (Some (span name_byte (left c))) = record { text = h.text; found = g.1 ∙ ap (λ (l : List ℕ). got l (left d)) is } in
      reads-parsed (span name_byte (left c)) n
  name-parsed least most stop {r = None} h =
      let n : Reads (name_parse name_byte least most stop) c d None = record { text = h.text; found = ends-bad (name_parse name_byte least most stop (left c)) h.found } in
      reads-parsed (span name_byte (left c)) n

  -- ---- what is found is in range, and 0 where nothing is

  pub number_fits : (stop max : ℕ) {r : Option ℕ} → 9 ≤ max → digit stop ≡ false → Reads (number_of stop max) c d r → read_or 0 r ≤ max
  number_fits stop max {r = Some v} nine off h = reads-ok (number stop max nine off) (number-within stop max nine h)
  number_fits stop max {r = None} nine off h = omega arith

  pub fixed-fits : (n : ℕ) {r : Option ℕ} → n ≤ 18 → 0 < 10 ^ n → Reads (fixed_of n) c d r → read_or 0 r < 10 ^ n
  fixed-fits n {r = Some v} few pos h = reads-ok (fixed_digits n) (fixed-within n few h)
  fixed-fits n {r = None} few pos h = pos

  pub word_fits : (v w : List ℕ) {r : Option ℕ} → Reads (words_parse (v ∷ w ∷ [])) c d r → read_or 0 r < 2
  word_fits v w {r = Some n} h = (subst (Sound (λ n. n < 2) (word_at (v ∷ w ∷ [])) (left c)) h.found (words-sound (v ∷ w ∷ []) (left c))).1
  word_fits v w {r = None} h = omega arith

  -- ---- a limit below 9, or more than 18 digits, finds nothing; a counter is a number that isn't 0

  pub number-off : (stop max : ℕ) {r : Option ℕ} → max < 9 → Reads (number_of stop max) c d r → r ≡ None
  number-off stop max {r = Some v} k h = absurd (got-bad (sym (rw (lt-leb 9 max k) at h.found)))
  number-off stop max {r = None} k h = refl

  pub fixed_off : (n : ℕ) {r : Option ℕ} → 18 < n → Reads (fixed_of n) c d r → r ≡ None
  fixed_off n {r = Some v} k h = absurd (got-bad (sym (rw (lt-leb n 18 k) at h.found)))
  fixed_off n {r = None} k h = refl

  pub counter-none : Reads (number_of 60 18446744073709551615) c d (Some 0) → Reads counter_parse c d None
  counter-none h = reads-fail (λ n. ltb 0 n) h refl

  pub counter-some : {n : ℕ} → Reads (number_of 60 18446744073709551615) c d (Some n) → 0 < n → Reads counter_parse c d (Some n)
  counter-some {n} h k = reads-only (λ n. ltb 0 n) h (lt-ltb 0 n k)

  -- ---- from the marks to the method

  pub parsed-reads : {A : Type 0} {f : List ℕ → Res A} {v : A} → d.text.now ≡ c.text.now → Parsed f c.text.now (Some c.at) (Some d.at) v → Reads f c d (Some v)
  parsed-reads {v = v} t h = record { text = t; found = h.run.run ∙ ap (λ (l : List ℕ). got v (drop d.at l)) (sym t) }

  pub parsed-none : {A : Type 0} {f : List ℕ → Res A} {v : A} → d.text.now ≡ c.text.now → Parsed f c.text.now (Some c.at) None v → Reads f c d None
  parsed-none t h = record { text = t; found = h.run.run }

-- a form is read in one way: its value and its end are those of any reading of it
pub reads-one : {A : Type 0} {f : List ℕ → Res A} {c d e : Cursor} {a b : A} → Reads f c d (Some a) → Reads f c e (Some b) → (a ≡ b) × (d.at ≡ e.at)
reads-one {c = c} {d} {e} {a} {b} h k =
    let same : got a (left d) ≡ got b (left e) = sym h.found ∙ k.found in
    let value : a ≡ b = cc in
    let rest : left d ≡ left e = cc in
    let i = d.inside in
    let j = e.inside in
    (value, omega (arith, ap length rest, length-drop d.at d.text.now, length-drop e.at e.text.now, ap length h.text, ap length k.text))
