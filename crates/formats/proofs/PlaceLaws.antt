-- What the readers' tests show of a reading at a place.
use Rattle.std.specs.Prelude.{◌≡◌, ◌≢◌, refl, Bool, true, false, cond, List, [], ◌∷◌, ℕ, ◌+◌, ◌-◌, ◌*◌, ◌≤◌, ◌<◌, length, take, drop, get_or, eqb, ltb, leb, Option, Some, None, unwrap_or, not, nat_lt, ◌⊎◌}
use Rattle.std.proofs.Common.{sym, ap, inl, inr, ◌∙◌, subst, length-drop, length-append, drop_of_length-le, arith, add-one, eq-eqb, ne_eqb, le-leb, leb-true, leb-false, ltb-false, drop-cons, drop-drop}
use Rattle.std.proofs.lemmas.Bool.{lt-leb, lt-ltb, le-ltb}
use Rattle.std.specs.List.{position, position_or_len}
use Rattle.std.proofs.lemmas.List.Recursion.{is_position_or_len}
use Rattle.text.specs.Tag.{begins}
use Rattle.text.proofs.TagLaws.{begins-length}
use Rattle.text.specs.Decimal.{digit, digits, value_of, pick_number, fixed_at}
use Rattle.text.proofs.DecimalLaws.{digit-is}
use Rattle.formats.specs.Format.{Res, got, bad, Sound, Format, bind, pick}
use Rattle.formats.specs.Combine.{strip, strip-sound, map_parse}
use Rattle.formats.specs.FormatLaws.{sound-of}
use Rattle.formats.specs.Exactly.{exactly_parse, fixed_digits}
use Rattle.formats.specs.Numbers.{more_parse, number_parse}
use Rattle.formats.specs.Name.{span, span-split, name_parse}
use Rattle.formats.specs.PlaceInner.{Parsed, Valued}

-- ---- how far a reading goes

pub moved : {A : Type 0} (F : Format A) (s : List ℕ) {p q : ℕ} {v : A} → p ≤ length s → q ≤ length s → F.parse (drop p s) ≡ got v (drop q s) → q ≡ p + length (F.render v)
moved F s {p} {q} {v} h k e =
    let f = (sound-of F (drop p s) v (drop q s) e).0 in
    omega (arith, ap length f, length-append (F.render v) (drop q s), length-drop p s, length-drop q s)

-- ---- a tag

pub tag-moved : (t s : List ℕ) {p q : ℕ} → p ≤ length s → q ≤ length s → strip t (drop p s) ≡ got tt (drop q s) → q ≡ p + length t
tag-moved t s {p} {q} h k e =
    let f = subst (Sound (λ u. Unit {0}) (λ u. t) (drop p s)) e (strip-sound t (drop p s)) in
    omega (arith, ap length f.0, length-append t (drop q s), length-drop p s, length-drop q s)

module _ (t s : List ℕ) (at : ℕ) where
  pub tag-behind : begins t (drop at s) ≡ true → strip t (drop at s) ≡ got tt (drop (at + length t) s)
  unfolding strip
  tag-behind e = rw e (ap (got tt) (drop-drop (length t) at s))

  pub tag-room : at ≤ length s → begins t (drop at s) ≡ true → at + length t ≤ length s
  tag-room h e = omega (arith, begins-length t (drop at s) e, length-drop at s)

  pub tag-none : begins t (drop at s) ≡ false → Parsed (strip t) s at tt None
  unfolding strip
  tag-none e = rw e

-- ---- a number of n digits

-- what the code's answer says of the reading
abbrev told : List ℕ → ℕ → Option ℕ → Res ℕ
told s q (Some v) = got v (drop q s)
told s q None = bad

pub fixed_told : (s : List ℕ) (p n : ℕ) → p ≤ length s → (fixed_digits n).parse (drop p s) ≡ told s (p + n) (fixed_at s p n)
unfolding map_parse exactly_parse fixed_at
fixed_told s p n h = go (leb n (length (drop p s))) refl (leb (p + n) (length s)) refl (digits (take n (drop p s)))
  where
    go : (a : Bool) → leb n (length (drop p s)) ≡ a → (b : Bool) → leb (p + n) (length s) ≡ b → (d : Bool)
        → bind (pick a (pick d (got (take n (drop p s)) (drop n (drop p s))))) (λ l r. got (value_of l) r) ≡ told s (p + n) (pick_number b (pick_number d (Some (value_of (take n (drop p s))))))
    go true e true f true = ap (got (value_of (take n (drop p s)))) (drop-drop n p s)
    go true e true f false = refl
    go false e false f d = refl
    go true e false f d = absurd (omega (arith, leb-true n (length (drop p s)) e, leb-false (p + n) (length s) f, length-drop p s))
    go false e true f d = absurd (omega (arith, leb-false n (length (drop p s)) e, leb-true (p + n) (length s) f, length-drop p s))

module _ (s : List ℕ) (p n : ℕ) where
  pub fixed-room : {v : ℕ} → Some v ≡ fixed_at s p n → p + n ≤ length s
  unfolding fixed_at
  fixed-room {v} e = go (leb (p + n) (length s)) refl e
    where
      go : (b : Bool) → leb (p + n) (length s) ≡ b → Some v ≡ pick_number b (pick_number (digits (take n (drop p s))) (Some (value_of (take n (drop p s))))) → p + n ≤ length s
      go true f e = leb-true (p + n) (length s) f
      go false f e = let z : ◌≡◌ {A = ℕ} 0 1 = cc in absurd (omega arith)

  pub fixed-there : (h : p ≤ length s) (v : ℕ) → Some v ≡ fixed_at s p n → Valued (fixed_digits n).parse s p (Some (record { value = v; next = p + n }))
  fixed-there h v e = (fixed_told s p n h ∙ ap (told s (p + n)) (sym e), fixed-room e)

  pub fixed-none : p ≤ length s → None ≡ fixed_at s p n → Valued (fixed_digits n).parse s p None
  fixed-none h e = fixed_told s p n h ∙ ap (told s (p + n)) (sym e)

-- ---- a number without leading zeros, one byte on

module _ (stop max : ℕ) (s : List ℕ) (p : ℕ) where
  pub number_short : length s ≤ p → number_parse stop max (drop p s) ≡ bad
  unfolding number_parse
  number_short k = rw (drop_of_length-le s k)

  pub number_step : p < length s → number_parse stop max (drop p s) ≡ pick (digit (get_or s p 0)) (more_parse stop max (get_or s p 0 - 48) (drop (p + 1) s))
  unfolding number_parse
  number_step k = rw (add-one, drop-cons s p 0)

  pub more-short : (acc : ℕ) → length s ≤ p → more_parse stop max acc (drop p s) ≡ bad
  unfolding more_parse
  more-short acc k = rw (drop_of_length-le s k)

  more-step : (acc : ℕ) → p < length s
      → more_parse stop max acc (drop p s)
      ≡ cond (eqb (get_or s p 0) stop) (got acc (drop (p + 1) s))
      (pick (digit (get_or s p 0)) (pick (ltb 0 acc) (pick (leb (acc * 10 + (get_or s p 0 - 48)) max)
      (more_parse stop max (acc * 10 + (get_or s p 0 - 48)) (drop (p + 1) s)))))
  unfolding more_parse
  more-step acc k = rw (add-one, drop-cons s p 0)

  -- the same, as each of the code's tests finds it
  module _ (acc : ℕ) (k : p < length s) where
    pub more-stop : get_or s p 0 ≡ stop → more_parse stop max acc (drop p s) ≡ got acc (drop (p + 1) s)
    more-stop e = more-step acc k ∙ rw (eq-eqb (get_or s p 0) stop e)

    module _ (n : get_or s p 0 ≢ stop) where
      pub more-none : digit (get_or s p 0) ≡ false → more_parse stop max acc (drop p s) ≡ bad
      more-none e = more-step acc k ∙ rw (ne_eqb (get_or s p 0) stop n, e)

      pub more-zero : digit (get_or s p 0) ≡ true → acc ≡ 0 → more_parse stop max acc (drop p s) ≡ bad
      more-zero e z = more-step acc k ∙ rw (ne_eqb (get_or s p 0) stop n, e, le-ltb 0 acc (omega arith))

      pub more-over : digit (get_or s p 0) ≡ true → 0 < acc → max < acc * 10 + (get_or s p 0 - 48) → more_parse stop max acc (drop p s) ≡ bad
      more-over e z h = more-step acc k ∙ rw (ne_eqb (get_or s p 0) stop n, e, lt-ltb 0 acc z, lt-leb (acc * 10 + (get_or s p 0 - 48)) max h)

      pub more-digit : digit (get_or s p 0) ≡ true → 0 < acc → acc * 10 + (get_or s p 0 - 48) ≤ max
          → more_parse stop max acc (drop p s) ≡ more_parse stop max (acc * 10 + (get_or s p 0 - 48)) (drop (p + 1) s)
      more-digit e z h = more-step acc k ∙ rw (ne_eqb (get_or s p 0) stop n, e, lt-ltb 0 acc z, le-leb (acc * 10 + (get_or s p 0 - 48)) max h)

-- ---- a name

-- how long it is: as far as the first byte that doesn't pass, or to the end
span-one : (test : ℕ → Bool) (y : ℕ) (l : List ℕ) → length (span test (y ∷ l)) ≡ cond (not (test y)) 0 (1 + length (span test l))
unfolding span
span-one test y l = go (test y)
  where
    go : (b : Bool) → length (cond b (y ∷ span test l) []) ≡ cond (not b) 0 (1 + length (span test l))
    go true = omega arith
    go false = refl

span-empty : (test : ℕ → Bool) → length (span test []) ≡ 0
unfolding span
span-empty test = refl

span-or-len : (test : ℕ → Bool) (l : List ℕ) → length (span test l) ≡ position_or_len (λ x. not (test x)) l
span-or-len test l = is_position_or_len (λ k. length (span test k)) (λ x. not (test x)) (span-empty test) (span-one test) l

pub span_position : (test : ℕ → Bool) (l : List ℕ) → unwrap_or (position (λ x. not (test x)) l) (length l) ≡ length (span test l)
span_position test l = go (nat_lt n (length l)) refl
  where
    n : ℕ
    n = position_or_len (λ x. not (test x)) l

    most : length (span test l) ≤ length l
    most = omega (arith, ap length (span-split test l), length-append (span test l) (drop (length (span test l)) l))

    go : (b : Bool) → nat_lt n (length l) ≡ b → unwrap_or (cond b (Some n) None) (length l) ≡ length (span test l)
    go true e = sym (span-or-len test l)
    go false e = omega (arith, most, span-or-len test l, ltb-false n (length l) e)

-- ---- a name, one byte on

module _ (test : ℕ → Bool) (s : List ℕ) (p : ℕ) where
  pub span-short : length s ≤ p → span test (drop p s) ≡ []
  unfolding span
  span-short k = rw (drop_of_length-le s k)

  pub span-stop : p < length s → test (get_or s p 0) ≡ false → span test (drop p s) ≡ []
  unfolding span
  span-stop k e = rw (drop-cons s p 0, e)

  pub span-step : p < length s → test (get_or s p 0) ≡ true → span test (drop p s) ≡ get_or s p 0 ∷ span test (drop (p + 1) s)
  unfolding span
  span-step k e = rw (drop-cons s p 0, e, add-one)

  pub span-room : p ≤ length s → p + length (span test (drop p s)) ≤ length s
  span-room h =
      omega (arith, length-drop p s, ap length (span-split test (drop p s)), length-append (span test (drop p s)) (drop (length (span test (drop p s))) (drop p s)))

  module _ (least most stop : ℕ) where
    name-short : length (span test (drop p s)) < least → name_parse test least most stop (drop p s) ≡ bad
    unfolding name_parse
    name-short h = rw (lt-leb least (length (span test (drop p s))) h)

    name-long : least ≤ length (span test (drop p s)) → most < length (span test (drop p s)) → name_parse test least most stop (drop p s) ≡ bad
    unfolding name_parse
    name-long h k = rw (le-leb least (length (span test (drop p s))) h, lt-leb (length (span test (drop p s))) most k)

    -- a length out of range
    pub name-out : (n : ℕ) → n ≡ length (span test (drop p s)) → (n < least) ⊎ ((least ≤ n) × (most < n)) → name_parse test least most stop (drop p s) ≡ bad
    name-out n e (inl h) = name-short (omega arith)
    name-out n e (inr h) = name-long (omega (arith, h.0)) (omega (arith, h.1))

    pub name-there : (r : Option ℕ) → least ≤ length (span test (drop p s)) → length (span test (drop p s)) ≤ most
        → Parsed (strip (stop ∷ [])) s (p + length (span test (drop p s))) tt r → Parsed (name_parse test least most stop) s p (span test (drop p s)) r
    unfolding name_parse
    name-there (Some next) h k t =
        let l = span test (drop p s) in
        (rw (le-leb least (length l) h, le-leb (length l) most k, drop-drop (length l) p s, t.0), t.1)
    name-there None h k t =
        let l = span test (drop p s) in
        rw (le-leb least (length l) h, le-leb (length l) most k, drop-drop (length l) p s, t)

-- the same, as the check cites them
pub ruleset tags = (tag-behind, tag-room, tag-none)

pub ruleset fixed_values = (fixed-there, fixed-none, fixed-room)

pub ruleset number_steps = (number_short, number_step, more-short, more-stop, more-none, more-zero, more-over, more-digit, digit-is)

pub ruleset names = (span-room, name-out, name-there)
