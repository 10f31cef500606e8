-- A number without leading zeros, at most `max`, and the byte that ends it.
use Rattle.std.specs.Prelude.{◌≡◌, Bool, cond}
use Rattle.std.proofs.Math.Path.{refl, sym, ap}
use Rattle.std.proofs.Common.{◌∙◌}
use Rattle.std.proofs.Math.Bool.{true, false}
use mathlib.Core.List.{List, [], ◌∷◌, ◌++◌, append_assoc}
use Prim.Native.Nat.{ℕ, zero, suc, ◌+◌, ◌-◌, ◌*◌, ◌/◌, ◌%◌, ◌≤◌, ◌<◌}
use Rattle.std.proofs.Math.Dec.{eqb, leb, ltb}
use native.Mathlib.Omega.{arith}
use borrow.Author.Tests.{eq-eqb, eqb-true, ne_eqb, le-leb, lt-ltb, leb-true, ltb-true}
use Rattle.text.specs.Decimal.{digit, above, fixed, plain, count}
use Rattle.text.proofs.DecimalLaws.{true-false, digit-is, is_digit, above_zero, above-suc, above-le, plain-is, plain-has}
use Rattle.formats.specs.Format.{Res, got, bad, Sound, Format, pick}

off-stop : (stop : ℕ) → digit stop ≡ false → (x : ℕ) → 48 ≤ x → x ≤ 57 → eqb x stop ≡ false
off-stop stop off x lo hi = ne_eqb x stop (λ e. true-false (sym (is_digit x lo hi) ∙ ap digit e ∙ off))

module _ (stop max : ℕ) where
  -- behind digits that say acc: the end, or a digit more, which a lone 0 doesn't have and which doesn't lead past max
  unfoldable pub more_parse : ℕ → List ℕ → Res ℕ
  more_parse acc [] = bad
  more_parse acc (x ∷ s) =
      cond (eqb x stop) (got acc s)
      (pick (digit x) (pick (ltb 0 acc) (pick (leb (acc * 10 + (x - 48)) max) (more_parse (acc * 10 + (x - 48)) s))))

  unfoldable pub number_parse : List ℕ → Res ℕ
  number_parse [] = bad
  number_parse (x ∷ s) = pick (digit x) (more_parse (x - 48) s)

  -- what is read behind acc: n digits more of v
  record Behind (acc : ℕ) (s : List ℕ) (v : ℕ) (rest : List ℕ) : Type 0 where
    n : ℕ
    bytes : s ≡ fixed n v ++ stop ∷ rest
    begun : above n v ≡ acc
    lead : 0 < n → 0 < acc
    small : acc ≤ max → v ≤ max

  abbrev Behinds : ℕ → List ℕ → Res ℕ → Type 0
  Behinds acc s (got v rest) = Behind acc s v rest
  Behinds acc s bad = Unit {0}

  more-sound : (acc : ℕ) (s : List ℕ) → Behinds acc s (more_parse acc s)
  unfolding fixed more_parse
  more-sound acc [] = tt
  more-sound acc (x ∷ s) =
      let acc' = acc * 10 + (x - 48) in
      go (eqb x stop) refl (digit x) refl (ltb 0 acc) refl (leb acc' max) refl (more_parse acc' s) (more-sound acc' s)
    where
      go : (b₀ : Bool) → eqb x stop ≡ b₀ → (b₁ : Bool) → digit x ≡ b₁ → (b₂ : Bool) → ltb 0 acc ≡ b₂
          → (b₃ : Bool) → leb (acc * 10 + (x - 48)) max ≡ b₃ → (r : Res ℕ) → Behinds (acc * 10 + (x - 48)) s r
          → Behinds acc (x ∷ s) (cond b₀ (got acc s) (pick b₁ (pick b₂ (pick b₃ r))))
      go true e₀ b₁ e₁ b₂ e₂ b₃ e₃ r h = record { n = 0; bytes = ap (λ (y : ℕ). y ∷ s) (eqb-true x stop e₀); begun = above_zero acc; lead = λ z. absurd (omega arith); small = λ z. z }
      go false e₀ false e₁ b₂ e₂ b₃ e₃ r h = tt
      go false e₀ true e₁ false e₂ b₃ e₃ r h = tt
      go false e₀ true e₁ true e₂ false e₃ r h = tt
      go false e₀ true e₁ true e₂ true e₃ bad h = tt
      go false e₀ true e₁ true e₂ true e₃ (got v rest) h =
          let d = digit-is x e₁ in
          let b = h.begun in
          let k : x ≡ 48 + above h.n v % 10 = omega arith in
          record {
            n = suc h.n;
            bytes = ap (λ (y : ℕ). y ∷ s) k ∙ ap (λ (l : List ℕ). (48 + above h.n v % 10) ∷ l) h.bytes;
            begun = omega (arith, above-suc h.n v);
            lead = λ z. ltb-true 0 acc e₂;
            small = λ z. h.small (leb-true (acc * 10 + (x - 48)) max e₃);
          }

  module _ (nine : 9 ≤ max) (off : digit stop ≡ false) where
    pub number-sound : (s : List ℕ) → Sound (λ v. v ≤ max) (λ v. plain v ++ (stop ∷ [])) s (number_parse s)
    unfolding fixed number_parse
    number-sound [] = tt
    number-sound (x ∷ s) = go (digit x) refl (more_parse (x - 48) s) (more-sound (x - 48) s)
      where
        go : (b : Bool) → digit x ≡ b → (r : Res ℕ) → Behinds (x - 48) s r → Sound (λ v. v ≤ max) (λ v. plain v ++ (stop ∷ [])) (x ∷ s) (pick b r)
        go false e r h = tt
        go true e bad h = tt
        go true e (got v rest) h =
            let d = digit-is x e in
            let b = h.begun in
            let k : x ≡ 48 + above h.n v % 10 = omega arith in
            let p : plain v ≡ fixed (suc h.n) v = plain-is h.n v (omega arith) (λ z. omega (arith, h.lead z)) in (
              rw p (ap (λ (y : ℕ). y ∷ s) k ∙ ap (λ (l : List ℕ). (48 + above h.n v % 10) ∷ l) (h.bytes ∙ sym (append_assoc (fixed h.n v) (stop ∷ []) rest))),
              h.small (omega arith),
            )

    more-complete : (n v : ℕ) (rest : List ℕ) → (0 < n → 0 < above n v) → v ≤ max → more_parse (above n v) (fixed n v ++ stop ∷ rest) ≡ got v rest
    unfolding fixed more_parse
    more-complete zero v rest a b = rw (eq-eqb stop stop refl) (ap (λ (k : ℕ). got k rest) (above_zero v))
    more-complete (suc n) v rest a b =
        let d = 48 + above n v % 10 in
        let k : above (suc n) v * 10 + (d - 48) ≡ above n v = omega (arith, above-suc n v) in
        let lead = a (omega arith) in
        simp (is_digit d (omega arith) (omega arith), off-stop stop off d (omega arith) (omega arith), lt-ltb 0 (above (suc n) v) lead, k, le-leb (above n v) max (omega (arith, above-le n v)))
        (more-complete n v rest (λ z. omega (arith, above-suc n v)) b)

    pub number-complete : (v : ℕ) (rest : List ℕ) → v ≤ max → number_parse (plain v ++ (stop ∷ []) ++ rest) ≡ got v rest
    unfolding fixed number_parse
    number-complete v rest ok =
        let n = count v (v / 10) in
        let m = plain-has v in
        let d = 48 + above n v % 10 in
        let k : d - 48 ≡ above n v = omega (arith, m.one) in
        ap (λ (l : List ℕ). number_parse (l ++ (stop ∷ []) ++ rest)) m.bytes
        ∙ simp (append_assoc (fixed n v) (stop ∷ []) rest, is_digit d (omega arith) (omega arith), k) (more-complete n v rest m.lead ok)

    abbrev pub number : Format ℕ
    number = record { Ok = λ v. v ≤ max; render = λ v. plain v ++ (stop ∷ []); parse = number_parse; sound = number-sound; complete = number-complete }
