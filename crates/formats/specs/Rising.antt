-- Items whose keys rise strictly.
use Rattle.std.specs.Prelude.{◌≡◌, refl, true, ℕ, suc, length, leb}
use mathlib.Core.List.{List, [], ◌∷◌, map, flat_map}
use Rattle.integers.proofs.TestsLaws.{and_left, and_right, and_both}
use Rattle.integers.specs.Rises.{rises}
use Rattle.integers.specs.All.{All}
use Rattle.formats.specs.Format.{Res, Format}
use Rattle.formats.specs.Combine.{map_parse, Recast, recast, only_parse, only}
use Rattle.formats.specs.Items.{repeat_parse, items, items_render, ItemsOk, items-bytes}

-- n readings of f under states, each of a key of at least `low` and above those before it
module _ {A S : Type 0} (f : S → List ℕ → Res A) (key : A → ℕ) (next : S → A → S) where
  unfoldable pub rising_parse : ℕ → ℕ → S → List ℕ → Res (List A)
  rising_parse n low st =
      map_parse (λ l. l) (repeat_parse (λ (t : ℕ × S). only_parse (λ a. leb t.0 (key a)) (f t.1)) (λ t a. (suc (key a), next t.1 a)) n (low, st))

module _ {A S : Type 0} (F : S → Format A) (key : A → ℕ) (next : S → A → S) where
  -- an item under the least key that it may have and the state of the items
  abbrev pub from_low : ℕ × S → Format A
  from_low st = only (λ a. leb st.0 (key a)) (F st.1)

  abbrev pub rise : ℕ × S → A → ℕ × S
  rise st a = (suc (key a), next st.1 a)

  to-rising : (low : ℕ) (st : S) (l : List A) → ItemsOk from_low rise (low, st) l → (rises low (map key l) ≡ true) × ItemsOk F next st l
  unfolding ItemsOk rises
  to-rising low st [] ok = (refl, tt)
  to-rising low st (a ∷ l) ok =
      let r = to-rising (suc (key a)) (next st a) l ok.1 in
      (and_both ok.0.1 r.0, (ok.0.0, r.1))

  from-rising : (low : ℕ) (st : S) (l : List A) → rises low (map key l) ≡ true → ItemsOk F next st l → ItemsOk from_low rise (low, st) l
  unfolding ItemsOk rises
  from-rising low st [] e ok = tt
  from-rising low st (a ∷ l) e ok = (
    (ok.0, and_left (leb low (key a)) (rises (suc (key a)) (map key l)) e),
    from-rising (suc (key a)) (next st a) l (and_right (leb low (key a)) (rises (suc (key a)) (map key l)) e) ok.1,
  )

  -- what n such items are
  pub record Rising (n low : ℕ) (st : S) (l : List A) : Type 0 where
    pub count : length l ≡ n
    pub rising : rises low (map key l) ≡ true
    pub each : ItemsOk F next st l

  module _ (bytes : A → List ℕ) (same : (st : S) (a : A) → (F st).render a ≡ bytes a) (n low : ℕ) (st : S) where
    pub rising-recast : Recast (items from_low rise n (low, st)) (Rising n low st) (flat_map bytes) (λ l. l) (λ l. l)
    rising-recast =
        record {
          to_ok = λ l ok. let r = to-rising low st l ok.1 in record { count = ok.0; rising = r.0; each = r.1 };
          from_ok = λ l ok. (ok.count, from-rising low st l ok.rising ok.each);
          back = λ l ok. refl;
          forth = λ l ok. refl;
          same = λ l ok. bytes-are (low, st) l;
        }
      where
        bytes-are : (st : ℕ × S) (l : List A) → items_render from_low rise st l ≡ flat_map bytes l
        bytes-are st l = items-bytes from_low rise bytes (λ st a. same st.1 a) st l

    abbrev pub rising_items : Format (List A)
    rising_items = recast (items from_low rise n (low, st)) (Rising n low st) (flat_map bytes) (λ l. l) (λ l. l) rising-recast

-- ---- each element

module _ {A S : Type 0} (F : Format A) (next : S → A → S) where
  pub to-all : (st : S) (l : List A) → ItemsOk (λ st. F) next st l → All F.Ok l
  unfolding ItemsOk All
  to-all st [] ok = tt
  to-all st (a ∷ l) ok = (ok.0, to-all (next st a) l ok.1)

  pub from_all : (st : S) (l : List A) → All F.Ok l → ItemsOk (λ st. F) next st l
  unfolding ItemsOk All
  from_all st [] ok = tt
  from_all st (a ∷ l) ok = (ok.0, from_all (next st a) l ok.1)
