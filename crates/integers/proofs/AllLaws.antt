-- What holds of each of a list: of its members, of what stands at its places, of lists made of others.
use Rattle.std.specs.Prelude.{refl, ℕ, zero, suc, ◌<◌, length, take, get_or}
use Rattle.std.proofs.Common.{sym, subst, ⊎_elim, arith}
use mathlib.Core.List.Memᴰ
use mathlib.Core.List.{List, [], ◌∷◌, ◌++◌, map, Memᴰ}
use Rattle.integers.specs.All.{All}

pub all_map : {A : Type 0} {P Q : A → Type 0} → ((a : A) → P a → Q a) → (l : List A) → All P l → All Q l
unfolding All
all_map h [] ok = tt
all_map h (a ∷ l) ok = (h a ok.0, all_map h l ok.1)

pub all_both : {A : Type 0} (P Q : A → Type 0) (l : List A) → All P l → All Q l → All (λ a. P a × Q a) l
unfolding All
all_both P Q [] p q = tt
all_both P Q (a ∷ l) p q = ((p.0, q.0), all_both P Q l p.1 q.1)

-- ---- what all have is what each member has, and what stands at each place

pub all_of : {A : Type 0} (P : A → Type 0) → ((a : A) → P a) → (l : List A) → All P l
unfolding All
all_of P h [] = tt
all_of P h (a ∷ l) = (h a, all_of P h l)

pub each_all : {A : Type 0} (P : A → Type 0) (l : List A) → ((a : A) → Memᴰ a l → P a) → All P l
unfolding All
each_all P [] h = tt
each_all P (a ∷ l) h = (h a (Memᴰ.head refl), each_all P l (λ b m. h b (Memᴰ.tail m)))

pub all-each : {A : Type 0} (P : A → Type 0) (l : List A) (x : A) → All P l → Memᴰ x l → P x
unfolding All
all-each P [] x h m = absurd (Memᴰ.not-nil m)
all-each P (a ∷ l) x h m = ⊎_elim (λ e. subst P (sym e) h.0) (λ k. all-each P l x h.1 k) (Memᴰ.cases_cons m)

pub all-at : {A : Type 0} (P : A → Type 0) (l : List A) (j : ℕ) (z : A) → All P l → j < length l → P (get_or l j z)
unfolding All
all-at P [] j z h i = absurd (omega arith)
all-at P (a ∷ l) zero z h i = h.0
all-at P (a ∷ l) (suc j) z h i = all-at P l j z h.1 (omega arith)

-- ---- lists made of others

pub all_append : {A : Type 0} (P : A → Type 0) (l m : List A) → All P l → All P m → All P (l ++ m)
unfolding All
all_append P [] m h k = k
all_append P (a ∷ l) m h k = (h.0, all_append P l m h.1 k)

pub all_left : {A : Type 0} (P : A → Type 0) (l m : List A) → All P (l ++ m) → All P l
unfolding All
all_left P [] m h = tt
all_left P (a ∷ l) m h = (h.0, all_left P l m h.1)

pub all_right : {A : Type 0} (P : A → Type 0) (l m : List A) → All P (l ++ m) → All P m
unfolding All
all_right P [] m h = h
all_right P (a ∷ l) m h = all_right P l m h.1

pub all_take : {A : Type 0} (P : A → Type 0) (n : ℕ) (l : List A) → All P l → All P (take n l)
unfolding All
all_take P zero l h = tt
all_take P (suc n) [] h = tt
all_take P (suc n) (a ∷ l) h = (h.0, all_take P n l h.1)

pub all_of_map : {A B : Type 0} (P : B → Type 0) (f : A → B) (l : List A) → All (λ a. P (f a)) l → All P (map f l)
unfolding All
all_of_map P f [] h = tt
all_of_map P f (a ∷ l) h = (h.0, all_of_map P f l h.1)

pub map-all : {A B : Type 0} (P : B → Type 0) (f : A → B) (l : List A) → All P (map f l) → All (λ a. P (f a)) l
unfolding All
map-all P f [] h = tt
map-all P f (a ∷ l) h = (h.0, map-all P f l h.1)
