-- Readings one after the other: in which order they are put together doesn't matter, and what is made of a reading doesn't change where it ends.
use Rattle.std.specs.Prelude.{◌≡◌, refl, List, ℕ}
use Rattle.formats.specs.Format.{Res, got, bad, bind, ends}

pub bind_assoc : {A B C : Type 0} (x : Res A) (f : A → List ℕ → Res B) (g : B → List ℕ → Res C) → bind (bind x f) g ≡ bind x (λ a q. bind (f a q) g)
bind_assoc bad f g = refl
bind_assoc (got a q) f g = refl

pub ends-bind : {A B : Type 0} (f : A → B) (x : Res A) → ends (bind x (λ a q. got (f a) q)) ≡ ends x
ends-bind f bad = refl
ends-bind f (got a r) = refl
