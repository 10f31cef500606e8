-- An answer is what it says: accepted exactly where it sends back no refusal.
use Rattle.std.specs.Prelude.{◌≡◌, refl, Result, Ok, Err, IfOk, ℕ, zero, suc}
use Rattle.std.proofs.Common.{sym, ap, subst, ◌∙◌, arith}
use Rattle.std.proofs.Math.Option.{Option, none, some}
use Rattle.refusals.specs.Refusals.{Refusal}
use Rattle.refusals.specs.Sent.{sent_back, said, says}
use Rattle.refusals.specs.SentInner.{refusal_in}
use Rattle.refusals.specs.declared.Refused.{Refused}
use Rattle.refusals.specs.declared.Refused.TheVariants.{Header, Layout, Tables, Register, Readings, Engagements, Missing, TooFew, Short, Role, Malformed, NoFile}

module _ {A : Type 0} where
  -- ---- what an answer says

  -- an answer that says a count is that count
  pub said-ok : (r : Result A Refused) (x : A) → said r ≡ Ok x → r ≡ Ok x
  said-ok (Ok y) x e = let z : y ≡ x = cc in ap Ok z
  said-ok (Err y) x e = let z : ◌≡◌ {A = ℕ} 0 1 = cc in absurd (omega arith)

  -- one that says a refusal sends it back
  pub said-err : (r : Result A Refused) (x : Refusal) → said r ≡ Err x → refusal_in r ≡ some x
  said-err (Err y) x e = let z : sent_back y ≡ x = cc in ap some z
  said-err (Ok y) x e = let z : ◌≡◌ {A = ℕ} 0 1 = cc in absurd (omega arith)

  -- no refusal is sent back exactly where there is an answer
  pub none-ok : (r : Result A Refused) → refusal_in r ≡ none → (x : A) × (r ≡ Ok x)
  none-ok (Ok x) e = (x, refl)
  none-ok (Err y) e = let z : ◌≡◌ {A = ℕ} 0 1 = cc in absurd (omega arith)

  pub ok-none : (r : Result A Refused) (x : A) → r ≡ Ok x → refusal_in r ≡ none
  ok-none (Ok y) x e = refl
  ok-none (Err y) x e = let z : ◌≡◌ {A = ℕ} 0 1 = cc in absurd (omega arith)

  pub some-err : (r : Result A Refused) (x : Refusal) → refusal_in r ≡ some x → said r ≡ Err x
  some-err (Err y) x e = let z : sent_back y ≡ x = cc in ap Err z
  some-err (Ok y) x e = let z : ◌≡◌ {A = ℕ} 0 1 = cc in absurd (omega arith)

  -- ---- what a refusal, if there is one, and a count say

  pub says-is : (r : Result A Refused) (o : Option Refusal) (x : A) → refusal_in r ≡ o → (o ≡ none → r ≡ Ok x) → said r ≡ says o x
  says-is (Ok y) none x e k = ap said (k refl)
  says-is (Ok y) (some q) x e k = let z : ◌≡◌ {A = ℕ} 0 1 = cc in absurd (omega arith)
  says-is (Err y) none x e k = let z : ◌≡◌ {A = ℕ} 0 1 = cc in absurd (omega arith)
  says-is (Err y) (some q) x e k = let z : sent_back y ≡ q = cc in ap Err z

  pub refusal-of : (r : Result A Refused) (o : Option Refusal) (x : A) → said r ≡ says o x → refusal_in r ≡ o
  refusal-of r none x e = ok-none r x (said-ok r x e)
  refusal-of r (some q) x e = said-err r q e

  pub says-ok : (o : Option Refusal) (x y : A) → says o x ≡ Ok y → (o ≡ none) × (x ≡ y)
  says-ok none x y e = (refl, (let z : x ≡ y = cc in z))
  says-ok (some q) x y e = let z : ◌≡◌ {A = ℕ} 0 1 = cc in absurd (omega arith)

  pub says-err : (o : Option Refusal) (x : A) (q : Refusal) → says o x ≡ Err q → o ≡ some q
  says-err (some p) x q e = let z : p ≡ q = cc in ap some z
  says-err none x q e = let z : ◌≡◌ {A = ℕ} 0 1 = cc in absurd (omega arith)

  -- the answer of a call that isn't refused, and of one that is
  pub answered : (r : Result A Refused) (o : Option Refusal) (x : A) → said r ≡ says o x → o ≡ none → r ≡ Ok x
  answered r none x e f = said-ok r x e
  answered r (some q) x e f = let z : ◌≡◌ {A = ℕ} 0 1 = cc in absurd (omega arith)

  -- what holds of that answer, where it isn't refused, holds of what is accepted
  pub if-ok : (r : Result A Refused) (o : Option Refusal) (x : A) (P : A → Type 0) → said r ≡ says o x → (o ≡ none → P x) → IfOk r P
  if-ok (Ok y) none x P e k = let z : x ≡ y = cc in subst P z (k refl)
  if-ok (Ok y) (some q) x P e k = let z : ◌≡◌ {A = ℕ} 0 1 = cc in absurd (omega arith)
  if-ok (Err y) o x P e k = tt

-- ---- two answers that say the same are the same

-- the refusal of a number and an item
refused_of : ℕ → ℕ → Refused
refused_of zero i = NoFile
refused_of (suc zero) i = Header
refused_of (suc (suc zero)) i = Layout
refused_of (suc (suc (suc zero))) i = NoFile
refused_of (suc (suc (suc (suc zero)))) i = Tables
refused_of (suc (suc (suc (suc (suc zero))))) i = Register i
refused_of (suc (suc (suc (suc (suc (suc zero)))))) i = Readings i
refused_of (suc (suc (suc (suc (suc (suc (suc zero))))))) i = Engagements i
refused_of (suc (suc (suc (suc (suc (suc (suc (suc zero)))))))) i = Missing i
refused_of (suc (suc (suc (suc (suc (suc (suc (suc (suc zero))))))))) i = TooFew i
refused_of (suc (suc (suc (suc (suc (suc (suc (suc (suc (suc zero)))))))))) i = Short i
refused_of (suc (suc (suc (suc (suc (suc (suc (suc (suc (suc (suc zero))))))))))) i = Role
refused_of (suc (suc (suc (suc (suc (suc (suc (suc (suc (suc (suc (suc zero)))))))))))) i = Malformed
refused_of (suc (suc (suc (suc (suc (suc (suc (suc (suc (suc (suc (suc (suc k))))))))))))) i = NoFile

back : (e : Refused) → refused_of (sent_back e).number (sent_back e).item ≡ e
unfolding refused_of
back Header = refl
back Layout = refl
back Tables = refl
back (Register i) = refl
back (Readings i) = refl
back (Engagements i) = refl
back (Missing i) = refl
back (TooFew i) = refl
back (Short i) = refl
back Role = refl
back Malformed = refl
back NoFile = refl

pub sent-same : {d e : Refused} → sent_back d ≡ sent_back e → d ≡ e
sent-same {d} {e} h = sym (back d) ∙ ap (λ (r : Refusal). refused_of r.number r.item) h ∙ back e

pub said-same : {A : Type 0} {r s : Result A Refused} → said r ≡ said s → r ≡ s
said-same {A} {r} {s} h = go r s h
  where
    go : (r s : Result A Refused) → said r ≡ said s → r ≡ s
    go (Ok x) (Ok y) e = let z : x ≡ y = cc in ap Ok z
    go (Err x) (Err y) e = let z : sent_back x ≡ sent_back y = cc in ap Err (sent-same z)
    go (Ok x) (Err y) e = let z : ◌≡◌ {A = ℕ} 0 1 = cc in absurd (omega arith)
    go (Err x) (Ok y) e = let z : ◌≡◌ {A = ℕ} 0 1 = cc in absurd (omega arith)
