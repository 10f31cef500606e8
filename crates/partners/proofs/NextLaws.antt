-- The nearer of two partners is below the number that no partner has.
use Rattle.std.specs.Prelude.{◌≡◌, Bool, true, ◌&&◌, ℕ, ◌≤◌, ◌<◌, leb, ltb, Option, Some, None, unwrap_or, IfSome}
use Rattle.std.proofs.Common.{arith, ltb-true}
use Rattle.integers.proofs.TestsLaws.{both}
use Rattle.partners.specs.PartnersInner.{no_partner}

pub at-most : (next : Option ℕ) → IfSome next (λ n. n < no_partner) → unwrap_or next no_partner ≤ no_partner
at-most None h = omega arith
at-most (Some n) h = omega (arith, h)

pub nearer-below : (taken : Bool) (low partner : ℕ) (next : Option ℕ) → IfSome next (λ n. n < no_partner) → (taken && (leb low partner && ltb partner (unwrap_or next no_partner))) ≡ true → partner < no_partner
nearer-below taken low partner next h e =
    let u = both taken (leb low partner && ltb partner (unwrap_or next no_partner)) e in
    let v = both (leb low partner) (ltb partner (unwrap_or next no_partner)) u.1 in
    omega (arith, ltb-true partner (unwrap_or next no_partner) v.1, at-most next h)
