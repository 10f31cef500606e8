-- The places behind the parts are those of the words.
use Rattle.std.specs.Prelude.{◌≡◌, List, [], ◌∷◌, ℕ, ◌+◌, ◌≤◌, length, drop}
use Rattle.std.proofs.Common.{refl, arith, length-append}
use Rattle.text.specs.Ascii.{bytes}
use Rattle.text.proofs.DecimalLaws.{length-fixed}
use Rattle.formats.specs.Exactly.{exactly, fixed_digits}
use Rattle.formats.specs.Format.{got}
use Rattle.formats.specs.FormatLaws.{sound-of}
use Rattle.formats.specs.Name.{name_byte, name_parse, name}
use Rattle.formats.proofs.PlaceLaws.{moved, tag-moved}
use Rattle.message.specs.Valid.{is_moment}
use Rattle.requests.proofs.LineLaws.{line-is, request-some, kind-on}
use Rattle.requests.proofs.read_request.Goals as goal

-- the name is followed by a byte
behind-name : (s : List ℕ) {p q : ℕ} {l : List ℕ} → p ≤ length s → q ≤ length s → name_parse name_byte 1 36 32 (drop p s) ≡ got l (drop q s) → q ≡ p + length l + 1
behind-name s {p} {q} {l} h k e = omega (arith, moved (name name_byte 1 36 32 refl) s h k e, length-append l (32 ∷ []))

pub overflow_sub-result : goal.overflow_sub-result
overflow_sub-result c = omega (arith, behind-name c.args.input.now c.in_ok-id.ensures.1 c.in_ok-moment.ensures.1 c.in_ok-moment.ensures.0)

pub overflow_sub-result-2 : goal.overflow_sub-result-2
overflow_sub-result-2 c = omega (arith, behind-name c.args.input.now c.in_ok-id.ensures.1 c.in_ok-moment.ensures.1 c.in_ok-moment.ensures.0)

pub returns : goal.returns
unfolding bytes
returns c =
    let s = c.args.input.now in
    let k = c.in_ok-kind.ensures in
    let a = c.in_ok-at.ensures in
    let r = c.in_ok-receiver.ensures in
    let i = c.in_ok-id.ensures in
    let m = c.in_ok-moment.ensures in
    let e = c.in_ok-end.ensures in
    let b = c.in_ok-book.ensures in
    let id : c.in_ok-id.id ≡ 14 =
    omega (
      arith,
      moved (fixed_digits 2) s {p = 0} (omega arith) k.1 k.0,
      length-fixed 2 c.in_ok-kind.kind.value,
      tag-moved (32 ∷ []) s k.1 a.1 a.0,
      moved (fixed_digits 10) s a.1 r.1 r.0,
      length-fixed 10 c.in_ok-receiver.receiver.value,
      tag-moved (32 ∷ []) s r.1 i.1 i.0,
    ) in
    let moment = behind-name s i.1 m.1 m.0 in
    let long = (sound-of (exactly 29 is_moment) (drop c.in_ok-moment.moment s) _ _ e.0).1.0 in
    let end = moved (exactly 29 is_moment) s m.1 e.1 e.0 in
    let book = tag-moved (10 ∷ []) s e.1 b.1 b.0 in
    request-some s _ _ _ _ _ (line-is s k.0 (kind-on _ _ _ c.try_from.ensures c.in_ok-ok.ensures.value) a.0 r.0 i.0 m.0 e.0 b.0) id (omega (arith, id, moment)) (omega (arith, id, moment, long, end, book))
