-- Writes one behind the other are one write; a write moves by one element; a write in a part of a list is a write in the list; a part that is replaced is a write.
use Rattle.std.specs.Prelude.{◌≡◌, List, [], ◌∷◌, ◌++◌, ℕ, suc, ◌+◌, ◌≤◌, ◌<◌, length, take, drop, set, get_or}
use Rattle.std.proofs.Common.{sym, ap, ◌∙◌, append_assoc, append-nil, arith, add-zero, add-one, add_assoc, add-suc, suc-add, length-append, length-drop, take-append-drop, drop_of_length-le, length-take-le, take_at, take-suc, take-add, drop-drop, drop-cons}
use Rattle.std.proofs.lemmas.List.{set_at}
use Rattle.std.proofs.Math.Seq.{drop-append-add}
use borrow.Rule.Slice.PartMut.{put_mid}
use Rattle.text.specs.WrittenInner.{written, Wrote}

pub written-nil : (d : List ℕ) (at : ℕ) → written d at [] ≡ d
unfolding written
written-nil d at = simp (add-zero, append-nil, take-append-drop)

-- a write of the whole list
pub written-whole : (d bs : List ℕ) → length bs ≡ length d → written d 0 bs ≡ bs
unfolding written
written-whole d bs e = ap (λ (l : List ℕ). bs ++ l) (drop_of_length-le d {i = 0 + length bs} (omega arith)) ∙ append-nil bs

-- a part of the list, replaced
pub written-copied : (d bs ys : List ℕ) (at n : ℕ) → n ≡ length bs → ys ≡ bs → put_mid at n d ys ≡ written d at bs
unfolding written
written-copied d bs ys at n e f =
    rw (e, f) (ap (λ (l : List ℕ). take at d ++ (bs ++ l)) (drop-drop (length bs) at d) ∙ sym (append_assoc (take at d) bs (drop (at + length bs) d)))

length-head : (d : List ℕ) (at : ℕ) (bs : List ℕ) → at ≤ length d → length (take at d ++ bs) ≡ at + length bs
length-head d at bs h = length-append (take at d) bs ∙ ap (λ (k : ℕ). k + length bs) (length-take-le at d h)

pub length-written : (d : List ℕ) (at : ℕ) (bs : List ℕ) → at + length bs ≤ length d → length (written d at bs) ≡ length d
unfolding written
length-written d at bs h =
    length-append (take at d ++ bs) (drop (at + length bs) d)
    ∙ simp (length-head d at bs (omega arith), length-drop) (omega arith)

-- two writes, one behind the other, are one
pub written_both : (d : List ℕ) (at : ℕ) (a b : List ℕ) → at + length a + length b ≤ length d
    → written (written d at a) (at + length a) b ≡ written d at (a ++ b)
unfolding written
written_both d at a b h =
    let p = take at d ++ a in
    let lp : length p ≡ at + length a = length-head d at a (omega arith) in
    let t : take (at + length a) (p ++ drop (at + length a) d) ≡ p = take_at p (drop (at + length a) d) (at + length a) lp in
    let u : drop (at + length a + length b) (p ++ drop (at + length a) d) ≡ drop (at + length (a ++ b)) d =
    ap (λ (k : ℕ). drop (k + length b) (p ++ drop (at + length a) d)) (sym lp)
    ∙ drop-append-add p (drop (at + length a) d) (length b)
    ∙ drop-drop (length b) (at + length a) d
    ∙ ap (λ (k : ℕ). drop k d) (add_assoc at (length a) (length b) ∙ ap (λ (k : ℕ). at + k) (sym (length-append a b))) in
    rw (t, u) (ap (λ (l : List ℕ). l ++ drop (at + length (a ++ b)) d) (append_assoc (take at d) a b))

-- an element before what is written
pub written-cons : (d : List ℕ) (at : ℕ) (x : ℕ) (bs : List ℕ) → suc at + length bs ≤ length d
    → set (written d (suc at) bs) at x ≡ written d at (x ∷ bs)
unfolding written
written-cons d at x bs h =
    let q = take at d in
    let r = drop (suc at + length bs) d in
    let y = get_or d at 0 in
    ap (λ (l : List ℕ). set (l ++ bs ++ r) at x) (take-suc d at 0 (omega arith))
    ∙ ap (λ (l : List ℕ). set (l ++ r) at x) (append_assoc q (y ∷ []) bs)
    ∙ ap (λ (l : List ℕ). set l at x) (append_assoc q (y ∷ bs) r)
    ∙ set_at q y (bs ++ r) x at (length-take-le at d (omega arith))
    ∙ sym (append_assoc q (x ∷ bs) r)
    ∙ ap (λ (k : ℕ). q ++ (x ∷ bs) ++ drop k d) (suc-add at (length bs) ∙ sym (add-suc at (length bs)))

-- an element behind what is written
pub written-snoc : (d : List ℕ) (at : ℕ) (bs : List ℕ) (x : ℕ) → at + length bs < length d
    → set (written d at bs) (at + length bs) x ≡ written d at (bs ++ (x ∷ []))
unfolding written
written-snoc d at bs x h =
    let p = take at d ++ bs in
    let n = at + length bs in
    let e : suc n ≡ at + length (bs ++ (x ∷ [])) = simp length-append (omega arith) in
    ap (λ (l : List ℕ). set (p ++ l) n x) (drop-cons d n 0 h)
    ∙ set_at p (get_or d n 0) (drop (suc n) d) x n (length-head d at bs (omega arith))
    ∙ sym (append_assoc p (x ∷ []) (drop (suc n) d))
    ∙ ap (λ (l : List ℕ). l ++ drop (suc n) d) (append_assoc (take at d) bs (x ∷ []))
    ∙ ap (λ (k : ℕ). take at d ++ (bs ++ (x ∷ [])) ++ drop k d) e

-- the same by place: the next byte of a list that is written byte by byte
pub written-step : (d t : List ℕ) (at i : ℕ) → i < length t → at + length t ≤ length d
    → set (written d at (take i t)) (at + i) (get_or t i 0) ≡ written d at (take (i + 1) t)
written-step d t at i h k =
    let l : length (take i t) ≡ i = length-take-le i t (omega arith) in
    ap (λ (j : ℕ). set (written d at (take i t)) (at + j) (get_or t i 0)) (sym l)
    ∙ written-snoc d at (take i t) (get_or t i 0) (omega arith)
    ∙ ap (written d at) (sym (take-suc t i 0 h) ∙ ap (λ (j : ℕ). take j t) (sym (add-one i)))

-- a write in the part from k on is a write in the list
pub written-part : (d : List ℕ) (k at : ℕ) (bs : List ℕ) → take k d ++ written (drop k d) at bs ≡ written d (k + at) bs
unfolding written
written-part d k at bs =
    let e : k + (at + length bs) ≡ k + at + length bs = sym (add_assoc k at (length bs)) in
    ap (λ (l : List ℕ). take k d ++ (take at (drop k d) ++ bs ++ l)) (drop-drop (at + length bs) k d ∙ ap (λ (n : ℕ). drop n d) e)
    ∙ sym (append_assoc (take k d) (take at (drop k d) ++ bs) (drop (k + at + length bs) d))
    ∙ ap (λ (l : List ℕ). l ++ drop (k + at + length bs) d) (sym (append_assoc (take k d) (take at (drop k d)) bs) ∙ ap (λ (l : List ℕ). l ++ bs) (sym (take-add k at d)))

pub wrote-length : {d : List ℕ} {at : ℕ} {bs out : List ℕ} {p : ℕ} → Wrote d at bs out p → length out ≡ length d
wrote-length {d} {at} {bs} w = ap length w.list ∙ length-written d at bs w.room

pub and_then : {d : List ℕ} {at : ℕ} {a b out out' : List ℕ} {p p' : ℕ} → Wrote d at a out p → Wrote out p b out' p' → Wrote d at (a ++ b) out' p'
and_then {d} {at} {a} {b} {out} {out'} {p} {p'} v w =
    let k = wrote-length v in
    let n = v.behind in
    let m = w.behind in
    let r = w.room in
    let l = length-append a b in
    record {
      room = omega arith;
      behind = omega arith;
      list = w.list ∙ ap (λ (o : List ℕ). written o p b) v.list ∙ ap (λ (k : ℕ). written (written d at a) k b) n ∙ written_both d at a b (omega arith);
    }

pub wrote_none : (d : List ℕ) (at : ℕ) → at ≤ length d → Wrote d at [] d at
wrote_none d at h = record { room = omega arith; behind = omega arith; list = sym (written-nil d at) }

-- a write in the part from k on
pub wrote-part : {d : List ℕ} (k : ℕ) {at : ℕ} {bs out : List ℕ} {p : ℕ} → k ≤ length d → Wrote (drop k d) at bs out p → Wrote d (k + at) bs (take k d ++ out) (k + p)
wrote-part {d} k {at} {bs} {out} {p} h w =
    let l = length-drop k d in
    let n = w.behind in
    let r = w.room in
    record {
      room = omega arith;
      behind = omega arith;
      list = ap (λ (o : List ℕ). take k d ++ o) w.list ∙ written-part d k at bs;
    }

-- the same, as the check cites it
pub ruleset copies = (written-copied)

pub ruleset bytes_written = (written-nil, written-step, length-written)

pub ruleset writes = (written_both, length-written)
