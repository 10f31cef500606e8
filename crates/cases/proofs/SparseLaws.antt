-- A piece ends behind its start; what is put into the part from an offset on, or into the first bytes, stands in the whole.
use Rattle.std.specs.Prelude.{◌≡◌, ◌==◌, Option, Some, None, List, [], ◌++◌, ℕ, ◌+◌, ◌-◌, ◌≤◌, ◌<◌, length, take, drop, replicate}
use Rattle.std.proofs.Common.{ap, ◌∙◌, subst, append-nil, arith, length-append, length-drop, drop_of_length-le, take_all, take_at, drop_at, length-take-le}
use Rattle.std.proofs.lemmas.List.{length-replicate}
use Rattle.std.specs.List.{position_or_len}
use Rattle.cases.specs.WordsInner.{rest_of}
use Rattle.cases.specs.SparseInner.{UnhexedBy, PutAtBy, Piece, behind_piece, PiecesBy, FilledBy, SparseBy}

rest_shorter : (line : List ℕ) → length (rest_of line) ≤ length line - 1
rest_shorter line = omega (arith, length-drop (position_or_len (λ x. x == 32) line + 1) line)

pub piece-behind : {line before after : List ℕ} → Piece line before after → 0 < length line → length (behind_piece line) < length line
piece-behind {line} p h = omega (arith, rest_shorter line, rest_shorter (rest_of line))

pub piece-within : {line before after : List ℕ} → Piece line before after → length (behind_piece line) ≤ length line
piece-within {line} p = omega (arith, rest_shorter line, rest_shorter (rest_of line))

pub put_back : (word d ys : List ℕ) (offset : ℕ) (r : Option ℕ) → offset ≤ length d
    → length ys ≡ length (take (length d - offset) (drop offset d))
    → UnhexedBy word (take (length d - offset) (drop offset d)) ys r
    → PutAtBy word offset d (take offset d ++ (ys ++ drop (length d - offset) (drop offset d))) r
put_back word d ys offset None h l u = tt
put_back word d ys offset (Some n) h l u =
    let m = length-drop offset d in
    let k = length d - offset in
    let whole : take k (drop offset d) ≡ drop offset d = take_all k (drop offset d) (omega arith) in
    let none : drop k (drop offset d) ≡ [] = drop_of_length-le (drop offset d) {i = k} (omega arith) in
    let t = length-take-le offset d h in
    let back : drop offset (take offset d ++ (ys ++ drop k (drop offset d))) ≡ ys =
    drop_at (take offset d) (ys ++ drop k (drop offset d)) offset t ∙ ap (λ (l : List ℕ). ys ++ l) none ∙ append-nil ys in
    record {
      room = h;
      kept = take_at (take offset d) (ys ++ drop k (drop offset d)) offset t;
      put = rw (back, ← whole) u;
    }

pub filled-by : (line d z ys : List ℕ) (n : ℕ) (r : Option Unit) → n ≤ length d → z ≡ replicate n 0 ++ drop n d
    → length ys ≡ length (take n z) → PiecesBy line (take n z) ys r → FilledBy line n d (ys ++ drop n z) r
filled-by line d z ys n None h e l p = tt
filled-by line d z ys n (Some u) h e l p =
    let s : length {A = ℕ} (replicate n 0) ≡ n = length-replicate n 0 in
    let m : length z ≡ length d = ap length e ∙ length-append (replicate n 0) (drop n d) ∙ simp (length-replicate, length-drop) (omega arith) in
    let zeros : take n z ≡ replicate n 0 = ap (take n) e ∙ take_at (replicate n 0) (drop n d) n s in
    let rest : drop n z ≡ drop n d = ap (drop n) e ∙ drop_at (replicate n 0) (drop n d) n s in
    let k : length ys ≡ n = l ∙ ap length zeros ∙ s in
    record {
      room = simp length-append (omega arith);
      pieces = rw (take_at ys (drop n z) n k, ← zeros) p;
      rest = drop_at ys (drop n z) n k ∙ rest;
    }

-- what was loaded stands in the buffer
pub loaded-within : (line before after : List ℕ) (r : Option ℕ) (n : ℕ) → SparseBy line before after r → r ≡ Some n → n ≤ length after
loaded-within line before after r n s e = (subst (λ (o : Option ℕ). SparseBy line before after o) e s).room

-- what a hex word says stands in it too
pub hex-within : (word before after : List ℕ) (r : Option ℕ) (n : ℕ) → UnhexedBy word before after r → r ≡ Some n → n ≤ length after
hex-within word before after r n u e = (subst (λ (o : Option ℕ). UnhexedBy word before after o) e u).room
