-- One of several words, as its number in the list.
use Rattle.std.specs.Prelude.{◌≡◌, List, [], ◌∷◌, ◌++◌, ℕ, zero, suc, ◌<◌, length}
use Rattle.std.proofs.Common.{arith}
use Rattle.formats.specs.Format.{Res, got, bad, Sound, Format, bind}
use Rattle.formats.specs.Combine.{strip, strip-sound, strip-complete}

-- the word of that number
unfoldable pub word_at : List (List ℕ) → ℕ → List ℕ
word_at [] n = []
word_at (w ∷ ws) zero = w
word_at (w ∷ ws) (suc n) = word_at ws n

-- the first reading, or the second with the next number
abbrev pub or_next : Res (Unit {0}) → Res ℕ → Res ℕ
or_next (got u r) y = got 0 r
or_next bad y = bind y (λ n r. got (suc n) r)

unfoldable pub words_parse : List (List ℕ) → List ℕ → Res ℕ
words_parse [] s = bad
words_parse (w ∷ ws) s = or_next (strip w s) (words_parse ws s)

-- no word begins a later one
unfoldable pub Apart : List (List ℕ) → Type 0
Apart [] = Unit {0}
Apart (w ∷ ws) = ((n : ℕ) (rest : List ℕ) → n < length ws → strip w (word_at ws n ++ rest) ≡ bad) × Apart ws

pub words-sound : (ws : List (List ℕ)) (s : List ℕ) → Sound (λ n. n < length ws) (word_at ws) s (words_parse ws s)
unfolding words_parse word_at
words-sound [] s = tt
words-sound (w ∷ ws) s = go (strip w s) (strip-sound w s) (words_parse ws s) (words-sound ws s)
  where
    go : (x : Res (Unit {0})) → Sound (λ u. Unit {0}) (λ u. w) s x → (y : Res ℕ) → Sound (λ n. n < length ws) (word_at ws) s y
        → Sound (λ n. n < length (w ∷ ws)) (word_at (w ∷ ws)) s (or_next x y)
    go (got u r) h y k = (h.0, omega arith)
    go bad h (got n r) k = (k.0, omega (arith, k.1))
    go bad h bad k = tt

pub words-complete : (ws : List (List ℕ)) → Apart ws → (n : ℕ) (rest : List ℕ) → n < length ws → words_parse ws (word_at ws n ++ rest) ≡ got n rest
unfolding words_parse word_at Apart
words-complete [] h n rest ok = absurd (omega arith)
words-complete (w ∷ ws) h zero rest ok = simp (strip-complete w rest)
words-complete (w ∷ ws) h (suc n) rest ok = simp (h.0 n rest (omega arith), words-complete ws h.1 n rest (omega arith))

abbrev pub words : (ws : List (List ℕ)) → Apart ws → Format ℕ
words ws apart = record { Ok = λ n. n < length ws; render = word_at ws; parse = words_parse ws; sound = words-sound ws; complete = words-complete ws apart }

-- two words of which the first doesn't begin the second
pub apart-two : (v w : List ℕ) → ((rest : List ℕ) → strip v (w ++ rest) ≡ bad) → Apart (v ∷ w ∷ [])
unfolding Apart word_at
apart-two v w h = (one, ((λ n rest k. absurd (omega arith)), tt))
  where
    one : (n : ℕ) (rest : List ℕ) → n < 1 → strip v (word_at (w ∷ []) n ++ rest) ≡ bad
    one zero rest k = h rest
    one (suc n) rest k = absurd (omega arith)
