-- Laws about a reading at a place that keeps a mark: what tests show of a tag, one of two words, n bytes that pass a test, a number of n digits, a name.
-- They stand for whoever reads so; the readers themselves go by what laws and contracts of `formats` say of a place and an answer, from which most of these follow.
use Rattle.std.specs.Prelude.{◌≡◌, refl, Bool, true, false, List, [], ◌∷◌, ℕ, ◌+◌, ◌≤◌, ◌<◌, take, drop, Option, Some, None}
use Rattle.std.proofs.Common.{sym, drop-drop, le-leb}
use Rattle.std.proofs.Math.ListN.{length}
use Rattle.text.specs.Tag.{begins}
use Rattle.text.specs.Decimal.{fixed_at}
use Rattle.formats.specs.FormatLaws.{got-bad}
use Rattle.formats.specs.Format.{got}
use Rattle.formats.specs.Combine.{strip}
use Rattle.formats.specs.Words.{words_parse}
use Rattle.formats.specs.Exactly.{exactly_parse, fixed_digits}
use Rattle.formats.specs.Name.{span, name_parse}
use Rattle.formats.proofs.RunLaws.{onward}
use Rattle.formats.proofs.MarksLaws.{Parsed, parsed, not_there}
use Rattle.formats.proofs.ExactlyLaws.{exactly-there as bytes-there, exactly-none as no-bytes, exactly-short as too-few}
use Rattle.formats.proofs.PlaceLaws.{tag-behind, tag-room, tag-none as no-tag, fixed-there as digits-there, fixed-none as no-digits}

-- ---- a tag

module _ (t s : List ℕ) (p : ℕ) where
  pub tag-there : p ≤ length s → begins t (drop p s) ≡ true → Parsed (strip t) s (Some p) (Some (p + length t)) tt
  tag-there h e = parsed (strip t) s p tt (p + length t) (tag-behind t s p e) (tag-room t s p h e)

  pub tag-none : begins t (drop p s) ≡ false → Parsed (strip t) s (Some p) None tt
  tag-none e = not_there (strip t) s p tt (no-tag t s p e)

-- ---- one of two words

module _ (v w s : List ℕ) where
  pub word_first : (m : Option ℕ) (q : ℕ) → Parsed (strip v) s m (Some q) tt → Parsed (words_parse (v ∷ w ∷ [])) s m (Some q) 0
  unfolding words_parse
  word_first None q h = absurd (got-bad (sym h.run.run))
  word_first (Some p) q h = parsed (words_parse (v ∷ w ∷ [])) s p 0 q (rw h.run.run) h.within

  pub word-second : (m r : Option ℕ) → Parsed (strip v) s m None tt → Parsed (strip w) s m r tt → Parsed (words_parse (v ∷ w ∷ [])) s m r 1
  unfolding words_parse
  word-second None None h k = record { run = record { run = refl }; within = tt }
  word-second None (Some q) h k = absurd (got-bad (sym k.run.run))
  word-second (Some p) None h k = not_there (words_parse (v ∷ w ∷ [])) s p 1 (rw (h.run.run, k.run.run))
  word-second (Some p) (Some q) h k = parsed (words_parse (v ∷ w ∷ [])) s p 1 q (rw (h.run.run, k.run.run)) k.within

-- ---- n bytes that pass a test

module _ (n : ℕ) (test : List ℕ → Bool) (s : List ℕ) (p : ℕ) where
  pub exactly-there : p + n ≤ length s → test (take n (drop p s)) ≡ true → Parsed (exactly_parse n test) s (Some p) (Some (p + n)) (take n (drop p s))
  exactly-there h e = let f = bytes-there n test s p h e in parsed (exactly_parse n test) s p (take n (drop p s)) (p + n) f.0 f.1

  pub exactly-none : test (take n (drop p s)) ≡ false → Parsed (exactly_parse n test) s (Some p) None (take n (drop p s))
  exactly-none e = not_there (exactly_parse n test) s p (take n (drop p s)) (no-bytes n test s p e)

  pub exactly-short : p ≤ length s → length s < p + n → Parsed (exactly_parse n test) s (Some p) None (take n (drop p s))
  exactly-short h k = not_there (exactly_parse n test) s p (take n (drop p s)) (too-few n test s p h k)

-- ---- a number of n digits

module _ (s : List ℕ) (p n : ℕ) (h : p ≤ length s) where
  pub fixed-there : (v : ℕ) → Some v ≡ fixed_at s p n → Parsed (fixed_digits n).parse s (Some p) (Some (p + n)) v
  fixed-there v e = let f = digits-there s p n h v e in parsed (fixed_digits n).parse s p v (p + n) f.0 f.1

  pub fixed-none : None ≡ fixed_at s p n → Parsed (fixed_digits n).parse s (Some p) None 0
  fixed-none e = not_there (fixed_digits n).parse s p 0 (no-digits s p n h e)

-- ---- a name

pub name-there : (test : ℕ → Bool) (s : List ℕ) (p least most stop : ℕ) (r : Option ℕ) → least ≤ length (span test (drop p s)) → length (span test (drop p s)) ≤ most
    → Parsed (strip (stop ∷ [])) s (Some (p + length (span test (drop p s)))) r tt → Parsed (name_parse test least most stop) s (Some p) r (span test (drop p s))
unfolding name_parse
name-there test s p least most stop r h k t =
    let l = span test (drop p s) in
    record {
      run = record { run = rw (le-leb least (length l) h, le-leb (length l) most k, drop-drop (length l) p s) (onward (λ u q. got l q) t.run) };
      within = t.within;
    }
