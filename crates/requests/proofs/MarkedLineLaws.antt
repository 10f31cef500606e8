-- Laws about a reading of a line that keeps marks: its parts, each read from the mark behind the one before it, are the line, and its words stand where the code says.
-- They stand for whoever reads so; the reader itself goes by LineLaws, from which the places follow.
use Rattle.std.specs.Prelude.{◌≡◌, true, false, List, ℕ, ◌-◌, drop, Option, Some, None}
use Rattle.std.proofs.Common.{sym, ap}
use Rattle.std.proofs.Math.ListN.{take}
use Rattle.text.specs.Ascii.{bytes}
use Rattle.formats.specs.Combine.{strip, only_parse}
use Rattle.formats.specs.Exactly.{exactly_parse, fixed_digits}
use Rattle.formats.specs.Name.{name_byte, span, name_parse}
use Rattle.formats.proofs.RunLaws.{run-seq, run-post, run_only, run-fail}
use Rattle.formats.proofs.MarksLaws.{Parsed, left}
use Rattle.message.specs.Valid.{is_moment}
use Rattle.kinds.specs.Numbers.{is_kind}
use Rattle.requests.specs.Line.{line}
use Rattle.requests.specs.LineInner.{request_by, request_of}
use Rattle.requests.proofs.LineLaws.{Ended, line-ended as ended, line-there as there}

-- a line was read from the first byte to the mark r, of this kind and receiver
pub record Lined (s : List ℕ) (r : Option ℕ) (kind receiver : ℕ) : Type 0 where
  pub id : List ℕ
  pub moment : List ℕ
  pub parsed : Parsed line.parse s (Some 0) r (kind, (receiver, (id, moment)))

-- ---- a kind

module _ (s : List ℕ) (m r : Option ℕ) (n : ℕ) (p : Parsed (fixed_digits 2).parse s m r n) where
  pub kind-is : is_kind n ≡ true → Parsed (only_parse is_kind (fixed_digits 2).parse) s m r n
  kind-is e = record { run = run_only is_kind p.run e; within = p.within }

  pub kind-none : is_kind n ≡ false → Parsed (only_parse is_kind (fixed_digits 2).parse) s m None n
  kind-none e = record { run = run-fail is_kind p.run e; within = tt }

-- ---- the line

module _ (s : List ℕ) {a b c d e f r : Option ℕ} {kind receiver : ℕ} where
  pub lined : Parsed (only_parse is_kind (fixed_digits 2).parse) s (Some 0) a kind → Parsed (strip (bytes " ")) s a b tt
      → Parsed (fixed_digits 10).parse s b c receiver → Parsed (strip (bytes " ")) s c d tt
      → Parsed (name_parse name_byte 1 36 32) s d e (span name_byte (left s d)) → Parsed (exactly_parse 29 is_moment) s e f (take 29 (left s e))
      → Parsed (strip (bytes "\n")) s f r tt → Lined s r kind receiver
  unfolding line
  lined p₀ p₁ p₂ p₃ p₄ p₅ p₆ =
      record {
        id = span name_byte (left s d);
        moment = take 29 (left s e);
        parsed = record {
          run = run-seq _ (run-post _ p₀.run p₁.run) (run-seq _ (run-post _ p₂.run p₃.run) (run-seq _ p₄.run (run-post _ p₅.run p₆.run)));
          within = p₆.within;
        };
      }

module _ (s : List ℕ) (q kind receiver : ℕ) (l : Lined s (Some q) kind receiver) where
  pub line-ended : Ended s q (kind, (receiver, (l.id, l.moment)))
  line-ended = ended s q (kind, (receiver, (l.id, l.moment))) l.parsed.within l.parsed.run.run

  pub line-there : Some (record { kind = kind; receiver = receiver; id = 14; id_length = q - 45; moment = q - 30; book = q }) ≡ request_of s
  line-there = there s (kind, (receiver, (l.id, l.moment))) (drop q s) q l.parsed.run.run line-ended.behind

pub no_line : (s : List ℕ) (kind receiver : ℕ) → Lined s None kind receiver → None ≡ request_of s
unfolding request_of
no_line s kind receiver l = sym (ap request_by l.parsed.run.run)
