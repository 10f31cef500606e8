-- A reading whose rows are stored, and the same reading without them.
use Rattle.std.specs.Prelude.{◌≡◌, refl, List, ℕ, Option, Some, None}
use Rattle.std.proofs.Common.{sym, ap, ◌∙◌}
use Rattle.formats.specs.Format.{Res, got, bad, bind}
use Rattle.formats.specs.FormatLaws.{got-bad}
use Rattle.formats.specs.Combine.{map_parse}
use Rattle.cursor.specs.declared.Cursor.{Cursor}
use Rattle.cursor.specs.ReadsInner.{Reads}
use Rattle.cursor.proofs.ReadsLaws.{left, reads-same}
use Rattle.message.specs.Rows.{Row}
use Rattle.series_reader.specs.declared.rows.Rows.{Rows}
use Rattle.series_reader.specs.RowsInner.{held, with_rows, Lent, Filled}

-- what was read, of which k is kept, and whose rows were stored
pub record Got {A B : Type 0} (f : List ℕ → Res A) (kept : A → B) (rows_of : A → List Row) (c d : Cursor) (before after : Rows) (k : B) : Type 0 where
  pub value : A
  pub read : Reads f c d (Some value)
  pub is : kept value ≡ k
  pub rows : held after ≡ with_rows (rows_of value) (held before)
  pub lent : Lent before after

module _ {A B : Type 0} {f : List ℕ → Res A} {kept : A → B} {rows_of : A → List Row} {c d : Cursor} {before after : Rows} where
  pub filled-got : {k : B} → Filled f kept rows_of c d before after (Some k) → Got f kept rows_of c d before after k
  filled-got {k} h = go (f (left c)) refl h.reads.found
    where
      go : (x : Res A) → f (left c) ≡ x → bind {B = B × (List ℕ × ℕ)} x (λ a q. got (kept a, with_rows (rows_of a) (held before)) q) ≡ got (k, held after) (left d) → Got f kept rows_of c d before after k
      go bad e g = absurd (got-bad (sym g))
      go (got a q) e g =
          let end : q ≡ left d = cc in
          let pair : ◌≡◌ {A = B × (List ℕ × ℕ)} (kept a, with_rows (rows_of a) (held before)) (k, held after) = cc in
          record {
            value = a;
            read = record { text = h.reads.text; found = e ∙ ap (got a) end };
            is = ap (λ (p : B × (List ℕ × ℕ)). p.0) pair;
            rows = sym (ap (λ (p : B × (List ℕ × ℕ)). p.1) pair);
            lent = h.lent;
          }

  pub filled-none : Filled f kept rows_of c d before after None → Reads f c d None
  filled-none h = go (f (left c)) refl h.reads.found
    where
      go : (x : Res A) → f (left c) ≡ x → bind {B = B × (List ℕ × ℕ)} x (λ a q. got (kept a, with_rows (rows_of a) (held before)) q) ≡ bad → Reads f c d None
      go bad e g = record { text = h.reads.text; found = e }
      go (got a q) e g = absurd (got-bad g)

  pub got-filled : {a : A} {k : B} → Reads f c d (Some a) → kept a ≡ k → held after ≡ with_rows (rows_of a) (held before) → Lent before after → Filled f kept rows_of c d before after (Some k)
  got-filled {a} {k} r e g l =
      record {
        reads = record {
          text = r.text;
          found = ap (λ (x : Res A). bind {B = B × (List ℕ × ℕ)} x (λ a q. got (kept a, with_rows (rows_of a) (held before)) q)) r.found ∙ (λ i. got (e i, sym g i) (left d));
        };
        lent = l;
      }

  pub none-filled : Reads f c d None → Lent before after → Filled f kept rows_of c d before after None
  none-filled r l = record { reads = record { text = r.text; found = ap (λ (x : Res A). bind {B = B × (List ℕ × ℕ)} x (λ a q. got (kept a, with_rows (rows_of a) (held before)) q)) r.found }; lent = l }

  -- where it isn't there, the cursor that was lent may as well be as it was
  pub filled-stays : Filled f kept rows_of c d before after None → Filled f kept rows_of c c before after None
  filled-stays h = record { reads = record { text = refl; found = h.reads.found }; lent = h.lent }

-- the same reading by another name
pub filled-same : {A B : Type 0} {f g : List ℕ → Res A} {kept : A → B} {rows_of : A → List Row} {c d : Cursor} {before after : Rows} {r : Option B} → ((s : List ℕ) → f s ≡ g s)
    → Filled f kept rows_of c d before after r → Filled g kept rows_of c d before after r
filled-same {A} {B} {f} {g} {kept} {rows_of} {c} {d} {before} {after} {r} e h =
    record { reads = reads-same (λ s. ap (λ (x : Res A). bind {B = B × (List ℕ × ℕ)} x (λ a q. got (kept a, with_rows (rows_of a) (held before)) q)) (e s)) h.reads; lent = h.lent }

pub as-it-is : {A : Type 0} (f : List ℕ → Res A) (s : List ℕ) → f s ≡ map_parse (λ a. a) f s
unfolding map_parse
as-it-is {A} f s = go (f s)
  where
    go : (x : Res A) → x ≡ bind x (λ a q. got a q)
    go bad = refl
    go (got a q) = refl
