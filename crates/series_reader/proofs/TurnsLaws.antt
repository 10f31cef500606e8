-- A loop over items, turn by turn: the first, one more, an item that isn't there, and the end.
use Rattle.std.specs.Prelude.{◌≡◌, refl, ℕ, suc, ◌+◌, ◌-◌, ◌≤◌, ◌<◌, Some, None}
use Rattle.std.proofs.Common.{sym, ap, ◌∙◌, append_assoc, append-nil, arith}
use mathlib.Core.List.{List, [], ◌∷◌, ◌++◌, flat_map}
use Rattle.formats.specs.Format.{Res, got, bad, bind}
use Rattle.formats.specs.Combine.{map_parse}
use Rattle.formats.specs.Items.{repeat_parse, onto, onto-more, onto-none}
use Rattle.cursor.specs.declared.Cursor.{Cursor}
use Rattle.cursor.proofs.ReadsLaws.{left}
use Rattle.message.specs.Rows.{Row}
use Rattle.series_reader.specs.declared.rows.Rows.{Rows}
use Rattle.series_reader.specs.RowsInner.{held, with_rows, Filled}
use Rattle.series_reader.specs.TurnsInner.{behind, Turned}
use Rattle.series_reader.proofs.RowsLaws.{lent-self, lent-both, with-both}
use Rattle.series_reader.proofs.FillingLaws.{filled-got, filled-none, got-filled, none-filled}

behind-more : {A S : Type 0} (next : S → A → S) (st : S) (l : List A) (a : A) → behind next st (l ++ (a ∷ [])) ≡ next (behind next st l) a
unfolding behind
behind-more next st [] a = refl
behind-more next st (b ∷ l) a = behind-more next (next st b) l a

flat-more : {A B : Type 0} (f : A → List B) (l : List A) (a : A) → flat_map f (l ++ (a ∷ [])) ≡ flat_map f l ++ f a
unfolding flat_map
flat-more f [] a = append-nil (f a)
flat-more f (b ∷ l) a = ap (λ k. f b ++ k) (flat-more f l a) ∙ sym (append_assoc (f b) (flat_map f l) (f a))

module _ {A S : Type 0} (f : S → List ℕ → Res A) (next : S → A → S) (n : ℕ) (st : S) (s : List ℕ) where
  repeat-end : n ≡ 0 → repeat_parse f next n st s ≡ got [] s
  unfolding repeat_parse
  repeat-end e = rw e

  repeat-step : (m : ℕ) → n ≡ suc m → (x : Res A) → f st s ≡ x → repeat_parse f next n st s ≡ bind x (λ a r. bind (repeat_parse f next m (next st a) r) (λ xs q. got (a ∷ xs) q))
  unfolding repeat_parse
  repeat-step m e x g = rw (e, g)

module _ {A S : Type 0} {f : S → List ℕ → Res A} {next : S → A → S} {rows_of : A → List Row} where
  -- none was read
  pub turned-first : (n : ℕ) (st : S) (c : Cursor) (rows : Rows) → Turned f next rows_of n 0 st st c c rows rows
  unfolding behind with_rows flat_map
  turned-first n st c rows =
      let e : n - 0 ≡ n = omega arith in
      record {
        done = [];
        text = refl;
        rest = onto-none (repeat_parse f next n st (left c)) ∙ ap (λ (m : ℕ). onto [] (repeat_parse f next m st (left c))) (sym e);
        state = refl;
        rows = refl;
        lent = lent-self rows;
      }

  module _ {n i : ℕ} {first st : S} {c d : Cursor} {before mid : Rows} (t : Turned f next rows_of n i first st c d before mid) where
    -- one more
    pub turned-more : {B : Type 0} {kept : A → B} {e : Cursor} {after : Rows} {k : B} (to : S) → i < n → ((a : A) → kept a ≡ k → next st a ≡ to)
        → Filled (f st) kept rows_of d e mid after (Some k) → Turned f next rows_of n (i + 1) first to c e before after
    turned-more {kept = kept} {e} {after} {k} to h goes fill =
        let g = filled-got fill in
        let a = g.value in
        let m : n - i ≡ suc (n - (i + 1)) = omega arith in
        record {
          done = t.done ++ (a ∷ []);
          text = g.read.text ∙ t.text;
          rest = t.rest ∙ ap (onto t.done) (repeat-step f next (n - i) st (left d) (n - (i + 1)) m (got a (left e)) g.read.found)
              ∙ onto-more t.done a (repeat_parse f next (n - (i + 1)) (next st a) (left e))
              ∙ ap (λ (u : S). onto (t.done ++ (a ∷ [])) (repeat_parse f next (n - (i + 1)) u (left e))) (goes a g.is);
          state = behind-more next first t.done a ∙ ap (λ (u : S). next u a) t.state ∙ goes a g.is;
          rows = g.rows ∙ ap (with_rows (rows_of a)) t.rows ∙ sym (with-both (flat_map rows_of t.done) (rows_of a) (held before)) ∙ ap (λ (l : List Row). with_rows l (held before)) (sym (flat-more rows_of t.done a));
          lent = lent-both t.lent g.lent;
        }

    -- an item isn't there
    pub turned-none : {B C : Type 0} {kept : A → B} {whole : List A → C} {e : Cursor} {after : Rows} → i < n → Filled (f st) kept rows_of d e mid after None
        → Filled (map_parse (λ l. l) (repeat_parse f next n first)) whole (flat_map rows_of) c e before after None
    unfolding map_parse
    turned-none {kept = kept} {e = e} {after = after} h fill =
        let r = filled-none fill in
        let m : n - i ≡ suc (n - (i + 1)) = omega arith in
        let no : repeat_parse f next n first (left c) ≡ bad = t.rest ∙ ap (onto t.done) (repeat-step f next (n - i) st (left d) (n - (i + 1)) m bad r.found) in
        none-filled (record { text = r.text ∙ t.text; found = ap (λ x. bind x (λ l q. got l q)) no }) (lent-both t.lent fill.lent)

    -- all were read
    pub turned-all : {C : Type 0} {whole : List A → C} {k : C} → n ≤ i → ((l : List A) → behind next first l ≡ st → whole l ≡ k)
        → Filled (map_parse (λ l. l) (repeat_parse f next n first)) whole (flat_map rows_of) c d before mid (Some k)
    unfolding map_parse
    turned-all h is =
        let m : n - i ≡ 0 = omega arith in
        let yes : repeat_parse f next n first (left c) ≡ got t.done (left d) =
        t.rest ∙ ap (onto t.done) (repeat-end f next (n - i) st (left d) m) ∙ ap (λ (l : List A). got l (left d)) (append-nil t.done) in
        got-filled (record { text = t.text; found = ap (λ x. bind x (λ l q. got l q)) yes }) (is t.done t.state) t.rows t.lent
