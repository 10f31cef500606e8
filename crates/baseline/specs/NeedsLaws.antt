-- What the judging of an engagement finds is what the definitions say.
use Rattle.std.specs.Prelude.{◌≡◌, Bool, cond, List, [], ◌∷◌, map, ℕ, ◌+◌, ltb, length, take}
use Rattle.std.proofs.Math.Path.{refl, sym, ap, ap₂}
use Rattle.std.proofs.Common.{◌∙◌, arith}
use Rattle.std.proofs.Math.Bool.{true, false, ◌&&◌}
use Rattle.std.proofs.Math.Option.{none, some}
use Rattle.wire.specs.Readings.{Reading}
use Rattle.book.specs.declared.Engagement.{Engagement}
use Rattle.book.specs.declared.Point.{Point}
use Rattle.book.specs.declared.Method.{Method}
use Rattle.book.specs.declared.Method.TheVariants.{LastQuarter, HighXOfY, Adjusted}
use Rattle.book.specs.Book.{Book}
use Rattle.volumes.specs.Quarters.{start, quarter_hours}
use Rattle.volumes.specs.Baseline.{point_of, complete, last_reading, own_reading, eligible_days, y_of, latest}
use Rattle.volumes.proofs.BaselineLaws.{complete-append}
use Rattle.volumes.proofs.DaysLaws.{few-latest}
use Rattle.volumes.specs.Settlement.{needed_by, needed, too_few, refusal_number}
use Rattle.baseline.specs.declared.shown.Shown.{Shown}
use Rattle.baseline.specs.TallyInner.{in_run}
use Rattle.baseline.specs.ShownInner.{Shows, before_in}
use Rattle.baseline.specs.ShownLaws.{own-run, before_at, start-at, own-window}
use Rattle.baseline.specs.NeedsInner.{needed_in, looks_back}

module _ {shown : Shown} {calendar readings : List ℕ} {book : Book} (s : Shows shown calendar readings book) where
  needed-by : (method : Method) → needed_by method book shown.e ≡ needed_in method readings (start shown.c shown.e) shown.e.notice
  unfolding needed_by needed_in last_reading
  needed-by LastQuarter = ap (λ (r : Reading). r ∷ []) (before_at s (start book.calendar shown.e) (shown.e.notice + 1) ∙ ap (λ (q : ℕ). before_in readings q (shown.e.notice + 1)) (start-at s))
  needed-by HighXOfY = refl
  needed-by Adjusted = own-window s

  pub needed-is : complete (needed book shown.e) ≡ (complete (in_run readings (start shown.c shown.e) shown.e.count) && complete (needed_in shown.point.method readings (start shown.c shown.e) shown.e.notice))
  unfolding needed
  needed-is =
      complete-append (map (own_reading book shown.e) (quarter_hours shown.e)) (needed_by (point_of book shown.e).method book shown.e)
      ∙ ap₂ ◌&&◌ (ap complete (own-run s)) (ap complete (needed-by (point_of book shown.e).method ∙ ap (λ (p : Point). needed_in p.method readings (start shown.c shown.e) shown.e.notice) s.owner))

  -- 8 before 9
  pub first-lack : (whole few : Bool) → whole ≡ complete (needed book shown.e) → few ≡ too_few shown.point.method shown.y (length (eligible_days book shown.e)) → cond whole (cond few (some 9) none) (some 8) ≡ refusal_number book shown.e
  unfolding refusal_number
  first-lack true few w f = rw (sym w, ap (λ (p : Point). p.method) s.owner, ← s.wants, sym f)
  first-lack false few w f = rw (sym w)

-- only methods 1 and 2 look at days
few-of : (m : Method) (t : Bool) → looks_back m ≡ t → (y n : ℕ) → too_few m y n ≡ (t && ltb n y)
unfolding looks_back too_few
few-of LastQuarter true h y n = let z : ◌≡◌ {A = ℕ} 0 1 = cc in absurd (omega arith)
few-of LastQuarter false h y n = refl
few-of HighXOfY true h y n = refl
few-of HighXOfY false h y n = let z : ◌≡◌ {A = ℕ} 0 1 = cc in absurd (omega arith)
few-of Adjusted true h y n = refl
few-of Adjusted false h y n = let z : ◌≡◌ {A = ℕ} 0 1 = cc in absurd (omega arith)

pub no-days : (m : Method) (y n : ℕ) → looks_back m ≡ false → false ≡ too_few m y n
no-days m y n h = sym (few-of m false h y n)

-- those found are the latest eligible ones, Y at most: fewer than Y of them are so where fewer are eligible
pub days-found : (m : Method) (book : Book) (e : Engagement) (y found : ℕ) → looks_back m ≡ true → y ≡ y_of book e → length (take y (eligible_days book e)) ≡ found
    → ltb found y ≡ too_few m y (length (eligible_days book e))
unfolding latest
days-found m book e y found h w f =
    ap (λ (n : ℕ). ltb n y) (sym f)
    ∙ ap (λ (n : ℕ). ltb (length (take n (eligible_days book e))) n) w
    ∙ sym (few-latest book e)
    ∙ ap (ltb (length (eligible_days book e))) (sym w)
    ∙ sym (few-of m true h y (length (eligible_days book e)))
