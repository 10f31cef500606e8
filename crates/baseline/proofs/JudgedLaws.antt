-- What the check applies by itself where a day, a run of readings or an engagement is judged.
use Rattle.std.specs.Prelude.{◌≡◌, true, false, None, List, ℕ, ◌&&◌, ◌+◌, ◌≤◌, length}
use Rattle.std.proofs.Common.{refl, sym, ◌∙◌, length-take-le}
use Rattle.std.proofs.lemmas.List.{length-replicate}
use Rattle.std.proofs.Math.Option.{none, some}
use Rattle.book.specs.Book.{Book}
use Rattle.volumes.specs.Quarters.{start, reference}
use Rattle.volumes.specs.Baseline.{complete, windowed, clear, eligible_days}
use Rattle.volumes.specs.Settlement.{needed, too_few, refusal_number}
use Rattle.baseline.specs.declared.shown.Shown.{Shown}
use Rattle.baseline.specs.declared.case.Case.{Case}
use Rattle.baseline.specs.CaseInner.{CaseOf}
use Rattle.baseline.specs.NeedsInner.{needed_in, looks_back}
use Rattle.baseline.specs.FilledInner.{Accepts}
use Rattle.baseline.specs.FilledLaws.{last-inside, method-0, levels-filled, flat-levels}
use Rattle.baseline.specs.ShownInner.{Fits, Refers, alike, window_in}
use Rattle.baseline.specs.TallyInner.{in_run}
use Rattle.baseline.specs.RunsInner.{standing}
use Rattle.baseline.specs.RunsLaws.{standing-run, standing-part, standing-part-2, standing-whole}
use Rattle.baseline.specs.RefersLaws.{refers-not, refers-part, eligible-window}
use Rattle.baseline.specs.NeedsLaws.{needed-is, first-lack, no-days}

module _ (case : Case) (book : Book) (s : CaseOf case book) where
  -- a day fails one of the tests
  module _ (d : ℕ) where
    pub refers-unlike : alike case.calendar.now case.shown d ≡ false → Refers book case.shown.e d None
    refers-unlike h = refers-not s d h

    pub refers-missing : alike case.calendar.now case.shown d ≡ true → complete (standing case.readings.now case.shown.c case.shown.e d) ≡ false → Refers book case.shown.e d None
    refers-missing h k = refers-part s d h k

    pub refers-off : alike case.calendar.now case.shown d ≡ true → complete (standing case.readings.now case.shown.c case.shown.e d) ≡ true
        → (windowed case.shown.point.method (window_in case.readings.now (reference case.shown.c case.shown.e d 0)) && clear case.shown.point.method case.shown.c (reference case.shown.c case.shown.e d 0)) ≡ false → Refers book case.shown.e d None
    refers-off a w e = eligible-window s d a w ∙ e

  pub needs-both : complete (needed book case.shown.e) ≡ (complete (in_run case.readings.now (start case.shown.c case.shown.e) case.shown.e.count) && complete (needed_in case.shown.point.method case.readings.now (start case.shown.c case.shown.e) case.shown.e.notice))
  needs-both = needed-is s

  -- a reading is missing; none is, and there are too few days; or neither
  pub lacks-reading : complete (needed book case.shown.e) ≡ false → refusal_number book case.shown.e ≡ some 8
  lacks-reading w = sym (first-lack s false (too_few case.shown.point.method case.shown.y (length (eligible_days book case.shown.e))) (sym w) refl)

  pub lacks-days : complete (needed book case.shown.e) ≡ true → too_few case.shown.point.method case.shown.y (length (eligible_days book case.shown.e)) ≡ true → refusal_number book case.shown.e ≡ some 9
  lacks-days w f = sym (first-lack s true true (sym w) (sym f))

  pub lacks-none : complete (needed book case.shown.e) ≡ true → too_few case.shown.point.method case.shown.y (length (eligible_days book case.shown.e)) ≡ false → refusal_number book case.shown.e ≡ none
  lacks-none w f = sym (first-lack s true false (sym w) (sym f))

pub y-most : {shown : Shown} {calendar readings : List ℕ} → Fits shown calendar readings → shown.y ≤ 20
y-most f = f.x_of_y.twenty

-- a method that looks back at no days has its notice in the calendar
pub notice-inside : (case : Case) → Accepts case.shown case.calendar.now case.readings.now → looks_back case.shown.point.method ≡ false → case.shown.e.notice + 1 ≤ start case.shown.c case.shown.e
notice-inside case a h = last-inside a.settled (method-0 a.settled case.shown.point.method refl h)

pub ruleset days_judged = (refers-unlike, refers-missing, refers-off)

pub ruleset runs_judged = (standing-run, standing-part, standing-part-2, standing-whole)

pub ruleset needs_judged = (needs-both)

pub ruleset lacks_judged = (lacks-reading, lacks-days, lacks-none)

pub ruleset few_judged = (no-days)

pub ruleset ranks_judged = (y-most)

pub ruleset levels_judged = (notice-inside, levels-filled, flat-levels, length-take-le, length-replicate)
