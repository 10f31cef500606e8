-- What the generated contract of `sheet` says is `SheetCalled`, for every caller: it asks nothing.
use mathlib.Core.Path.{◌≡◌, refl}
use contract.Lifetimes.{Lfts}
use denote.Triple.Clauses.{AtExit}
use borrow.Fn.Kinds.{Dens, res_t, ended_of}
use Rattle.refusals.specs.Sent.{said}
use Rattle.reports.specs.Calls.{SheetCalled}
use Rattle.filing.proofs.sheet.sheet.Kinds as kinds
use Rattle.filing.proofs.sheet.sheet.Reads as reads

module _ (κs : Lfts 2) (a : Dens κs kinds.ps) (r : (res_t kinds.r κs).Denot) (s : AtExit (ended_of 2 kinds.ps kinds.r) κs) where
  -- what a caller learns
  learnt_is : reads.Learnt κs a r s ≡ SheetCalled a.0.now a.1.0 a.1.1.0.now s.1.1.0.now (said r)
  learnt_is = refl

  -- what a caller is asked
  asked_is : reads.Asked κs a ≡ Unit {0}
  asked_is = refl
