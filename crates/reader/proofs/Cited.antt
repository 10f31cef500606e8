-- What the generated contract of `read` says is `ReadCalled`, for every caller: it asks nothing.
use mathlib.Core.Path.{◌≡◌, refl}
use contract.Lifetimes.{Lfts}
use denote.Triple.Clauses.{AtExit}
use borrow.Fn.Kinds.{Dens, res_t, ended_of}
use Rattle.message.specs.Calls.{ReadCalled}
use Rattle.reader.proofs.read.Kinds as kinds
use Rattle.reader.proofs.read.Reads as reads

module _ (κs : Lfts 2) (a : Dens κs kinds.ps) (r : (res_t kinds.r κs).Denot) (s : AtExit (ended_of 2 kinds.ps kinds.r) κs) where
  -- what a caller learns
  learnt_is : reads.Learnt κs a r s ≡ ReadCalled a.0.now a.1.0.now s.1.0.now r
  learnt_is = refl

  -- what a caller is asked
  asked_is : reads.Asked κs a ≡ Unit {0}
  asked_is = refl
