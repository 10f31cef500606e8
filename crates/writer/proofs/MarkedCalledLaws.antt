-- From what was measured and what was written, with a mark for the place behind it (`Laid`), to the call's record: there is no place behind the bytes where the buffer is too short for them, and else they lie over its first places.
-- They stand for whoever lays so; the writer goes by CalledLaws, and from its two sinks `measured-laid` and `written-laid` of `emitter` LaidLaws lead to these.
use Rattle.std.specs.Prelude.{◌≡◌, true, false, ◌&&◌, List, ℕ, Option, Some, None, Ok, Err}
use Rattle.std.proofs.Common.{sym, subst}
use Rattle.moments.specs.Ids.{is_transaction_id}
use Rattle.kinds.specs.declared.Kind.{Kind}
use Rattle.message.specs.Valid.{is_moment}
use Rattle.message.specs.Messages.{message_bytes}
use Rattle.refusals.specs.Buffers.{over}
use Rattle.refusals.specs.declared.Refused.TheVariants.{Short}
use Rattle.kinds.specs.Numbers.{kind_number}
use Rattle.kinds.specs.NumbersLaws.{kind-numbered}
use Rattle.emitter.proofs.LaidLaws.{Laid, laid-over, laid-no-room}
use Rattle.writer.specs.Rows.{is_rows, rows_message}
use Rattle.writer.specs.WriteCalls.{WriteCalled}
use Rattle.writer.proofs.WriteCallsLaws.{wrote-short, wrote-file}

module _ (kind : Kind) (receiver year month : ℕ) (rows id moment before : List ℕ) (r : is_rows kind receiver year month rows ≡ true) (g : (is_transaction_id id && is_moment moment) ≡ true) where
  -- no place behind the bytes: the buffer is too short for them
  pub called-short : {dry : List ℕ} {end : Option ℕ} → end ≡ None → Laid false before (Some 0) (message_bytes (rows_message kind receiver year month rows id moment)) dry end
      → WriteCalled (kind_number kind) receiver year month rows id moment before dry (Err (Short 1))
  called-short {dry} {end} e v =
      let x = laid-no-room (rw e at v) in
      subst (λ (l : List ℕ). WriteCalled (kind_number kind) receiver year month rows id moment before l (Err (Short 1))) (sym x.same)
      (wrote-short (kind_number kind) receiver year month rows id moment before kind (kind-numbered kind) r g x.short)

  -- a place behind them: they are written there
  pub called-file : {dry after : List ℕ} {end end' : Option ℕ} (n : ℕ) → end ≡ Some n → Laid false before (Some 0) (message_bytes (rows_message kind receiver year month rows id moment)) dry end
      → Laid true dry (Some 0) (message_bytes (rows_message kind receiver year month rows id moment)) after end'
      → WriteCalled (kind_number kind) receiver year month rows id moment before after (Ok n)
  called-file {dry} {after} {end} {end'} n e v w =
      let bytes = message_bytes (rows_message kind receiver year month rows id moment) in
      let x = laid-over (rw e at v) w in
      let c = wrote-file (kind_number kind) receiver year month rows id moment before kind (kind-numbered kind) r g x.room in
      subst (λ (l : List ℕ). WriteCalled (kind_number kind) receiver year month rows id moment before l (Ok n)) (sym x.list)
      (subst (λ (k : ℕ). WriteCalled (kind_number kind) receiver year month rows id moment before (over bytes before) (Ok k)) (sym x.count) c)
