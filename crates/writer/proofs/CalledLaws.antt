-- From what was measured and what was written to the call's record.
use Rattle.std.specs.Prelude.{◌≡◌, refl, true, ◌&&◌, List, ◌++◌, ℕ, ◌≤◌, length, drop, Option, Some, None, Ok, Err}
use Rattle.std.specs.Option.{ok_or}
use Rattle.refusals.specs.declared.Refused.{Refused}
use Rattle.std.proofs.Common.{sym, ap, ap₂, ◌∙◌, subst, arith, zero-add}
use Rattle.text.specs.WrittenInner.{written}
use Rattle.moments.specs.Ids.{is_transaction_id}
use Rattle.kinds.specs.declared.Kind.{Kind}
use Rattle.message.specs.Valid.{is_moment}
use Rattle.message.specs.Messages.{message_bytes}
use Rattle.refusals.specs.Buffers.{over}
use Rattle.refusals.specs.declared.Refused.TheVariants.{Short}
use Rattle.kinds.specs.Numbers.{kind_number}
use Rattle.kinds.specs.NumbersLaws.{kind-numbered}
use Rattle.emitter.specs.declared.measure.Measure.{Measure}
use Rattle.emitter.specs.declared.write.Write.{Write}
use Rattle.emitter.specs.MeasuredInner.{Measured}
use Rattle.emitter.specs.WrittenInner.{Written}
use Rattle.writer.specs.Rows.{is_rows, rows_message}
use Rattle.writer.specs.WriteCalls.{WriteCalled}
use Rattle.writer.proofs.WriteCallsLaws.{wrote-short, wrote-file}

module _ (kind : Kind) (receiver year month : ℕ) (rows id moment before : List ℕ) (r : is_rows kind receiver year month rows ≡ true) (g : (is_transaction_id id && is_moment moment) ≡ true) where
  abbrev text : List ℕ
  text = message_bytes (rows_message kind receiver year month rows id moment)

  -- no room for the bytes: the buffer is too short for them
  pub called-short : (a b : Measure) → a.laid ≡ 0 → a.room ≡ length before → Measured a text None b → WriteCalled (kind_number kind) receiver year month rows id moment before before (Err (Short 1))
  called-short a b f h v = wrote-short (kind_number kind) receiver year month rows id moment before kind (kind-numbered kind) r g (omega (arith, v.0))

  written-over : (c d : Write) (o : Option Unit) → c.out.now ≡ before → c.at ≡ 0 → length text ≤ length before → Written c text o d → d.out.now ≡ over text before
  unfolding over written
  written-over c d (Some u) i j h w = w.1.list ∙ ap₂ (λ (l : List ℕ) (k : ℕ). written l k text) i j ∙ ap (λ (k : ℕ). text ++ drop k before) (zero-add (length text))
  written-over c d None i j h w = absurd (omega (arith, w.1, ap length i))

  -- as many as were measured are written over the first places
  pub called-file : (a b : Measure) (c d : Write) (u : Unit {0}) (o : Option Unit) {after : List ℕ} → after ≡ d.out.now → a.laid ≡ 0 → a.room ≡ length before → Measured a text (Some u) b
      → c.out.now ≡ before → c.at ≡ 0 → Written c text o d → WriteCalled (kind_number kind) receiver year month rows id moment before after (Ok b.laid)
  called-file a b c d u o {after} e f h v i j w =
      let fits : length text ≤ length before = omega (arith, v.0, v.1, b.within) in
      let count : b.laid ≡ length text = omega (arith, v.0) in
      subst (λ (l : List ℕ). WriteCalled (kind_number kind) receiver year month rows id moment before l (Ok b.laid)) (sym (written-over c d o i j fits w) ∙ sym e)
      (subst (λ (k : ℕ). WriteCalled (kind_number kind) receiver year month rows id moment before (over text before) (Ok k)) (sym count)
      (wrote-file (kind_number kind) receiver year month rows id moment before kind (kind-numbered kind) r g fits))

-- the same buffer throughout, whatever was written
pub same-buffer : (a b : Write) (bs : List ℕ) (r : Option Unit) → Written a bs r b → b.out.ghost_name ≡ a.out.ghost_name
same-buffer a b bs (Some u) w = w.0.name
same-buffer a b bs None w = w.0.name

-- what was measured, by what `?` made of it
pub was-some : (o : Option Unit) (e : Refused) {u : Unit {0}} → ok_or o e ≡ Ok u → o ≡ Some u
was-some (Some v) e f = refl
was-some None e f = absurd cc

pub was-none : (o : Option Unit) (e f : Refused) → ok_or o e ≡ Err f → (o ≡ None) × (f ≡ e)
was-none (Some v) e f g = absurd cc
was-none None e f g = (refl, cc)

pub measured-at : (a b : Measure) (bs cs : List ℕ) (o q : Option Unit) → bs ≡ cs → o ≡ q → Measured a bs o b → Measured a cs q b
measured-at a b bs cs o q e f v = subst (λ (p : Option Unit). Measured a cs p b) f (subst (λ (l : List ℕ). Measured a l o b) e v)

pub written-at : (a b : Write) (bs cs : List ℕ) (o : Option Unit) → bs ≡ cs → Written a bs o b → Written a cs o b
written-at a b bs cs o e v = subst (λ (l : List ℕ). Written a l o b) e v
