-- What is laid in parts is what the file has: in the order in which the parts are laid, each with all those behind it.
use Rattle.std.specs.Prelude.{◌≡◌, refl, Option, ℕ, zero, suc, ◌/◌, ◌%◌, ◌≤◌, length, List, [], ◌∷◌}
use Prim.Native.String.{String}
use Rattle.std.proofs.Common.{sym, ap, ◌∙◌, arith}
use mathlib.Core.List.{◌++◌, append_assoc, flat_map}
use Rattle.text.specs.Ascii.{bytes}
use Rattle.text.specs.Decimal.{fixed, plain}
use Rattle.formats.specs.Words.{word_at}
use Rattle.moments.specs.Moments.{moment_bytes, period_start, period_end}
use Rattle.kinds.specs.declared.Kind.{Kind}
use Rattle.message.specs.Bytes.{opening, ending, closing, element, root, counter, group, partner, digits, quantity_bytes, observation_bytes, period_bytes, supply_bytes, volume_bytes}
use Rattle.message.specs.Bytes.{with_partner, series_bytes, supply_of, partner_bytes, file_bytes}
use Rattle.message.specs.Contents.{TimeSeries, Partner, File}
use Rattle.message.specs.Reading.{observed}
use Rattle.emitter.specs.SinksInner.{SinkLaws}
use Rattle.emitter.proofs.Laying.{laid_as}
use Rattle.emitter.specs.PartsInner.{open_tag, close_tag, element_of, delivery_bytes, head_bytes, series_head, series_end, partner_head, partner_end, origin_bytes, file_head, file_end}

-- ---- tags, elements and words

pub opened : {n : List ℕ} (name : String) → n ≡ bytes name → open_tag n ≡ opening name
unfolding opening bytes
opened name e = rw e

pub closed : {n : List ℕ} (name : String) → n ≡ bytes name → close_tag n ≡ closing name
unfolding closing ending bytes
closed name e = rw e

pub an-element : {n c : List ℕ} (name : String) (content : List ℕ) → n ≡ bytes name → c ≡ content → element_of n c ≡ element name content
an-element {n} {c} name content e f =
    ap (λ (l : List ℕ). element_of n l) f ∙ ap (λ (l : List ℕ). l ++ (content ++ close_tag n)) (opened name e)
    ∙ ap (λ (l : List ℕ). opening name ++ (content ++ l)) (closed name e) ∙ sym (append_assoc (opening name) content (closing name))

-- the same of what was laid
module _ {S : Type 0} {lays : S → List ℕ → Option Unit → S → Type 0} (laws : SinkLaws lays) {a b : S} {r : Option Unit} where
  pub an_opening : {n : List ℕ} (name : String) → n ≡ bytes name → lays a (open_tag n) r b → lays a (opening name) r b
  an_opening name e v = laid_as laws (opened name e) v

  pub an_element : {n c content : List ℕ} (name : String) → n ≡ bytes name → c ≡ content → lays a (element_of n c) r b → lays a (element name content) r b
  an_element name e f v = laid_as laws (an-element name _ e f) v

pub no-word : (a b : List ℕ) (which : ℕ) → 2 ≤ which → [] ≡ word_at (a ∷ b ∷ []) which
unfolding word_at
no-word a b zero h = absurd (omega arith)
no-word a b (suc zero) h = absurd (omega arith)
no-word a b (suc (suc n)) h = refl

-- ---- in the order in which they are laid

pub quantity-parts : (w : ℕ) → plain (w / 1000) ++ (bytes "." ++ fixed 3 (w % 1000)) ≡ quantity_bytes w
unfolding quantity_bytes
quantity-parts w = simp append_assoc

pub observation-parts : (p w : ℕ)
    → (opening "Observation" ++ opening "Position") ++ (plain p ++ ((closing "Position" ++ opening "Quantity") ++ (quantity_bytes w ++ (closing "Quantity" ++ closing "Observation"))))
    ≡ observation_bytes (observed (p, w))
unfolding observation_bytes
observation-parts p w = simp append_assoc

pub period-parts : (year month : ℕ)
    → element "PeriodStart" (moment_bytes (period_start year month)) ++ (element "PeriodEnd" (moment_bytes (period_end year month)) ++ element "PeriodResolution" (bytes "PT15M"))
    ≡ period_bytes year month
unfolding period_bytes
period-parts year month = simp append_assoc

pub partner-head-parts : (k : Kind) (number supply n : ℕ)
    → opening (group k) ++ (element (partner k) (fixed (digits k) number) ++ (with_partner k (supply_bytes supply) ++ element "DirectionCounter" (plain n))) ≡ partner_head k number supply n
unfolding partner_head
partner-head-parts k number supply n = refl

pub origin-parts : (k : Kind) (id moment : List ℕ) → opening (root k) ++ (element "TransactionID" id ++ element "MessageCreateDateTime" moment) ≡ origin_bytes k id moment
unfolding origin_bytes
origin-parts k id moment = refl

pub file-head-parts : (k : Kind) (id moment : List ℕ) (receiver n : ℕ)
    → origin_bytes k id moment ++ (element "ReceiverID" (fixed 10 receiver) ++ element (counter k) (plain n)) ≡ file_head k id moment receiver n
unfolding file_head
file-head-parts k id moment receiver n = refl

-- ---- head, what is held, end

pub series-parts : (k : Kind) (s : TimeSeries)
    → series_head k s.supply s.delivery (length s.observations) s.year s.month ++ (flat_map observation_bytes s.observations ++ series_end) ≡ series_bytes k s
unfolding series_head series_end head_bytes delivery_bytes volume_bytes series_bytes
series-parts k s = simp append_assoc

pub partner-parts : (k : Kind) (p : Partner)
    → partner_head k p.number (supply_of p.series) (length p.series) ++ (flat_map (series_bytes k) p.series ++ partner_end k) ≡ partner_bytes k p
unfolding partner_head partner_end partner_bytes
partner-parts k p = simp append_assoc

pub file-parts : (f : File)
    → file_head f.kind f.id f.moment f.receiver (length f.partners) ++ (flat_map (partner_bytes f.kind) f.partners ++ file_end f.kind) ≡ file_bytes f
unfolding origin_bytes file_head file_end file_bytes
file-parts f = simp append_assoc
