-- The format of a file by its rows.
use Rattle.std.specs.Prelude.{◌≡◌, refl, ℕ, length}
use Rattle.std.proofs.Common.{sym, ap, subst, length-append, arith}
use mathlib.Core.List.{List, [], ◌∷◌, map, flat_map}
use Rattle.std.proofs.lemmas.List.{length-map}
use Rattle.integers.specs.All.{All}
use Rattle.formats.specs.Format.{Format}
use Rattle.formats.specs.Combine.{Recast, recast}
use Rattle.kinds.specs.declared.Kind.{Kind}
use Rattle.message.specs.Contents.{Observation, Partner, File}
use Rattle.message.specs.Bytes.{file_bytes}
use Rattle.message.specs.Valid.{periods, first_of, IsPartner, IsFile}
use Rattle.message.proofs.FileForm.{file}
use Rattle.message.specs.Group.{group, spread}
use Rattle.message.specs.Rows.{Row, partner_rows, rows_of, partners_of, Message, contents, message, IsMessage}
use Rattle.message.proofs.RowsLaws.{some-rows, rows-undo, partners-undo, first-month}

contents-message : (f : File) → IsFile f → contents (message f) ≡ f
unfolding contents message
contents-message f ok =
    ap (λ (l : List Partner). record { kind = f.kind; receiver = f.receiver; id = f.id; moment = f.moment; partners = l })
    (partners-undo f.kind (first_of (periods f.partners)) f.partners ok.rising ok.each ok.same)

none-month : (year month : ℕ) → (year ≡ 0) × (month ≡ 0) → first_of (periods (partners_of (year, month) [])) ≡ (year, month)
unfolding partners_of group periods flat_map first_of
none-month year month h = let y = sym h.0 in let m = sym h.1 in λ i. (y i, m i)

message-contents : (m : Message) → IsMessage m → message (contents m) ≡ m
unfolding contents message
message-contents m ok =
    let q : first_of (periods (partners_of (m.year, m.month) m.rows)) ≡ (m.year, m.month) = first m.rows ok.none in
    let r = rows-undo (m.year, m.month) m.rows in
    λ i. record { kind = m.kind; receiver = m.receiver; id = m.id; moment = m.moment; year = (q i).0; month = (q i).1; rows = r i }
  where
    first : (rows : List Row) → (length rows ≡ 0 → (m.year ≡ 0) × (m.month ≡ 0)) → first_of (periods (partners_of (m.year, m.month) rows)) ≡ (m.year, m.month)
    first [] h = none-month m.year m.month (h refl)
    first (x ∷ rows) h = first-month (m.year, m.month) x rows

-- a file without rows has no partners
none_first : (k : Kind) (l : List Partner) → All (IsPartner k) l → length (rows_of l) ≡ 0 → ((first_of (periods l)).0 ≡ 0) × ((first_of (periods l)).1 ≡ 0)
unfolding periods first_of flat_map All rows_of spread
none_first k [] v e = (refl, refl)
none_first k (p ∷ l) v e =
    let f : (ℕ × ℕ) × Observation → Row = λ r. (p.number, r) in
    absurd (omega (arith, length-append (map f (partner_rows p).1) (rows_of l), length-map (partner_rows p).1 f, some-rows p.series v.0.counted.some v.0.each))

no-partners : (f : File) → IsFile f → length (rows_of f.partners) ≡ 0 → ((first_of (periods f.partners)).0 ≡ 0) × ((first_of (periods f.partners)).1 ≡ 0)
no-partners f ok e = none_first f.kind f.partners ok.each e

message-to : (f : File) → IsFile f → IsMessage (message f)
unfolding message
message-to f ok = record { file = subst IsFile (sym (contents-message f ok)) ok; none = λ e. no-partners f ok e }

pub message-recast : Recast file IsMessage (λ m. file_bytes (contents m)) message contents
unfolding file
message-recast = record { to_ok = message-to; from_ok = λ m ok. ok.file; back = contents-message; forth = message-contents; same = λ m ok. refl }

unfoldable pub message_form : Format Message
message_form = recast file IsMessage (λ m. file_bytes (contents m)) message contents message-recast
