-- What bytes are read as is what the format of a file by its rows says. Each part is read as its format says, by the words of both; a partner's reading hangs on the kind.
use Rattle.std.specs.Prelude.{◌≡◌, refl, List, ◌++◌, ℕ}
use Rattle.std.proofs.Common.{sym, ap}
use Rattle.formats.specs.Format.{Res, whole, read_all}
use Rattle.formats.specs.Combine.{seq_parse, pre_parse, post_parse, map_parse}
use Rattle.formats.specs.Exactly.{exactly_parse, fixed_parse}
use Rattle.formats.specs.Name.{name_byte, name_parse}
use Rattle.formats.specs.Rising.{rising_parse}
use Rattle.kinds.specs.declared.Kind.{Kind}
use Rattle.kinds.specs.declared.Kind.TheVariants.{Toe01, Toe02, Toe03}
use Rattle.message.specs.Contents.{Partner, File, number}
use Rattle.message.specs.Bytes.{opening, ending, closing, root, counter}
use Rattle.message.specs.Valid.{is_moment}
use Rattle.message.specs.Months.{next_months}
use Rattle.message.specs.Rows.{message}
use Rattle.message.specs.Reading.{plain_parse, counted_parse, quantity_parse, position_parse, observation_parse, observations_parse, month_parse, period_parse, volume_parse, own_series_parse, shared_series_parse, series_list_parse, own_partner_parse, shared_partner_parse, partner_parse, kind_parse, partners_parse, file_of, file_parse, message_parse}
use Rattle.message.specs.Messages.{read_message}
use Rattle.message.proofs.ObservationForm.{quantity, observation_body, observation, observations, month_body, period}
use Rattle.message.proofs.SeriesForm.{volume_body, own_body, shared_body}
use Rattle.message.proofs.SeriesListForm.{series_list}
use Rattle.message.proofs.PartnerForm.{own_partner_body, own_partner, shared_partner_body, shared_partner, partner_form}
use Rattle.message.proofs.FileForm.{kind_form, partners_form, file_body, file}
use Rattle.message.proofs.MessageForm.{message_form}

-- ---- a partner

pub partner-parse : (k : Kind) (seen : ℕ × ℕ) → (partner_form k seen).parse ≡ partner_parse k seen
unfolding partner_form own_partner own_partner_body shared_partner shared_partner_body series_list own_body shared_body volume_body observations observation observation_body quantity period month_body partner_parse own_partner_parse shared_partner_parse series_list_parse own_series_parse shared_series_parse volume_parse observations_parse observation_parse position_parse quantity_parse plain_parse counted_parse month_parse period_parse rising_parse fixed_parse
partner-parse Toe01 seen = refl
partner-parse Toe02 seen = refl
partner-parse Toe03 seen = refl

-- ---- the file

pub partners-parse : (k : Kind) (n : ℕ) → (partners_form k n).parse ≡ partners_parse k n
unfolding partners_form partners_parse rising_parse
partners-parse k n = ap (λ (f : ℕ × ℕ → List ℕ → Res Partner). rising_parse f number next_months n 0 (0, 0)) (λ i seen. partner-parse k seen i)

pub file-parse : file.parse ≡ file_parse
unfolding file file_body kind_form file_parse kind_parse plain_parse fixed_parse
file-parse =
    ap (λ (f : Kind → ℕ → List ℕ → Res (List Partner)).
    map_parse file_of (seq_parse kind_parse (λ k. pre_parse (opening "TransactionID")
    (seq_parse (post_parse (name_parse name_byte 1 36 60) (λ i. ending "TransactionID" ++ opening "MessageCreateDateTime"))
    (λ i. seq_parse (post_parse (exactly_parse 29 is_moment) (λ m. closing "MessageCreateDateTime" ++ opening "ReceiverID"))
    (λ m. seq_parse (post_parse (fixed_parse 10) (λ r. closing "ReceiverID" ++ opening (counter k)))
    (λ r. seq_parse (post_parse plain_parse (λ n. ending (counter k)))
    (λ n. post_parse (f k n) (λ l. closing (root k)))))))))) (λ i k n. partners-parse k n i)

-- ---- a file by its rows

pub read-message : (s : List ℕ) → read_message s ≡ read_all message_form s
unfolding read_all message_form message_parse
read-message s = ap (λ (f : List ℕ → Res File). whole (map_parse message f s)) (sym file-parse)
