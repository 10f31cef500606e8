-- The file's laws, by its rows: what is written is read, what is read is written again, and no two contents have one file.
use Rattle.std.specs.Prelude.{◌≡◌, List, [], ℕ}
use Rattle.formats.specs.Format.{got, bad}
use Rattle.std.proofs.Common.{sym, ◌∙◌}
use Rattle.formats.specs.FormatLaws.{there_and_back, back-and-there, refused, one-contents}
use Rattle.message.specs.Rows.{Message, IsMessage}
use Rattle.message.proofs.MessageForm.{message_form}
use Rattle.message.proofs.ReadingLaws.{read-message}
use Rattle.message.specs.Messages.{message_bytes, read_message}

pub written-is-read : (m : Message) → IsMessage m → read_message (message_bytes m) ≡ got m []
unfolding message_form
written-is-read m ok = read-message (message_bytes m) ∙ there_and_back message_form m ok

pub read-is-written : (s : List ℕ) (m : Message) (r : List ℕ) → read_message s ≡ got m r → (s ≡ message_bytes m) × IsMessage m
unfolding message_form
read-is-written s m r e = back-and-there message_form s m r (sym (read-message s) ∙ e)

pub refused-is-none : (s : List ℕ) → read_message s ≡ bad → (m : Message) → IsMessage m → s ≡ message_bytes m → ⊥
unfolding message_form
refused-is-none s e m ok f = refused message_form s (sym (read-message s) ∙ e) m ok f

pub one-message : (m n : Message) → IsMessage m → IsMessage n → message_bytes m ≡ message_bytes n → m ≡ n
unfolding message_form
one-message m n p q e = one-contents message_form m n p q e
