-- 02, C-14: no version changes a file, which goes by delivered volumes.
use Rattle.std.specs.Prelude.{◌≡◌, List, ℕ}
use Rattle.quarters.specs.Quarters.{month_quarters}
use Rattle.book.specs.Book.{Book}
use Rattle.volumes.specs.Series.{Kind}
use Rattle.volumes.proofs.VersionLaws.{of_version, grains-any}
use Rattle.message.specs.Bytes.{file_bytes}
use Rattle.reports.specs.FileRows.{partner_numbers, partners_by, partners_of, file_of, file_text}

pub text-any : (version : ℕ) (book : Book) (kind : Kind) (receiver : ℕ) (id moment : List ℕ) → file_text (of_version version book) kind receiver id moment ≡ file_text book kind receiver id moment
unfolding of_version file_text file_of partners_of partner_numbers
text-any version book kind receiver id moment =
    λ i.
    file_bytes (record {
      kind = kind;
      receiver = receiver;
      id = id;
      moment = moment;
      partners = partners_by (λ s p. grains-any version book kind receiver s p i) (book.calendar.year, book.calendar.month) (month_quarters book.calendar) (partner_numbers book kind receiver);
    })
