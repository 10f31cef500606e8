-- Measured without room, nothing changed; else the rows are filled and the file is written as it was measured.
use Rattle.std.proofs.Common.{◌≡◌, Err, sym, subst, ◌∙◌, arith}
use Rattle.std.proofs.lemmas.Grind.{common_steps}
use Rattle.std.proofs.Math.ListN.{length}
use Rattle.refusals.specs.declared.Refused.TheVariants.{Short}
use Rattle.book.specs.Book.{book_of}
use Rattle.volumes.proofs.SettlementLaws.{passing}
use Rattle.reports.specs.FileRows.{file_text, partners_of}
use Rattle.filing.specs.LayingInner.{Sized}
use Rattle.filing.specs.FileCallLaws.{file-short, file-fits}
use Rattle.filing.proofs.FilesLaws.{was-some, was-none}
use Rattle.filing.proofs.file.write_file.Goals as goal

pub returns-in_err-bytes : goal.returns-in_err-bytes
returns-in_err-bytes c =
    let a = c.args in
    let book = book_of a.delivered.now.book.now in
    let text = file_text book a.role.kind a.role.receiver a.stamp.id.now a.stamp.moment.now in
    let n = length (partners_of book a.role.kind a.role.receiver) in
    let none = was-none c.measure_file-measured.result _ _ (sym c.ok_or.ensures.value ∙ c.in_err-bytes.was) in
    let sent : c.from_residual.result ≡ Err (Short 1) = grind (arith, common_steps, none.1) in
    rw sent (file-short book text a.lent.now a.file.now (subst (Sized (length a.file.now) text n) none.0 c.measure_file-measured.ensures))

pub row_count-requires : goal.row_count-requires
row_count-requires c = (passing _ c.args.delivered.now.delivered.accepted).passed

pub returns : goal.returns
returns c =
    let a = c.args in
    let book = book_of a.delivered.now.book.now in
    let text = file_text book a.role.kind a.role.receiver a.stamp.id.now a.stamp.moment.now in
    let n = length (partners_of book a.role.kind a.role.receiver) in
    let some = was-some c.measure_file-measured.result _ (sym c.ok_or.ensures.value ∙ c.in_ok-bytes.was) in
    let p = subst (Sized (length a.file.now) text n) some c.measure_file-measured.ensures in
    file-fits book text a.lent.now a.file.now c.row_count.result c.in_ok-bytes.bytes c.fill_book.new.out c.write_measured.new.file c.requires.0 c.row_count.ensures.0 p.0 p.1 c.fill_book.ensures c.write_measured.ensures
