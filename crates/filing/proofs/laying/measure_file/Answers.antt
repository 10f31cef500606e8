-- Partners, head and end take as many bytes as head, partners and end.
use Rattle.std.proofs.Common.{refl, subst, sym}
use Rattle.std.proofs.Math.ListN.{length}
use mathlib.Core.List.{flat_map}
use Rattle.message.specs.Bytes.{partner_bytes}
use Rattle.emitter.specs.PartsInner.{file_head, file_end}
use Rattle.book.specs.Book.{book_of}
use Rattle.reports.specs.FileRows.{file_text, partners_of}
use Rattle.filing.specs.LayingInner.{Sized}
use Rattle.filing.specs.LayingLaws.{file-turned}
use Rattle.filing.proofs.FilesLaws.{first-none, second-none, third-none, all-some}
use Rattle.filing.proofs.laying.measure_file.Goals as goal

pub returns-in_err-partners : goal.returns-in_err-partners
returns-in_err-partners c =
    let a = c.args in
    let book = book_of a.delivered.now.book.now in
    let text = file_text book a.role.kind a.role.receiver a.stamp.id.now a.stamp.moment.now in
    let p = flat_map (partner_bytes a.role.kind) (partners_of book a.role.kind a.role.receiver) in
    let h = file_head a.role.kind a.stamp.id.now a.stamp.moment.now a.role.receiver (length (partners_of book a.role.kind a.role.receiver)) in
    let long = file-turned book a.role.kind a.role.receiver a.stamp.id.now a.stamp.moment.now (length (partners_of book a.role.kind a.role.receiver)) refl in
    subst (Sized a.room text (length (partners_of book a.role.kind a.role.receiver))) (sym c.from_residual.ensures) (first-none a.room text p h (file_end a.role.kind) long c.new-measure.result c.new-measure.ensures.laid c.new-measure.ensures.room c.emit_partners.new.sink c.in_err-partners.ensures.laid)

pub returns-in_err-emit_file_head : goal.returns-in_err-emit_file_head
returns-in_err-emit_file_head c =
    let a = c.args in
    let book = book_of a.delivered.now.book.now in
    let text = file_text book a.role.kind a.role.receiver a.stamp.id.now a.stamp.moment.now in
    let p = flat_map (partner_bytes a.role.kind) (partners_of book a.role.kind a.role.receiver) in
    let h = file_head a.role.kind a.stamp.id.now a.stamp.moment.now a.role.receiver c.in_ok-partners.partners in
    let long = file-turned book a.role.kind a.role.receiver a.stamp.id.now a.stamp.moment.now c.in_ok-partners.partners c.in_ok-partners.ensures.count in
    subst (Sized a.room text (length (partners_of book a.role.kind a.role.receiver))) (sym c.from_residual-in_err-emit_file_head.ensures)
    (second-none a.room text p h (file_end a.role.kind) long c.new-measure.result c.new-measure.ensures.laid c.new-measure.ensures.room c.emit_partners.new.sink c.emit_file_head.new.sink c.in_ok-partners.ensures.laid c.in_err-emit_file_head.ensures)

pub returns-in_err-emit_file_end : goal.returns-in_err-emit_file_end
returns-in_err-emit_file_end c =
    let a = c.args in
    let book = book_of a.delivered.now.book.now in
    let text = file_text book a.role.kind a.role.receiver a.stamp.id.now a.stamp.moment.now in
    let p = flat_map (partner_bytes a.role.kind) (partners_of book a.role.kind a.role.receiver) in
    let h = file_head a.role.kind a.stamp.id.now a.stamp.moment.now a.role.receiver c.in_ok-partners.partners in
    let long = file-turned book a.role.kind a.role.receiver a.stamp.id.now a.stamp.moment.now c.in_ok-partners.partners c.in_ok-partners.ensures.count in
    subst (Sized a.room text (length (partners_of book a.role.kind a.role.receiver))) (sym c.from_residual-in_err-emit_file_end.ensures)
    (third-none a.room text p h (file_end a.role.kind) long c.new-measure.result c.new-measure.ensures.laid c.new-measure.ensures.room c.emit_partners.new.sink c.emit_file_head.new.sink c.emit_file_end.new.sink c.in_ok-partners.ensures.laid c.in_ok-emit_file_head.ensures c.in_err-emit_file_end.ensures)

pub returns : goal.returns
returns c =
    let a = c.args in
    let book = book_of a.delivered.now.book.now in
    let text = file_text book a.role.kind a.role.receiver a.stamp.id.now a.stamp.moment.now in
    let p = flat_map (partner_bytes a.role.kind) (partners_of book a.role.kind a.role.receiver) in
    let h = file_head a.role.kind a.stamp.id.now a.stamp.moment.now a.role.receiver c.in_ok-partners.partners in
    let long = file-turned book a.role.kind a.role.receiver a.stamp.id.now a.stamp.moment.now c.in_ok-partners.partners c.in_ok-partners.ensures.count in
    let all = all-some a.room text p h (file_end a.role.kind) long c.new-measure.result c.new-measure.ensures.laid c.new-measure.ensures.room c.emit_partners.new.sink c.emit_file_head.new.sink c.emit_file_end.new.sink c.in_ok-partners.ensures.laid c.in_ok-emit_file_head.ensures c.in_ok-emit_file_end.ensures in
    (all.0, all.1, c.in_ok-partners.ensures.count)
