use Rattle.std.proofs.Common.{arith, ◌≡◌, length, rules, refl, sym, ap, subst, ◌∙◌}
use Rattle.std.proofs.lemmas.List.{nil_from_length}
use Rattle.std.proofs.lemmas.Result.{err_from_is_err_and}
use Rattle.line_journal.specs.Lines.{bytes_of}
use Rattle.table_folder.specs.declared.folder_setup.FolderSetup.{FolderSetup}
use Rattle.table_folder.specs.InputLines.{text_left, BringsLines}
use Rattle.gz_table_drive.specs.Written.{AreFirstSent, AreWritten, AnswersSoFar}
use Rattle.gz_table_drive.proofs.SentLemmas.{group_stopped, input_stopped}
use Rattle.gz_table_drive.proofs.InputLemmas.{none_answered, answered_more, answered_all}
use Rattle.gz_table_drive.proofs.program.answer_input.Goals as goal

pub loop-init : goal.loop-init
loop-init g c =
    let s = c.args.kept.now.setup.now in
    record { begun = c.new-reader.ensures.begun; written = none_answered s (g.I.Read.remaining c.args.input.now) (text_left g.I.Read.remaining c.new-reader.result) c.args.log.now (g.O.Write.contents c.args.output.now) c.new-reader.ensures.text; setup = refl }

pub loop-preserved : goal.loop-preserved
loop-preserved g c =
    let s = c.args.kept.now.setup.now in
    let inv = c.loop.invariant in
    let old = g.O.Write.contents c.args.output.now in
    let mid = g.O.Write.contents c.loop.output in
    let new = g.O.Write.contents c.answer_group.new.output in
    let group = bytes_of c.deref.result.now in
    let next = c.in_ok-answer_group.field-0 in
    let input = g.I.Read.remaining c.args.input.now in
    let left = text_left g.I.Read.remaining c.next_lines.new.self in
    let brings : BringsLines (text_left g.I.Read.remaining c.loop.reader) left group = subst (BringsLines (text_left g.I.Read.remaining c.loop.reader) left) (ap bytes_of (sym c.deref.ensures.value)) c.in-Ok.ensures.brings in
    record {
      begun = c.in-Ok.ensures.begun;
      written = subst (AnswersSoFar s input left c.args.log.now c.answer_group.new.log old new) (sym c.behind-ending.ensures)
          (answered_more s group input (text_left g.I.Read.remaining c.loop.reader) left c.args.log.now c.loop.log c.answer_group.new.log old mid new c.loop.ending next inv.written brings
          (subst (λ (f : FolderSetup). AreWritten f group c.loop.log c.answer_group.new.log mid new next) inv.setup c.in_ok-answer_group.ensures.written));
      setup = c.answer_group.ensures.setup ∙ inv.setup;
    }

pub returns-then-is_empty-clause-written : goal.returns-then-is_empty-clause-written
returns-then-is_empty-clause-written g c =
    let s = c.args.kept.now.setup.now in
    let empty : length c.in-Ok.lines.items ≡ 0 = search (arith, rules) in
    let none = nil_from_length c.in-Ok.lines.items empty in
    answered_all s (bytes_of c.in-Ok.lines.items) (g.I.Read.remaining c.args.input.now) (text_left g.I.Read.remaining c.loop.reader)
    (text_left g.I.Read.remaining c.next_lines.new.self) c.args.log.now c.loop.log (g.O.Write.contents c.args.output.now) (g.O.Write.contents c.loop.output) c.loop.ending
    c.loop.invariant.written c.in-Ok.ensures.brings (ap bytes_of none) (c.in-Ok.ensures.end none)

pub returns-in-Err-OutOfMemory-clause-stopped : goal.returns-in-Err-OutOfMemory-clause-stopped
returns-in-Err-OutOfMemory-clause-stopped g c =
    input_stopped c.args.kept.now.setup.now (g.I.Read.remaining c.args.input.now) (text_left g.I.Read.remaining c.loop.reader)
    c.args.log.now c.loop.log (g.O.Write.contents c.args.output.now) (g.O.Write.contents c.loop.output) c.loop.ending _ c.loop.invariant.written

pub returns-in-Err-Failed-clause-stopped : goal.returns-in-Err-Failed-clause-stopped
returns-in-Err-Failed-clause-stopped g c =
    input_stopped c.args.kept.now.setup.now (g.I.Read.remaining c.args.input.now) (text_left g.I.Read.remaining c.loop.reader)
    c.args.log.now c.loop.log (g.O.Write.contents c.args.output.now) (g.O.Write.contents c.loop.output) c.loop.ending _ c.loop.invariant.written

pub returns-in_err-answer_group-clause-stopped : goal.returns-in_err-answer_group-clause-stopped
returns-in_err-answer_group-clause-stopped g c =
    let s = c.args.kept.now.setup.now in
    let inv = c.loop.invariant in
    let mid = g.O.Write.contents c.loop.output in
    let new = g.O.Write.contents c.answer_group.new.output in
    let group = bytes_of c.deref.result.now in
    let before = text_left g.I.Read.remaining c.loop.reader in
    let left = text_left g.I.Read.remaining c.next_lines.new.self in
    let brings : BringsLines before left group = subst (BringsLines before left) (ap bytes_of (sym c.deref.ensures.value)) c.in-Ok.ensures.brings in
    let p = err_from_is_err_and c.from_residual.result c.from_residual.ensures.1 in
    rw (p.1, p.2) (group_stopped s group (g.I.Read.remaining c.args.input.now) before left c.args.log.now c.loop.log c.answer_group.new.log (g.O.Write.contents c.args.output.now) mid new c.loop.ending c.in_err-answer_group.field-0.0
    inv.written brings (subst (λ (f : FolderSetup). AreFirstSent f group c.loop.log c.answer_group.new.log mid new c.in_err-answer_group.field-0.0) inv.setup c.in_err-answer_group.ensures.stopped))

pub returns-clause-stopped : goal.returns-clause-stopped
returns-clause-stopped g c =
    input_stopped c.args.kept.now.setup.now (g.I.Read.remaining c.args.input.now) (text_left g.I.Read.remaining c.loop.reader)
    c.args.log.now c.loop.log (g.O.Write.contents c.args.output.now) (g.O.Write.contents c.loop.output) c.loop.ending _ c.loop.invariant.written
