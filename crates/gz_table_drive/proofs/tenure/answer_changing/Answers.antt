use Rattle.std.proofs.Common.{[], refl, subst, ◌∙◌, take}
use Rattle.line_journal.specs.Lines.{bytes_of}
use Rattle.table_folder.specs.declared.folder_setup.FolderSetup.{FolderSetup}
use Rattle.gz_table_drive.specs.Log.{HasTold, HasToldFirst}
use Rattle.gz_table_drive.proofs.AnswerLemmas.{on_err}
use Rattle.gz_table_drive.proofs.LogLemmas.{none_asked}
use Rattle.gz_table_drive.proofs.tenure.answer_changing.Goals as goal

pub returns-in_err-table-clause-stopped : goal.returns-in_err-table-clause-stopped
returns-in_err-table-clause-stopped g c =
    on_err c.from_residual.result (none_asked c.args.kept.now.setup.now (bytes_of c.args.lines.now) c.args.log.now c.args.log.now c.args.replies.now refl)

pub returns-after-may_keep-clause-answered : goal.returns-after-may_keep-clause-answered
returns-after-may_keep-clause-answered g c =
    subst (λ (f : FolderSetup). HasTold f (take c.in-Ok.count (bytes_of c.args.lines.now)) [] c.args.log.now c.answer_noted.new.log c.args.replies.now c.answer_noted.new.replies)
    (c.setup-setup.ensures ∙ c.changing_table.ensures.setup) c.in-Ok.ensures.answered

pub returns-in-Err-clause-stopped : goal.returns-in-Err-clause-stopped
returns-in-Err-clause-stopped g c =
    subst (λ (f : FolderSetup). HasToldFirst f (bytes_of c.args.lines.now) c.args.log.now c.answer_noted.new.log c.args.replies.now c.answer_noted.new.replies)
    (c.setup-setup.ensures ∙ c.changing_table.ensures.setup) c.in-Err.ensures.stopped
