use Rattle.std.proofs.Common.{[], subst, ◌∙◌, take, IfOk, OnErr}
use Rattle.line_journal.specs.Lines.{bytes_of}
use Rattle.table_folder.specs.declared.folder_setup.FolderSetup.{FolderSetup}
use Rattle.gz_table_drive.specs.Answers.{HasAnswered, HasAnsweredFirst}
use Rattle.gz_table_drive.specs.Log.{HasTold, HasToldFirst}
use Rattle.gz_table_drive.proofs.LogLemmas.{asked_err, asked_ok, err_after, ok_after}
use Rattle.gz_table_drive.proofs.tenure.answer_reading.Goals as goal

pub returns-in-Ok-clause-answered : goal.returns-in-Ok-clause-answered
returns-in-Ok-clause-answered g c =
    let held = c.in-Ok.table.session.holders.held in
    let lines = bytes_of c.args.lines.now in
    asked_ok c.args.kept.now.setup.now held lines c.args.log.now c.reading_table.new.log c.args.replies.now c.ask_table.new.replies c.ask_table.result c.in-Ok.ensures.begun c.requires.asks
    (subst (λ (f : FolderSetup). IfOk c.ask_table.result (λ count. HasAnswered f.setup held (take count lines) c.args.replies.now c.ask_table.new.replies)) c.reading_table.ensures.setup c.ask_table.ensures.answered)

pub returns-in-Ok-clause-stopped : goal.returns-in-Ok-clause-stopped
returns-in-Ok-clause-stopped g c =
    let held = c.in-Ok.table.session.holders.held in
    let lines = bytes_of c.args.lines.now in
    asked_err c.args.kept.now.setup.now held lines c.args.log.now c.reading_table.new.log c.args.replies.now c.ask_table.new.replies c.ask_table.result c.in-Ok.ensures.begun c.requires.asks
    (subst (λ (f : FolderSetup). OnErr c.ask_table.result (HasAnsweredFirst f.setup held lines c.args.replies.now c.ask_table.new.replies)) c.reading_table.ensures.setup c.ask_table.ensures.stopped)

pub returns-in-Err-clause-answered : goal.returns-in-Err-clause-answered
returns-in-Err-clause-answered g c =
    let lines = bytes_of c.args.lines.now in
    ok_after c.args.kept.now.setup.now lines c.args.log.now c.reading_table.new.log c.answer_unkept.new.log c.args.replies.now c.answer_unkept.new.replies c.answer_unkept.result c.in-Err.ensures.none
    (subst (λ s. IfOk c.answer_unkept.result (λ count. HasTold s (take count lines) [] c.reading_table.new.log c.answer_unkept.new.log c.args.replies.now c.answer_unkept.new.replies))
    (c.setup.ensures ∙ c.reading_table.ensures.setup) c.answer_unkept.ensures.answered)

pub returns-in-Err-clause-stopped : goal.returns-in-Err-clause-stopped
returns-in-Err-clause-stopped g c =
    let lines = bytes_of c.args.lines.now in
    err_after c.args.kept.now.setup.now lines c.args.log.now c.reading_table.new.log c.answer_unkept.new.log c.args.replies.now c.answer_unkept.new.replies c.answer_unkept.result c.in-Err.ensures.none
    (subst (λ s. OnErr c.answer_unkept.result (HasToldFirst s lines c.reading_table.new.log c.answer_unkept.new.log c.args.replies.now c.answer_unkept.new.replies))
    (c.setup.ensures ∙ c.reading_table.ensures.setup) c.answer_unkept.ensures.stopped)
