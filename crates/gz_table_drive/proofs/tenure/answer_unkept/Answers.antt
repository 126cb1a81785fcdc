use Rattle.std.proofs.Common.{refl, sym, ap, subst, ◌∙◌, take, IfOk, OnErr}
use Rattle.line_journal.specs.Lines.{bytes_of}
use Rattle.gz_table_drive.specs.Answers.{HasAnswered, HasAnsweredFirst}
use Rattle.gz_table_drive.specs.Log.{IsJournalOf}
use Rattle.gz_table_drive.proofs.AnswerLemmas.{on_err}
use Rattle.gz_table_drive.proofs.LogLemmas.{asked_err, asked_ok, none_asked}
use Rattle.gz_table_drive.proofs.tenure.answer_unkept.Goals as goal

pub returns-in_err-lock-in-None-clause-stopped : goal.returns-in_err-lock-in-None-clause-stopped
returns-in_err-lock-in-None-clause-stopped g c =
    on_err c.from_residual.result (none_asked c.args.setup.now (bytes_of c.args.lines.now) c.args.log.now c.args.log.now c.args.replies.now refl)

pub returns-in_err-bytes-clause-stopped : goal.returns-in_err-bytes-clause-stopped
returns-in_err-bytes-clause-stopped g c =
    on_err c.from_residual-in_err-bytes.result (none_asked c.args.setup.now (bytes_of c.args.lines.now) c.args.log.now c.args.log.now c.args.replies.now refl)

pub returns-in_err-table-clause-stopped : goal.returns-in_err-table-clause-stopped
returns-in_err-table-clause-stopped g c =
    on_err c.from_residual-in_err-table.result (none_asked c.args.setup.now (bytes_of c.args.lines.now) c.args.log.now c.args.log.now c.args.replies.now refl)

pub returns-in_err-begin-clause-stopped : goal.returns-in_err-begin-clause-stopped
returns-in_err-begin-clause-stopped g c =
    on_err c.from_residual-in_err-begin.result
    (none_asked c.args.setup.now (bytes_of c.args.lines.now) c.args.log.now c.begin.new.self c.args.replies.now c.in_err-begin.ensures.err)

pub returns-clause-answered : goal.returns-clause-answered
returns-clause-answered g c =
    let held = c.in_ok-table.table.session.holders.held in
    let lines = bytes_of c.args.lines.now in
    asked_ok c.args.setup.now held lines c.args.log.now c.begin.new.self c.args.replies.now c.answer_copy.new.replies c.answer_copy.result
    (_, c.in_ok-begin.ensures.ok, subst (λ bytes. IsJournalOf c.args.setup.now held bytes.items) (sym c.in_ok-bytes.ensures.sight) (record { stands = c.in_ok-table.ensures.same; of = c.in_ok-table.ensures.of })) c.requires.asks
    (subst (λ s. IfOk c.answer_copy.result (λ count. HasAnswered s held (take count lines) c.args.replies.now c.answer_copy.new.replies)) c.in_ok-table.ensures.setup c.answer_copy.ensures.answered)

pub returns-clause-stopped : goal.returns-clause-stopped
returns-clause-stopped g c =
    let held = c.in_ok-table.table.session.holders.held in
    let lines = bytes_of c.args.lines.now in
    asked_err c.args.setup.now held lines c.args.log.now c.begin.new.self c.args.replies.now c.answer_copy.new.replies c.answer_copy.result
    (_, c.in_ok-begin.ensures.ok, subst (λ bytes. IsJournalOf c.args.setup.now held bytes.items) (sym c.in_ok-bytes.ensures.sight) (record { stands = c.in_ok-table.ensures.same; of = c.in_ok-table.ensures.of })) c.requires.asks
    (subst (λ s. OnErr c.answer_copy.result (HasAnsweredFirst s held lines c.args.replies.now c.answer_copy.new.replies)) c.in_ok-table.ensures.setup c.answer_copy.ensures.stopped)
