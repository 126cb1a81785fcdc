use Rattle.std.proofs.Common.{sym, ap, subst, ◌∙◌, take, IfOk, OnErr}
use Rattle.line_journal.specs.Lines.{bytes_of}
use Rattle.file_journal.specs.Belief.{history_of}
use Rattle.gz_table_drive.specs.Answers.{StoppedWithin}
use Rattle.gz_table_drive.specs.Log.{IsJournalOf, LeavesAfter, LeavesOf}
use Rattle.gz_table_drive.proofs.AnswerLemmas.{on_err}
use Rattle.gz_table_drive.proofs.LogLemmas.{none_asked, noted_err, noted_ok}
use Rattle.gz_table_drive.proofs.tenure.answer_noted.Goals as goal

pub returns-in_err-begin_over-clause-stopped : goal.returns-in_err-begin_over-clause-stopped
returns-in_err-begin_over-clause-stopped g c =
    on_err c.from_residual.result
    (none_asked c.args.setup.now (bytes_of c.args.lines.now) c.args.log.now c.begin_over.new.log c.args.replies.now c.in_err-begin_over.ensures.none)

pub returns-clause-answered : goal.returns-clause-answered
returns-clause-answered g c =
    let f = c.args.setup.now in
    let held = c.args.table.now.session.holders.held in
    let lines = bytes_of c.args.lines.now in
    let belief = sym (c.believed.ensures ∙ ap (λ device. device.belief) c.device-2.ensures) in
    noted_ok f held lines c.believed.result.value c.args.log.now c.begin_over.new.log c.end.new.self c.args.replies.now c.answer_table-answered.new.replies c.answer_table-answered.result (
      c.device.result.now.belief.bytes.items,
      c.in_ok-begin_over.ensures.begun,
      subst (λ device. IsJournalOf f held device.belief.bytes.items) (sym c.device.ensures) (record { stands = c.requires.stands.same; of = c.requires.of }),
    )
    c.end.ensures c.answer_table-answered.ensures.answered
    (subst (λ belief. IfOk c.answer_table-answered.result (λ done. LeavesAfter f.setup held (take done.0 lines) belief)) belief c.answer_table-answered.ensures.left)
    (subst (LeavesOf f) belief c.answer_table-answered.ensures.left_of)

pub returns-clause-stopped : goal.returns-clause-stopped
returns-clause-stopped g c =
    let f = c.args.setup.now in
    let held = c.args.table.now.session.holders.held in
    let lines = bytes_of c.args.lines.now in
    let new = c.answer_table-answered.new.replies in
    let belief = sym (c.believed.ensures ∙ ap (λ device. device.belief) c.device-2.ensures) in
    noted_err f held lines c.believed.result.value c.args.log.now c.begin_over.new.log c.end.new.self c.args.replies.now new c.answer_table-answered.result (
      c.device.result.now.belief.bytes.items,
      c.in_ok-begin_over.ensures.begun,
      subst (λ device. IsJournalOf f held device.belief.bytes.items) (sym c.device.ensures) (record { stands = c.requires.stands.same; of = c.requires.of }),
    )
    c.end.ensures
    (subst (λ belief. OnErr c.answer_table-answered.result (StoppedWithin f.setup held lines (history_of belief).leaves c.args.replies.now new)) belief c.answer_table-answered.ensures.stopped)
    (subst (LeavesOf f) belief c.answer_table-answered.ensures.left_of)
