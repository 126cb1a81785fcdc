use Rattle.std.proofs.Common.{arith, sym, ap, subst, ◌∙◌, map, Some}
use Rattle.std.proofs.lemmas.List.{take-map, length-map}
use Rattle.line_journal.specs.Lines.{bytes_of}
use Rattle.held_lines.specs.declared.reply.HeldReply.{HeldReply}
use Rattle.durable_table.specs.Tables.{table_of}
use Rattle.gz_table_drive.specs.Answers.{HasMore}
use Rattle.gz_table_drive.proofs.AnswerLemmas.{stopped_before, stopped_after}
use Rattle.gz_table_drive.proofs.answering.answer_group.Goals as goal

pub returns-in-Err-OutOfMemory-clause-stopped : goal.returns-in-Err-OutOfMemory-clause-stopped
returns-in-Err-OutOfMemory-clause-stopped g c =
    let s = c.args.table.now.session.setup.now in
    let h = c.args.table.now.session.holders.held in
    stopped_before s h (bytes_of c.args.group.now) (g.D.Device.history c.args.table.now.journal.lines.device) (g.D.Device.history c.perform_all.new.self.journal.lines.device) c.args.replies.now
    c.perform_all.ensures.any_moment

pub returns-in-Err-Device-clause-stopped : goal.returns-in-Err-Device-clause-stopped
returns-in-Err-Device-clause-stopped g c =
    let s = c.args.table.now.session.setup.now in
    let h = c.args.table.now.session.holders.held in
    stopped_before s h (bytes_of c.args.group.now) (g.D.Device.history c.args.table.now.journal.lines.device) (g.D.Device.history c.perform_all.new.self.journal.lines.device) c.args.replies.now
    c.perform_all.ensures.any_moment

pub returns-clause-stopped : goal.returns-clause-stopped
returns-clause-stopped g c =
    let s = c.args.table.now.session.setup.now in
    let h = c.args.table.now.session.holders.held in
    let answered = c.deref.result.now in
    let replies = map (λ (r : HeldReply). r.reply) answered in
    let made = c.in-Ok.ensures in
    let stopped = c.in-Err.ensures.err in
    stopped_after s h (bytes_of c.args.group.now) (g.D.Device.history c.perform_all.new.self.journal.lines.device).leaves stopped.0 replies c.args.replies.now c.add_all.new.self
    (ap (map (λ (r : HeldReply). r.reply)) c.deref.ensures.value ∙ made.replies)
    (omega (arith, stopped.1, length-map answered (λ (r : HeldReply). r.reply)))
    (subst (λ first. HasMore first c.args.replies.now c.add_all.new.self) (sym (take-map (λ (r : HeldReply). r.reply) stopped.0 answered)) stopped.2)
    (λ file left. ap (table_of s) (made.stands.ready.on_disk file left) ∙ made.stands.same ∙ ap Some made.becomes)
