use Rattle.std.proofs.Common.{sym, subst}
use Rattle.std.proofs.lemmas.Result.{IfOk-weaker}
use Rattle.held_lines.specs.declared.reply.HeldReply.{HeldReply}
use Rattle.held_table.specs.Held.{Held}
use Rattle.held_lines.specs.Laws.{KeepsHeld}
use Rattle.held_lines.specs.Outcomes.{held_line_outcome}
use Rattle.held_lines.specs.ForProofs.{Answers}
use Rattle.held_lines.proofs.LawLemmas.{KeepsOne, line_keeps, keeps_held}
use Rattle.held_lines.proofs.session.HeldSession.perform.Goals as goal

pub returns-clause-held : goal.returns-clause-held
returns-clause-held c =
    let s = c.args.self.now.setup.now in
    let line = c.args.line.now in
    let old = c.args.self.now.holders in
    let new = c.answer_line-answer.new.self.holders in
    let before : Held = old.held in
    let after : Held = new.held in
    IfOk-weaker c.answer_line-answer.result (λ (r : HeldReply). Answers r before after (held_line_outcome s before line)) (λ (r : HeldReply). KeepsHeld before.table after.table)
    (λ r answers.
    keeps_held _ _ before.table after.table c.laws.ensures.lawful c.laws-2.ensures.lawful
    (subst (λ (h : Held). KeepsOne before.table h.table) (sym answers.leaves) (line_keeps s before line)))
    c.answer_line-answer.ensures.answers
