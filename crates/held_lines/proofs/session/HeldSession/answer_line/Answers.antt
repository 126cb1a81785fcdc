use Rattle.std.proofs.Common.{◌∙◌, sym}
use Rattle.held_lines.proofs.ReadingLemmas.{comment_asked, session_asks}
use Rattle.held_lines.proofs.session.HeldSession.answer_line.Goals as goal

pub returns-then-is_comment-clause-asking : goal.returns-then-is_comment-clause-asking
returns-then-is_comment-clause-asking c = λ watched.
    session_asks c.as_session.result c.args.self.now.setup.now c.args.self.now.holders.held.table c.args.line.now
    (comment_asked c.args.line.now (sym c.is_comment.ensures ∙ c.if-is_comment.true)) (c.as_session.ensures.idle watched)
