use Rattle.std.proofs.Common.{◌∙◌}
use Rattle.std.proofs.lemmas.Result.{IfOk-weaker}
use Rattle.answer_diff.proofs.AnswerLemmas.{answer-same}
use Rattle.answer_diff.proofs.answering.answer_to_words.Goals as goal

pub returns : goal.returns
returns c =
    λ name is. IfOk-weaker c.answer_to.result _ _ (λ answer own. own ∙ answer-same c.args.world.now c.args.query.now c.args.words name is) c.answer_to.ensures
