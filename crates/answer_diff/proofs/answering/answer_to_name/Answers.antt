use Rattle.std.proofs.Common.{refl}
use Rattle.answer_diff.proofs.answering.answer_to_name.Goals as goal

pub returns : goal.returns
returns c = c.answer_to_words.ensures c.args.name.now refl
