use Rattle.std.proofs.Common.{arith}
use Rattle.std.proofs.lemmas.Grind.{common_steps}
use Rattle.modprobe_words.specs.Words.{word_read}
use Rattle.modprobe_words.proofs.words.push_word.Goals as goal

pub returns-then-starts_with-clause-items : goal.returns-then-starts_with-clause-items
unfolding word_read
returns-then-starts_with-clause-items c = grind (arith, common_steps)

pub returns-then-starts_with-clause-waiting : goal.returns-then-starts_with-clause-waiting
unfolding word_read
returns-then-starts_with-clause-waiting c = grind (arith, common_steps)

pub returns-then-word-gt1-clause-items : goal.returns-then-word-gt1-clause-items
unfolding word_read
returns-then-word-gt1-clause-items c = grind (arith, common_steps)

pub returns-then-word-gt1-clause-waiting : goal.returns-then-word-gt1-clause-waiting
unfolding word_read
returns-then-word-gt1-clause-waiting c = grind (arith, common_steps)
