use Rattle.std.proofs.Common.{arith}
use Rattle.std.proofs.lemmas.Grind.{common_steps}
use Rattle.kmod_index.proofs.TrieLemmas.{in_order_push}
use Rattle.kmod_index.proofs.trie_order.in_order.Goals as goal

pub loop-line-preserved : goal.loop-line-preserved
loop-line-preserved c = grind (arith, common_steps, in_order_push)
