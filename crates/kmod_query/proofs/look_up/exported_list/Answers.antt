use Rattle.std.proofs.Common.{arith}
use Rattle.std.proofs.lemmas.Grind.{common_steps}
use Rattle.kmod_query.specs.World.{facts_of}
use Rattle.kmod_query.proofs.look_up.exported_list.Goals as goal

pub returns-then-len-gt0 : goal.returns-then-len-gt0
unfolding facts_of
returns-then-len-gt0 c = grind (arith, common_steps)

pub returns-then-has_install_named : goal.returns-then-has_install_named
unfolding facts_of
returns-then-has_install_named c = grind (arith, common_steps)

pub returns : goal.returns
unfolding facts_of
returns c = grind (arith, common_steps)
