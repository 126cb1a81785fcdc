use Rattle.std.proofs.Common.{arith}
use Rattle.std.proofs.lemmas.Grind.{common_steps, elements}
use Rattle.alias_match.proofs.alias_list.places_by_marks.Goals as goal

pub loop-count-preserved : goal.loop-count-preserved
loop-count-preserved c = grind (arith, elements)

pub returns : goal.returns
returns c = grind (arith, common_steps)
