use Rattle.std.proofs.Common.{arith, ne_eqb}
use Rattle.root_row.specs.Views.{count_of}
use Rattle.theorems.proofs.Loading.{otherwise}
use Rattle.theorems.proofs.loads.gets_of_held_modules_make_one_load.Goals as goal

pub returns-clause-load : goal.returns-clause-load
returns-clause-load g c = otherwise _ _ _ (ne_eqb (count_of c.args.leaf.now.view c.args.slot) 0 (λ e. omega (arith, e, c.requires.held))) c.get.ensures.steps
