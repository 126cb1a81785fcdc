use Rattle.theorems.proofs.Holding.{all_know}
use Rattle.theorems.proofs.kernel.answered_holds_keep_modules.Goals as goal

pub holds_keep_modules-requires-clause-know : goal.holds_keep_modules-requires-clause-know
holds_keep_modules-requires-clause-know g c = all_know c.args.calls.now (g.T.Table.view c.args.table.now) (g.H.Hands.view c.args.hands.now) c.requires.new
