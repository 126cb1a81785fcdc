use Rattle.load_plan.proofs.Cuts.{row_within}
use Rattle.load_plan.proofs.graph.DependencyGraph.targets.Goals as goal

pub returns-in-Pre-clause-within : goal.returns-in-Pre-clause-within
returns-in-Pre-clause-within c =
    (row_within c.self.inside.targets.items c.deref.result.now c.self.inside.rows c.args.self.now c.args.slot c.at-row.result
    c.self.view_is c.self.invariant.are_rows.bounded c.requires c.at-row.ensures c.deref.ensures.value).1

pub returns-in-Hard-clause-within : goal.returns-in-Hard-clause-within
returns-in-Hard-clause-within c =
    (row_within c.self.inside.targets.items c.deref-in-Hard.result.now c.self.inside.rows c.args.self.now c.args.slot c.at-row.result
    c.self.view_is c.self.invariant.are_rows.bounded c.requires c.at-row.ensures c.deref-in-Hard.ensures.value).0

pub returns-in-Post-clause-within : goal.returns-in-Post-clause-within
returns-in-Post-clause-within c =
    (row_within c.self.inside.targets.items c.deref-in-Post.result.now c.self.inside.rows c.args.self.now c.args.slot c.at-row.result
    c.self.view_is c.self.invariant.are_rows.bounded c.requires c.at-row.ensures c.deref-in-Post.ensures.value).2
