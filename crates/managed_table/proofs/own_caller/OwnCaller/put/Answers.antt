use Rattle.std.proofs.Common.{rules}
use Rattle.std.specs.Arc.{arc_value}
use Rattle.dep_index.specs.Refusals.{reply_of, put_refusal}
use Rattle.root_row.specs.declared.calls.LeafCall.TheVariants.{Put}
use Rattle.managed_table.proofs.Trying.{leaf_tried}
use Rattle.managed_table.proofs.own_caller.OwnCaller.put.Goals as goal

pub returns-clause-call : goal.returns-clause-call
returns-clause-call c =
    leaf_tried (arc_value c.self.inside.table) c.self.inside.caller _ c.try_leaf_turn.new.caller c.self.view_is c.self.invariant _ c.try_leaf_turn.result
    c.args.worker c.args.slot c.args.tries Put (λ r. reply_of put_refusal r) c.try_leaf_turn.ensures.turn (λ r x y h. search rules)
