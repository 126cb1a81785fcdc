use Rattle.std.proofs.Common.{rules}
use Rattle.std.specs.Arc.{arc_value}
use Rattle.dep_index.specs.Refusals.{reply_of, cancel_remove_refusal}
use Rattle.root_row.specs.declared.calls.BookCall.TheVariants.{CancelRemove}
use Rattle.managed_table.proofs.Trying.{book_tried}
use Rattle.managed_table.proofs.own_caller.OwnCaller.cancel_remove.Goals as goal

pub returns-clause-call : goal.returns-clause-call
returns-clause-call c =
    book_tried (arc_value c.self.inside.table) c.self.inside.caller _ c.try_slot_turn.new.caller c.self.view_is c.self.invariant _ c.try_slot_turn.result
    c.args.slot c.args.tries CancelRemove (λ r. reply_of cancel_remove_refusal r) c.try_slot_turn.ensures.turn (λ r x y h. search rules)
