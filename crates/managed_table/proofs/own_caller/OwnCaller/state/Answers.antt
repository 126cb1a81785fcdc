use Rattle.std.proofs.Common.{rules, ◌≡◌, ap, ◌∙◌}
use Rattle.std.specs.Arc.{arc_value}
use Rattle.dep_index.specs.Table.{state_of}
use Rattle.root_row.specs.Views.{book_of}
use Rattle.managed_table.specs.Shown.{IsInState}
use Rattle.managed_table.proofs.Trying.{slot_looked}
use Rattle.managed_table.proofs.own_caller.OwnCaller.state.Goals as goal

pub returns-clause-shown : goal.returns-clause-shown
returns-clause-shown c =
    slot_looked (arc_value c.self.inside.table) c.self.inside.caller _ c.try_slot_turn.new.caller c.self.view_is c.self.invariant _ c.try_slot_turn.result
    c.args.slot c.args.tries (λ r. IsInState c.args.slot r) c.try_slot_turn.ensures.turn
    (λ r x y h. (search rules, search rules, λ t e. ap (λ b. state_of b c.args.slot) e ∙ (let told : state_of (book_of x.view) c.args.slot ≡ r = search rules in told)))
