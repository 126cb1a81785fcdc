use Rattle.theorems.proofs.Telling.{in_order, asks_nothing_twice}
use Rattle.theorems.proofs.told.calls_told_are_in_order.Goals as goal

pub returns-clause-in_order : goal.returns-clause-in_order
returns-clause-in_order g c =
    let one = c.managed_calls_are_told-reply in
    let other = c.managed_calls_follow_what_was_told-answer in
    in_order c.args.table.now.row c.args.call one.result.0 c.args.first.now one.new.caller c.args.later other.result.0 c.args.second.now other.new.caller c.args.reader.view one.result.1.view one.ensures.told other.ensures.heard

pub returns-clause-quiet : goal.returns-clause-quiet
returns-clause-quiet g c =
    let one = c.managed_calls_are_told-reply in
    let other = c.managed_calls_follow_what_was_told-answer in
    asks_nothing_twice c.args.reader.view one.result.1.view other.result.1.view one.ensures.quiet other.ensures.quiet
