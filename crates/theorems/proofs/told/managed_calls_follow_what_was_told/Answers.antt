use Rattle.theorems.proofs.Telling.{heard_and_made, met_asks_nothing}
use Rattle.theorems.proofs.told.managed_calls_follow_what_was_told.Goals as goal

pub returns-clause-heard : goal.returns-clause-heard
returns-clause-heard g c =
    let met = c.meet_at-heard in
    heard_and_made c.args.table.now.row c.args.call c.args.caller.now met.new.caller c.args.reader.view met.result.view met.ensures.met met.ensures.elsewhere c.made-answer.result c.made-answer.new.caller c.made-answer.ensures.once

pub returns-clause-quiet : goal.returns-clause-quiet
returns-clause-quiet g c =
    let met = c.meet_at-heard in
    met_asks_nothing c.args.table.now.row c.args.call _ _ c.args.reader.view met.result.view met.ensures.met
