use Rattle.theorems.proofs.Telling.{made_and_told, met_asks_nothing}
use Rattle.theorems.proofs.told.managed_calls_are_told.Goals as goal

pub returns-clause-told : goal.returns-clause-told
returns-clause-told g c =
    let one = c.made-reply in
    let met = c.meet_at-told in
    made_and_told c.args.table.now.row c.args.call one.new.caller met.new.caller c.args.reader.view met.result.view met.ensures.met met.ensures.elsewhere one.result c.args.caller.now one.ensures.once

pub returns-clause-quiet : goal.returns-clause-quiet
returns-clause-quiet g c =
    let met = c.meet_at-told in
    met_asks_nothing c.args.table.now.row c.args.call _ _ c.args.reader.view met.result.view met.ensures.met
