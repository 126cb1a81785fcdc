use Rattle.std.proofs.Common.{true, false}
use Rattle.hold_turns.proofs.KnowLemmas.{all_turned}
use Rattle.hold_turns.proofs.CourseLemmas.{turns_one, turns_none}
use Rattle.hold_turns.proofs.run.take_turn.Goals as goal

pub turn-requires-clause-one : goal.turn-requires-clause-one
turn-requires-clause-one g c = c.requires.one

pub turn-requires-clause-knows : goal.turn-requires-clause-knows
turn-requires-clause-knows g c = c.requires.know c.args.number c.index-calls-number.result c.if-number-calls.true

pub returns-then-number-calls-clause-one : goal.returns-then-number-calls-clause-one
returns-then-number-calls-clause-one g c = c.turn.ensures.turn.one

pub returns-then-number-calls-clause-know : goal.returns-then-number-calls-clause-know
returns-then-number-calls-clause-know g c = all_turned c.args.calls.now c.args.number c.turn.new.self (g.T.Table.view c.args.table.now) (g.T.Table.view c.turn.new.table) (g.H.Hands.view c.args.hands.now) (g.H.Hands.view c.turn.new.hands) c.requires.know c.turn.ensures.turn.others c.if-number-calls.true c.turn.ensures.knows

pub returns-then-number-calls-clause-turns : goal.returns-then-number-calls-clause-turns
returns-then-number-calls-clause-turns g c = turns_one c.args.calls.now c.args.number c.index-calls-number.result c.turn.new.self c.if-number-calls.true c.turn.ensures.goes

pub returns-else-number-calls-clause-one : goal.returns-else-number-calls-clause-one
returns-else-number-calls-clause-one g c = c.requires.one

pub returns-else-number-calls-clause-know : goal.returns-else-number-calls-clause-know
returns-else-number-calls-clause-know g c = c.requires.know

pub returns-else-number-calls-clause-turns : goal.returns-else-number-calls-clause-turns
returns-else-number-calls-clause-turns g c = turns_none c.args.calls.now c.args.number c.if-number-calls.false
