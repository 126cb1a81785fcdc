use Rattle.hold_turns.proofs.TurnLemmas.{turn_then}
use Rattle.hold_turns.proofs.TableLemmas.{read_turn}
use Rattle.hold_turns.proofs.call.Call.step.Goals as goal

pub returns-in_err-next-clause-turn : goal.returns-in_err-next-clause-turn
returns-in_err-next-clause-turn g c = (read_turn c.args.number (g.T.Table.view c.args.table.now) (g.T.Table.view c.first_of.new.table) (g.H.Hands.view c.args.hands.now) c.first_of.ensures c.requires.one)

pub step_at-requires-clause-one : goal.step_at-requires-clause-one
step_at-requires-clause-one g c = (read_turn c.args.number (g.T.Table.view c.args.table.now) (g.T.Table.view c.first_of.new.table) (g.H.Hands.view c.args.hands.now) c.first_of.ensures c.requires.one).one

pub step_at-requires-clause-ready : goal.step_at-requires-clause-ready
step_at-requires-clause-ready g c = c.requires.ready

pub end_plan-requires-clause-one : goal.end_plan-requires-clause-one
end_plan-requires-clause-one g c = (read_turn c.args.number (g.T.Table.view c.args.table.now) (g.T.Table.view c.first_of.new.table) (g.H.Hands.view c.args.hands.now) c.first_of.ensures c.requires.one).one

pub end_plan-requires-clause-ready : goal.end_plan-requires-clause-ready
end_plan-requires-clause-ready g c = c.requires.ready

pub returns-in-Some-clause-turn : goal.returns-in-Some-clause-turn
returns-in-Some-clause-turn g c = turn_then (read_turn c.args.number (g.T.Table.view c.args.table.now) (g.T.Table.view c.first_of.new.table) (g.H.Hands.view c.args.hands.now) c.first_of.ensures c.requires.one) c.step_at.ensures.turn

pub returns-in-Some-clause-knows : goal.returns-in-Some-clause-knows
returns-in-Some-clause-knows g c = c.step_at.ensures.knows

pub returns-in-None-clause-turn : goal.returns-in-None-clause-turn
returns-in-None-clause-turn g c = turn_then (read_turn c.args.number (g.T.Table.view c.args.table.now) (g.T.Table.view c.first_of.new.table) (g.H.Hands.view c.args.hands.now) c.first_of.ensures c.requires.one) c.end_plan.ensures.turn

pub returns-in-None-clause-knows : goal.returns-in-None-clause-knows
returns-in-None-clause-knows g c = c.end_plan.ensures.knows

pub returns-in-Some-clause-goes : goal.returns-in-Some-clause-goes
returns-in-Some-clause-goes g c = c.step_at.ensures.goes

pub returns-in-None-clause-goes : goal.returns-in-None-clause-goes
returns-in-None-clause-goes g c = c.end_plan.ensures.goes
