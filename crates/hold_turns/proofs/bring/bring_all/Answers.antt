use Rattle.std.proofs.Common.{◌∙◌, true}
use Rattle.hold_turns.proofs.TurnLemmas.{quiet_stay, quiet_then, turn_stay, turn_then}
use Rattle.hold_turns.proofs.bring.bring_all.Goals as goal

pub loop-slot-init : goal.loop-slot-init
loop-slot-init g c = record { turn = turn_stay c.args.number (g.T.Table.view c.args.table.now) (g.H.Hands.view c.args.hands.now) c.requires.one; quiet = quiet_stay (g.H.Hands.view c.args.hands.now) }

pub bring_one-requires-clause-one : goal.bring_one-requires-clause-one
bring_one-requires-clause-one g c = c.loop-slot.invariant.turn.one

pub bring_one-requires-clause-locked : goal.bring_one-requires-clause-locked
bring_one-requires-clause-locked g c = c.loop-slot.invariant.quiet.locks _ _ (c.requires.ready.locks c.loop-slot.slot-index 0 c.loop-slot-test.true)

pub bring_one-requires-clause-idle : goal.bring_one-requires-clause-idle
bring_one-requires-clause-idle g c = c.loop-slot.invariant.quiet.acts c.args.number ∙ c.requires.ready.idle

pub returns-in_err-bring_one-clause-turn : goal.returns-in_err-bring_one-clause-turn
returns-in_err-bring_one-clause-turn g c = turn_then c.loop-slot.invariant.turn c.bring_one.ensures.turn

pub returns-in_err-bring_one-clause-quiet : goal.returns-in_err-bring_one-clause-quiet
returns-in_err-bring_one-clause-quiet g c = quiet_then c.loop-slot.invariant.quiet c.bring_one.ensures.quiet

pub loop-slot-preserved : goal.loop-slot-preserved
loop-slot-preserved g c = record { turn = turn_then c.loop-slot.invariant.turn c.bring_one.ensures.turn; quiet = quiet_then c.loop-slot.invariant.quiet c.bring_one.ensures.quiet }

pub returns-clause-turn : goal.returns-clause-turn
returns-clause-turn g c = c.loop-slot.invariant.turn

pub returns-clause-quiet : goal.returns-clause-quiet
returns-clause-quiet g c = c.loop-slot.invariant.quiet
