use Rattle.std.proofs.Common.{◌∙◌, refl, ap}
use Rattle.hold_turns.specs.declared.call.State.TheVariants as state
use Rattle.hold_turns.specs.declared.call.End.TheVariants as the_end
use Rattle.hold_turns.proofs.TurnLemmas.{turn_stay, turn_then}
use Rattle.hold_turns.proofs.HandsLemmas.{unlock_turn}
use Rattle.hold_turns.proofs.KnowLemmas.{free_knows, ready_none}
use Rattle.hold_turns.specs.Course.{may_come}
use Rattle.hold_turns.proofs.call.Call.end_plan.Goals as goal

pub let_locks_go-requires : goal.let_locks_go-requires
let_locks_go-requires g c = c.requires.ready.idle

pub returns-in-Remove-clause-turn : goal.returns-in-Remove-clause-turn
returns-in-Remove-clause-turn g c = turn_then (turn_stay c.args.number (g.T.Table.view c.args.table.now) (g.H.Hands.view c.args.hands.now) c.requires.one) (unlock_turn c.args.number (g.T.Table.view c.args.table.now) (g.H.Hands.view c.args.hands.now) (g.H.Hands.view c.let_locks_go.new.hands) (turn_stay c.args.number (g.T.Table.view c.args.table.now) (g.H.Hands.view c.args.hands.now) c.requires.one).one (c.requires.ready.idle) c.let_locks_go.ensures.unlocks)

pub returns-in-Remove-clause-knows : goal.returns-in-Remove-clause-knows
returns-in-Remove-clause-knows g c = free_knows (state.Over the_end.Done) c.args.number c.let_locks_go.new.self (g.T.Table.view c.args.table.now) (g.H.Hands.view c.let_locks_go.new.hands) (refl) c.let_locks_go.ensures.next (ready_none c.args.number _ (g.H.Hands.view c.let_locks_go.new.hands) c.let_locks_go.ensures.none (c.let_locks_go.ensures.unlocks.acts c.args.number ∙ c.requires.ready.idle))

pub returns-in-Get-clause-turn : goal.returns-in-Get-clause-turn
returns-in-Get-clause-turn g c = (turn_stay c.args.number (g.T.Table.view c.args.table.now) (g.H.Hands.view c.args.hands.now) c.requires.one)

pub returns-in-Get-clause-knows : goal.returns-in-Get-clause-knows
returns-in-Get-clause-knows g c = c.requires.ready

pub returns-in-Remove-clause-goes : goal.returns-in-Remove-clause-goes
returns-in-Remove-clause-goes g c = ap (may_come state.Stepping) c.let_locks_go.ensures.next

pub returns-in-Get-clause-goes : goal.returns-in-Get-clause-goes
returns-in-Get-clause-goes g c = refl
