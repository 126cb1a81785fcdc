use Rattle.std.proofs.Common.{◌∙◌, refl, ap}
use Rattle.hold_turns.specs.declared.call.State.TheVariants as state
use Rattle.hold_turns.proofs.TurnLemmas.{turn_then}
use Rattle.hold_turns.proofs.HandsLemmas.{quiet_turn, unlock_turn, begun_turn}
use Rattle.hold_turns.proofs.KnowLemmas.{free_knows, ready_none, owed_same}
use Rattle.hold_turns.specs.Course.{may_come}
use Rattle.hold_turns.proofs.call.Call.look.Goals as goal

pub returns-in_err-sees-clause-turn : goal.returns-in_err-sees-clause-turn
returns-in_err-sees-clause-turn g c = (quiet_turn c.args.number (g.T.Table.view c.args.table.now) (g.H.Hands.view c.args.hands.now) (g.H.Hands.view c.sees.new.self) c.requires.one c.sees.ensures.quiet)

pub unlock-requires : goal.unlock-requires
unlock-requires g c = record { idle = c.sees.ensures.quiet.acts c.args.number ∙ c.requires.ready.idle }

pub let_locks_go-requires : goal.let_locks_go-requires
let_locks_go-requires g c = c.sees.ensures.quiet.acts c.args.number ∙ c.requires.ready.idle

pub returns-then-branch-clause-turn : goal.returns-then-branch-clause-turn
returns-then-branch-clause-turn g c = turn_then (turn_then (quiet_turn c.args.number (g.T.Table.view c.args.table.now) (g.H.Hands.view c.args.hands.now) (g.H.Hands.view c.sees.new.self) c.requires.one c.sees.ensures.quiet) (unlock_turn c.args.number (g.T.Table.view c.args.table.now) (g.H.Hands.view c.sees.new.self) (g.H.Hands.view c.unlock.new.self) (quiet_turn c.args.number (g.T.Table.view c.args.table.now) (g.H.Hands.view c.args.hands.now) (g.H.Hands.view c.sees.new.self) c.requires.one c.sees.ensures.quiet).one (c.sees.ensures.quiet.acts c.args.number ∙ c.requires.ready.idle) c.unlock.ensures)) (begun_turn c.args.number c.args.self.now.holder.now c.args.self.now.modules.now (g.T.Table.view c.args.table.now) (g.H.Hands.view c.unlock.new.self) (g.H.Hands.view c.begin_reply.new.self) (turn_then (quiet_turn c.args.number (g.T.Table.view c.args.table.now) (g.H.Hands.view c.args.hands.now) (g.H.Hands.view c.sees.new.self) c.requires.one c.sees.ensures.quiet) (unlock_turn c.args.number (g.T.Table.view c.args.table.now) (g.H.Hands.view c.sees.new.self) (g.H.Hands.view c.unlock.new.self) (quiet_turn c.args.number (g.T.Table.view c.args.table.now) (g.H.Hands.view c.args.hands.now) (g.H.Hands.view c.sees.new.self) c.requires.one c.sees.ensures.quiet).one (c.sees.ensures.quiet.acts c.args.number ∙ c.requires.ready.idle) c.unlock.ensures)).one (owed_same c.args.number c.args.self.now.holder.now c.args.self.now.modules.now (g.T.Table.view c.args.table.now) (g.H.Hands.view c.args.hands.now) (g.H.Hands.view c.unlock.new.self) (c.unlock.ensures.events ∙ c.sees.ensures.quiet.events) c.requires.owed) c.begin_reply.ensures)

pub returns-clause-turn : goal.returns-clause-turn
returns-clause-turn g c = turn_then (quiet_turn c.args.number (g.T.Table.view c.args.table.now) (g.H.Hands.view c.args.hands.now) (g.H.Hands.view c.sees.new.self) c.requires.one c.sees.ensures.quiet) (unlock_turn c.args.number (g.T.Table.view c.args.table.now) (g.H.Hands.view c.sees.new.self) (g.H.Hands.view c.let_locks_go.new.hands) (quiet_turn c.args.number (g.T.Table.view c.args.table.now) (g.H.Hands.view c.args.hands.now) (g.H.Hands.view c.sees.new.self) c.requires.one c.sees.ensures.quiet).one (c.sees.ensures.quiet.acts c.args.number ∙ c.requires.ready.idle) c.let_locks_go.ensures.unlocks)

pub returns-clause-knows : goal.returns-clause-knows
returns-clause-knows g c = free_knows state.Locking c.args.number c.let_locks_go.new.self (g.T.Table.view c.args.table.now) (g.H.Hands.view c.let_locks_go.new.hands) (refl) c.let_locks_go.ensures.next (ready_none c.args.number _ (g.H.Hands.view c.let_locks_go.new.hands) c.let_locks_go.ensures.none (c.let_locks_go.ensures.unlocks.acts c.args.number ∙ (c.sees.ensures.quiet.acts c.args.number ∙ c.requires.ready.idle)))

pub returns-then-branch-clause-goes : goal.returns-then-branch-clause-goes
returns-then-branch-clause-goes g c = refl

pub returns-clause-goes : goal.returns-clause-goes
returns-clause-goes g c = ap (may_come state.Looking) c.let_locks_go.ensures.next
