use Rattle.std.proofs.Common.{◌∙◌, refl, ap, true}
use Rattle.hold_turns.specs.declared.call.State.TheVariants as state
use Rattle.hold_turns.proofs.TurnLemmas.{turn_then}
use Rattle.hold_turns.proofs.HandsLemmas.{unlock_turn}
use Rattle.hold_turns.proofs.TableLemmas.{hold_turn, owed_held}
use Rattle.hold_turns.proofs.KnowLemmas.{free_knows, ready_none}
use Rattle.hold_turns.specs.Course.{may_come}
use Rattle.hold_turns.proofs.call.Call.hold.Goals as goal

pub returns-in_err-hold-clause-turn : goal.returns-in_err-hold-clause-turn
returns-in_err-hold-clause-turn g c = (hold_turn c.args.number c.args.self.now.holder.now c.args.self.now.modules.now (g.T.Table.view c.args.table.now) (g.T.Table.view c.hold.new.self) (g.H.Hands.view c.args.hands.now) c.requires.one c.hold.ensures.may)

pub returns-then-branch-clause-turn : goal.returns-then-branch-clause-turn
returns-then-branch-clause-turn g c = (hold_turn c.args.number c.args.self.now.holder.now c.args.self.now.modules.now (g.T.Table.view c.args.table.now) (g.T.Table.view c.hold.new.self) (g.H.Hands.view c.args.hands.now) c.requires.one c.hold.ensures.may)

pub returns-then-branch-clause-knows : goal.returns-then-branch-clause-knows
returns-then-branch-clause-knows g c = (c.requires.ready, owed_held c.args.number c.args.self.now.holder.now c.args.self.now.modules.now (g.T.Table.view c.hold.new.self) (g.H.Hands.view c.args.hands.now) (c.in_ok-hold.ensures.all c.if-branch.true))

pub let_locks_go-requires : goal.let_locks_go-requires
let_locks_go-requires g c = c.requires.ready.idle

pub returns-clause-turn : goal.returns-clause-turn
returns-clause-turn g c = turn_then (hold_turn c.args.number c.args.self.now.holder.now c.args.self.now.modules.now (g.T.Table.view c.args.table.now) (g.T.Table.view c.hold.new.self) (g.H.Hands.view c.args.hands.now) c.requires.one c.hold.ensures.may) (unlock_turn c.args.number (g.T.Table.view c.hold.new.self) (g.H.Hands.view c.args.hands.now) (g.H.Hands.view c.let_locks_go.new.hands) (hold_turn c.args.number c.args.self.now.holder.now c.args.self.now.modules.now (g.T.Table.view c.args.table.now) (g.T.Table.view c.hold.new.self) (g.H.Hands.view c.args.hands.now) c.requires.one c.hold.ensures.may).one (c.requires.ready.idle) c.let_locks_go.ensures.unlocks)

pub returns-clause-knows : goal.returns-clause-knows
returns-clause-knows g c = free_knows state.Locking c.args.number c.let_locks_go.new.self (g.T.Table.view c.hold.new.self) (g.H.Hands.view c.let_locks_go.new.hands) (refl) c.let_locks_go.ensures.next (ready_none c.args.number _ (g.H.Hands.view c.let_locks_go.new.hands) c.let_locks_go.ensures.none (c.let_locks_go.ensures.unlocks.acts c.args.number ∙ c.requires.ready.idle))

pub returns-then-branch-clause-goes : goal.returns-then-branch-clause-goes
returns-then-branch-clause-goes g c = refl

pub returns-clause-goes : goal.returns-clause-goes
returns-clause-goes g c = ap (may_come state.Holding) c.let_locks_go.ensures.next
