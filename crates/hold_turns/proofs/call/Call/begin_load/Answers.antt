use Rattle.std.proofs.Common.{◌∙◌, refl, ap, true}
use Rattle.hold_turns.specs.Views.{Loads}
use Rattle.hold_turns.specs.declared.call.State.TheVariants as state
use Rattle.hold_turns.proofs.TurnLemmas.{turn_then}
use Rattle.hold_turns.proofs.HandsLemmas.{unlock_turn, begin_turn}
use Rattle.hold_turns.proofs.TableLemmas.{begin_load_turn}
use Rattle.hold_turns.proofs.KnowLemmas.{free_knows, ready_none}
use Rattle.hold_turns.specs.Course.{may_come}
use Rattle.hold_turns.proofs.call.Call.begin_load.Goals as goal

pub returns-in_err-make-clause-turn : goal.returns-in_err-make-clause-turn
returns-in_err-make-clause-turn g c = (begin_load_turn c.args.number c.args.slot (g.T.Table.view c.args.table.now) (g.T.Table.view c.make.new.self) (g.H.Hands.view c.args.hands.now) c.requires.one c.make.ensures.may)

pub insmod-requires-clause-locked : goal.insmod-requires-clause-locked
insmod-requires-clause-locked g c = c.requires.locked

pub insmod-requires-clause-idle : goal.insmod-requires-clause-idle
insmod-requires-clause-idle g c = c.requires.ready.idle

pub returns-in_err-insmod-clause-turn : goal.returns-in_err-insmod-clause-turn
returns-in_err-insmod-clause-turn g c = turn_then (begin_load_turn c.args.number c.args.slot (g.T.Table.view c.args.table.now) (g.T.Table.view c.make.new.self) (g.H.Hands.view c.args.hands.now) c.requires.one c.make.ensures.may) (begin_turn c.args.number (Loads c.args.slot) (g.T.Table.view c.make.new.self) (g.H.Hands.view c.args.hands.now) (g.H.Hands.view c.insmod.new.self) (begin_load_turn c.args.number c.args.slot (g.T.Table.view c.args.table.now) (g.T.Table.view c.make.new.self) (g.H.Hands.view c.args.hands.now) c.requires.one c.make.ensures.may).one (c.in_ok-make.ensures.made c.if-branch.true, c.insmod.ensures.locks _ _ c.requires.locked) c.insmod.ensures)

pub returns-then-branch-clause-turn : goal.returns-then-branch-clause-turn
returns-then-branch-clause-turn g c = turn_then (begin_load_turn c.args.number c.args.slot (g.T.Table.view c.args.table.now) (g.T.Table.view c.make.new.self) (g.H.Hands.view c.args.hands.now) c.requires.one c.make.ensures.may) (begin_turn c.args.number (Loads c.args.slot) (g.T.Table.view c.make.new.self) (g.H.Hands.view c.args.hands.now) (g.H.Hands.view c.insmod.new.self) (begin_load_turn c.args.number c.args.slot (g.T.Table.view c.args.table.now) (g.T.Table.view c.make.new.self) (g.H.Hands.view c.args.hands.now) c.requires.one c.make.ensures.may).one (c.in_ok-make.ensures.made c.if-branch.true, c.insmod.ensures.locks _ _ c.requires.locked) c.insmod.ensures)

pub returns-then-branch-clause-knows : goal.returns-then-branch-clause-knows
returns-then-branch-clause-knows g c = λ k d lt. c.insmod.ensures.locks _ _ (c.requires.ready.locks k d lt)

pub let_locks_go-requires : goal.let_locks_go-requires
let_locks_go-requires g c = c.requires.ready.idle

pub returns-clause-turn : goal.returns-clause-turn
returns-clause-turn g c = turn_then (begin_load_turn c.args.number c.args.slot (g.T.Table.view c.args.table.now) (g.T.Table.view c.make.new.self) (g.H.Hands.view c.args.hands.now) c.requires.one c.make.ensures.may) (unlock_turn c.args.number (g.T.Table.view c.make.new.self) (g.H.Hands.view c.args.hands.now) (g.H.Hands.view c.let_locks_go.new.hands) (begin_load_turn c.args.number c.args.slot (g.T.Table.view c.args.table.now) (g.T.Table.view c.make.new.self) (g.H.Hands.view c.args.hands.now) c.requires.one c.make.ensures.may).one (c.requires.ready.idle) c.let_locks_go.ensures.unlocks)

pub returns-clause-knows : goal.returns-clause-knows
returns-clause-knows g c = free_knows state.Holding c.args.number c.let_locks_go.new.self (g.T.Table.view c.make.new.self) (g.H.Hands.view c.let_locks_go.new.hands) (refl) c.let_locks_go.ensures.next (ready_none c.args.number _ (g.H.Hands.view c.let_locks_go.new.hands) c.let_locks_go.ensures.none (c.let_locks_go.ensures.unlocks.acts c.args.number ∙ c.requires.ready.idle))

pub returns-then-branch-clause-goes : goal.returns-then-branch-clause-goes
returns-then-branch-clause-goes g c = refl

pub returns-clause-goes : goal.returns-clause-goes
returns-clause-goes g c = ap (may_come state.Stepping) c.let_locks_go.ensures.next
