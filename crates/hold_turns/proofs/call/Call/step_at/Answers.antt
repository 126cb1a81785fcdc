use Rattle.std.proofs.Common.{◌≡◌, ◌∙◌, eqb, refl, ap, subst, ℕ, List, true}
use Rattle.std.specs.List.{IsAnyAnswer}
use Rattle.hold_turns.specs.declared.call.State.TheVariants as state
use Rattle.hold_turns.specs.declared.call.End.TheVariants as the_end
use Rattle.hold_turns.proofs.TurnLemmas.{turn_stay, turn_then}
use Rattle.hold_turns.proofs.HandsLemmas.{unlock_turn}
use Rattle.hold_turns.proofs.KnowLemmas.{free_knows, ready_none, owner_found}
use Rattle.hold_turns.specs.Course.{may_come}
use Rattle.hold_turns.proofs.call.Call.step_at.Goals as goal

pub let_locks_go-requires : goal.let_locks_go-requires
let_locks_go-requires g c = c.requires.ready.idle

pub returns-then-eq-clause-turn : goal.returns-then-eq-clause-turn
returns-then-eq-clause-turn g c = turn_then (turn_stay c.args.number (g.T.Table.view c.args.table.now) (g.H.Hands.view c.args.hands.now) c.requires.one) (unlock_turn c.args.number (g.T.Table.view c.args.table.now) (g.H.Hands.view c.args.hands.now) (g.H.Hands.view c.let_locks_go.new.hands) (turn_stay c.args.number (g.T.Table.view c.args.table.now) (g.H.Hands.view c.args.hands.now) c.requires.one).one (c.requires.ready.idle) c.let_locks_go.ensures.unlocks)

pub returns-then-eq-clause-knows : goal.returns-then-eq-clause-knows
returns-then-eq-clause-knows g c = free_knows (state.Over (the_end.Refused c.args.slot)) c.args.number c.let_locks_go.new.self (g.T.Table.view c.args.table.now) (g.H.Hands.view c.let_locks_go.new.hands) (refl) c.let_locks_go.ensures.next (ready_none c.args.number _ (g.H.Hands.view c.let_locks_go.new.hands) c.let_locks_go.ensures.none (c.let_locks_go.ensures.unlocks.acts c.args.number ∙ c.requires.ready.idle))

pub begin_act-requires-clause-one : goal.begin_act-requires-clause-one
begin_act-requires-clause-one g c = c.requires.one

pub begin_act-requires-clause-ready : goal.begin_act-requires-clause-ready
begin_act-requires-clause-ready g c = c.requires.ready

pub begin_act-requires-clause-locked : goal.begin_act-requires-clause-locked
begin_act-requires-clause-locked g c = owner_found c.args.number c.args.slot c.args.self.now.locked.items (g.H.Hands.view c.args.hands.now) c.contains.result c.requires.ready.locks (subst (λ (xs : List ℕ). IsAnyAnswer (λ y b. eqb y c.args.slot ≡ b) xs c.contains.result) c.deref.ensures.value c.contains.ensures.cases) c.if-contains.true

pub returns-then-contains-clause-turn : goal.returns-then-contains-clause-turn
returns-then-contains-clause-turn g c = c.begin_act.ensures.turn

pub returns-then-contains-clause-knows : goal.returns-then-contains-clause-knows
returns-then-contains-clause-knows g c = c.begin_act.ensures.knows

pub returns-clause-turn : goal.returns-clause-turn
returns-clause-turn g c = turn_then (turn_stay c.args.number (g.T.Table.view c.args.table.now) (g.H.Hands.view c.args.hands.now) c.requires.one) (unlock_turn c.args.number (g.T.Table.view c.args.table.now) (g.H.Hands.view c.args.hands.now) (g.H.Hands.view c.let_locks_go-2.new.hands) (turn_stay c.args.number (g.T.Table.view c.args.table.now) (g.H.Hands.view c.args.hands.now) c.requires.one).one (c.requires.ready.idle) c.let_locks_go-2.ensures.unlocks)

pub returns-clause-knows : goal.returns-clause-knows
returns-clause-knows g c = free_knows c.anew.result c.args.number c.let_locks_go-2.new.self (g.T.Table.view c.args.table.now) (g.H.Hands.view c.let_locks_go-2.new.hands) c.anew.ensures.free c.let_locks_go-2.ensures.next (ready_none c.args.number _ (g.H.Hands.view c.let_locks_go-2.new.hands) c.let_locks_go-2.ensures.none (c.let_locks_go-2.ensures.unlocks.acts c.args.number ∙ c.requires.ready.idle))

pub returns-then-eq-clause-goes : goal.returns-then-eq-clause-goes
returns-then-eq-clause-goes g c = ap (may_come state.Stepping) c.let_locks_go.ensures.next

pub returns-then-contains-clause-goes : goal.returns-then-contains-clause-goes
returns-then-contains-clause-goes g c = c.begin_act.ensures.goes

pub returns-clause-goes : goal.returns-clause-goes
returns-clause-goes g c = ap (may_come state.Stepping) c.let_locks_go-2.ensures.next ∙ c.anew.ensures.from_step
