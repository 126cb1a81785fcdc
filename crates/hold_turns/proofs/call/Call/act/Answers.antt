use Rattle.std.proofs.Common.{refl, ap, subst}
use Rattle.hold_turns.specs.declared.call.State.{State}
use Rattle.hold_turns.specs.declared.call.State.TheVariants as state
use Rattle.hold_turns.specs.Rule.{is_over, KnowsIn}
use Rattle.hold_turns.proofs.TurnLemmas.{turn_stay}
use Rattle.hold_turns.proofs.CourseLemmas.{turned_from, stayed_over}
use Rattle.hold_turns.proofs.call.Call.act.Goals as goal

pub begin-requires-clause-one : goal.begin-requires-clause-one
begin-requires-clause-one g c = c.requires.one

pub begin-requires-clause-ready : goal.begin-requires-clause-ready
begin-requires-clause-ready g c = subst (λ (s : State). KnowsIn s c.args.number c.args.self.now (g.T.Table.view c.args.table.now) (g.H.Hands.view c.args.hands.now)) c.in-Begins.is c.requires.knows

pub returns-in-Begins-clause-turn : goal.returns-in-Begins-clause-turn
returns-in-Begins-clause-turn g c = c.begin.ensures.turn

pub returns-in-Begins-clause-knows : goal.returns-in-Begins-clause-knows
returns-in-Begins-clause-knows g c = c.begin.ensures.knows

pub hold-requires-clause-one : goal.hold-requires-clause-one
hold-requires-clause-one g c = c.requires.one

pub hold-requires-clause-ready : goal.hold-requires-clause-ready
hold-requires-clause-ready g c = subst (λ (s : State). KnowsIn s c.args.number c.args.self.now (g.T.Table.view c.args.table.now) (g.H.Hands.view c.args.hands.now)) c.in-Holding.is c.requires.knows

pub returns-in-Holding-clause-turn : goal.returns-in-Holding-clause-turn
returns-in-Holding-clause-turn g c = c.hold.ensures.turn

pub returns-in-Holding-clause-knows : goal.returns-in-Holding-clause-knows
returns-in-Holding-clause-knows g c = c.hold.ensures.knows

pub lock-requires-clause-one : goal.lock-requires-clause-one
lock-requires-clause-one g c = c.requires.one

pub lock-requires-clause-ready : goal.lock-requires-clause-ready
lock-requires-clause-ready g c = subst (λ (s : State). KnowsIn s c.args.number c.args.self.now (g.T.Table.view c.args.table.now) (g.H.Hands.view c.args.hands.now)) c.in-Locking.is c.requires.knows

pub returns-in-Locking-clause-turn : goal.returns-in-Locking-clause-turn
returns-in-Locking-clause-turn g c = c.lock.ensures.turn

pub returns-in-Locking-clause-knows : goal.returns-in-Locking-clause-knows
returns-in-Locking-clause-knows g c = c.lock.ensures.knows

pub bring-requires-clause-one : goal.bring-requires-clause-one
bring-requires-clause-one g c = c.requires.one

pub bring-requires-clause-ready : goal.bring-requires-clause-ready
bring-requires-clause-ready g c = subst (λ (s : State). KnowsIn s c.args.number c.args.self.now (g.T.Table.view c.args.table.now) (g.H.Hands.view c.args.hands.now)) c.in-Bringing.is c.requires.knows

pub returns-in-Bringing-clause-turn : goal.returns-in-Bringing-clause-turn
returns-in-Bringing-clause-turn g c = c.bring.ensures.turn

pub returns-in-Bringing-clause-knows : goal.returns-in-Bringing-clause-knows
returns-in-Bringing-clause-knows g c = c.bring.ensures.knows

pub step-requires-clause-one : goal.step-requires-clause-one
step-requires-clause-one g c = c.requires.one

pub step-requires-clause-ready : goal.step-requires-clause-ready
step-requires-clause-ready g c = subst (λ (s : State). KnowsIn s c.args.number c.args.self.now (g.T.Table.view c.args.table.now) (g.H.Hands.view c.args.hands.now)) c.in-Stepping.is c.requires.knows

pub returns-in-Stepping-clause-turn : goal.returns-in-Stepping-clause-turn
returns-in-Stepping-clause-turn g c = c.step.ensures.turn

pub returns-in-Stepping-clause-knows : goal.returns-in-Stepping-clause-knows
returns-in-Stepping-clause-knows g c = c.step.ensures.knows

pub wait-requires-clause-one : goal.wait-requires-clause-one
wait-requires-clause-one g c = c.requires.one

pub wait-requires-clause-acting : goal.wait-requires-clause-acting
wait-requires-clause-acting g c = subst (λ (s : State). KnowsIn s c.args.number c.args.self.now (g.T.Table.view c.args.table.now) (g.H.Hands.view c.args.hands.now)) c.in-Acting.is c.requires.knows

pub wait-requires-clause-state : goal.wait-requires-clause-state
wait-requires-clause-state g c = c.in-Acting.is

pub returns-in-Acting-clause-turn : goal.returns-in-Acting-clause-turn
returns-in-Acting-clause-turn g c = c.wait.ensures.turn

pub returns-in-Acting-clause-knows : goal.returns-in-Acting-clause-knows
returns-in-Acting-clause-knows g c = c.wait.ensures.knows

pub look-requires-clause-one : goal.look-requires-clause-one
look-requires-clause-one g c = c.requires.one

pub look-requires-clause-ready : goal.look-requires-clause-ready
look-requires-clause-ready g c = let both = subst (λ (s : State). KnowsIn s c.args.number c.args.self.now (g.T.Table.view c.args.table.now) (g.H.Hands.view c.args.hands.now)) c.in-Looking.is c.requires.knows in both.0

pub look-requires-clause-owed : goal.look-requires-clause-owed
look-requires-clause-owed g c = let both = subst (λ (s : State). KnowsIn s c.args.number c.args.self.now (g.T.Table.view c.args.table.now) (g.H.Hands.view c.args.hands.now)) c.in-Looking.is c.requires.knows in both.1

pub returns-in-Looking-clause-turn : goal.returns-in-Looking-clause-turn
returns-in-Looking-clause-turn g c = c.look.ensures.turn

pub returns-in-Looking-clause-knows : goal.returns-in-Looking-clause-knows
returns-in-Looking-clause-knows g c = c.look.ensures.knows

pub returns-in-Over-clause-turn : goal.returns-in-Over-clause-turn
returns-in-Over-clause-turn g c = (turn_stay c.args.number (g.T.Table.view c.args.table.now) (g.H.Hands.view c.args.hands.now) c.requires.one)

pub returns-in-Over-clause-knows : goal.returns-in-Over-clause-knows
returns-in-Over-clause-knows g c = c.requires.knows

pub returns-in-Begins-clause-goes : goal.returns-in-Begins-clause-goes
returns-in-Begins-clause-goes g c = turned_from state.Begins c.begin.result c.args.self.now c.begin.new.self c.in-Begins.is refl c.begin.ensures.goes

pub returns-in-Holding-clause-goes : goal.returns-in-Holding-clause-goes
returns-in-Holding-clause-goes g c = turned_from state.Holding c.hold.result c.args.self.now c.hold.new.self c.in-Holding.is refl c.hold.ensures.goes

pub returns-in-Locking-clause-goes : goal.returns-in-Locking-clause-goes
returns-in-Locking-clause-goes g c = turned_from state.Locking c.lock.result c.args.self.now c.lock.new.self c.in-Locking.is refl c.lock.ensures.goes

pub returns-in-Bringing-clause-goes : goal.returns-in-Bringing-clause-goes
returns-in-Bringing-clause-goes g c = turned_from state.Bringing c.bring.result c.args.self.now c.bring.new.self c.in-Bringing.is refl c.bring.ensures.goes

pub returns-in-Stepping-clause-goes : goal.returns-in-Stepping-clause-goes
returns-in-Stepping-clause-goes g c = turned_from state.Stepping c.step.result c.args.self.now c.step.new.self c.in-Stepping.is refl c.step.ensures.goes

pub returns-in-Acting-clause-goes : goal.returns-in-Acting-clause-goes
returns-in-Acting-clause-goes g c = turned_from state.Acting c.wait.result c.args.self.now c.wait.new.self c.in-Acting.is refl c.wait.ensures.goes

pub returns-in-Looking-clause-goes : goal.returns-in-Looking-clause-goes
returns-in-Looking-clause-goes g c = turned_from state.Looking c.look.result c.args.self.now c.look.new.self c.in-Looking.is refl c.look.ensures.goes

pub returns-in-Over-clause-goes : goal.returns-in-Over-clause-goes
returns-in-Over-clause-goes g c = stayed_over c.args.self.now (ap is_over c.in-Over.is)
