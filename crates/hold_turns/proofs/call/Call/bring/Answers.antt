use Rattle.std.proofs.Common.{refl, sym, subst, ℕ, List}
use Rattle.hold_turns.specs.Rule.{IsReady}
use Rattle.hold_turns.proofs.TurnLemmas.{ready_quiet}
use Rattle.hold_turns.proofs.call.Call.bring.Goals as goal

pub bring_all-requires-clause-one : goal.bring_all-requires-clause-one
bring_all-requires-clause-one g c = c.requires.one

pub bring_all-requires-clause-ready : goal.bring_all-requires-clause-ready
bring_all-requires-clause-ready g c = subst (λ (xs : List ℕ). IsReady c.args.number xs (g.H.Hands.view c.args.hands.now)) (sym c.deref.ensures.value) c.requires.ready

pub returns-in_err-bring_all-clause-turn : goal.returns-in_err-bring_all-clause-turn
returns-in_err-bring_all-clause-turn g c = c.bring_all.ensures.turn

pub returns-clause-turn : goal.returns-clause-turn
returns-clause-turn g c = c.bring_all.ensures.turn

pub returns-clause-knows : goal.returns-clause-knows
returns-clause-knows g c = ready_quiet _ c.requires.ready c.bring_all.ensures.quiet

pub returns-clause-goes : goal.returns-clause-goes
returns-clause-goes g c = refl
