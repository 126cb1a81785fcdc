use Rattle.std.proofs.Common.{refl}
use Rattle.hold_turns.specs.declared.call.End.TheVariants as the_end
use Rattle.hold_turns.proofs.CourseLemmas.{ended_from}
use Rattle.hold_turns.proofs.call.Call.turn.Goals as goal

pub act-requires-clause-one : goal.act-requires-clause-one
act-requires-clause-one g c = c.requires.one

pub act-requires-clause-knows : goal.act-requires-clause-knows
act-requires-clause-knows g c = c.requires.knows

pub returns-in-Ok-clause-turn : goal.returns-in-Ok-clause-turn
returns-in-Ok-clause-turn g c = c.act.ensures.turn

pub returns-in-Err-clause-turn : goal.returns-in-Err-clause-turn
returns-in-Err-clause-turn g c = c.act.ensures.turn

pub returns-in-Ok-clause-knows : goal.returns-in-Ok-clause-knows
returns-in-Ok-clause-knows g c = c.in-Ok.ensures.knows

pub returns-in-Ok-clause-goes : goal.returns-in-Ok-clause-goes
returns-in-Ok-clause-goes g c = c.in-Ok.ensures.goes

pub returns-in-Err-clause-goes : goal.returns-in-Err-clause-goes
returns-in-Err-clause-goes g c = ended_from c.args.self.now _ (the_end.Stopped c.in-Err.stopped) refl
