use Rattle.std.proofs.Common.{Result, Ok, Err, OnOk}
use Rattle.load_plan.specs.Learnt.{StaysKnown}
use Rattle.load_plan.proofs.trial.learn.Goals as goal

on_ok : {X E P Q : Type 0} (r : Result X E) → (P → Q) → OnOk r P → OnOk r Q
on_ok (Ok x) f h = f h
on_ok (Err e) f h = h

pub returns-in-Nothing-clause-known : goal.returns-in-Nothing-clause-known
returns-in-Nothing-clause-known c =
    on_ok c.learn_new.result
    (λ (later : StaysKnown c.args.graph.now c.args.marks.now c.renew.new.self c.learn_new.new.learnt) progress done marked kept known.
    later progress done marked kept (c.renew.ensures.known progress done marked kept known))
    c.learn_new.ensures.known
