use Rattle.std.proofs.Common.{sym, subst}
use Rattle.managed_table.specs.Callers.{GaveFurther}
use Rattle.gourzhiel.proofs.managed_calls.further_box.Goals as goal

pub returns-in-Err-clause-err : goal.returns-in-Err-clause-err
returns-in-Err-clause-err c =
    c.take_back.ensures.back c.args.caller.now
    (subst (GaveFurther c.args.caller.now c.further.new.self) (sym c.in-Err.ensures.value_returned) c.in_ok-further.ensures.further)
