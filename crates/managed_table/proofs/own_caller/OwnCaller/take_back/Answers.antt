use Rattle.managed_table.specs.Callers.{GaveFurther}
use Rattle.managed_table.proofs.own_caller.OwnCaller.take_back.Goals as goal

pub returns : goal.returns
returns c = record {
  back = λ before gave.
      let lent : GaveFurther before c.self.inside.caller c.further.inside.caller = rw (c.self.view_is, c.further.view_is) gave in
      c.take_back.ensures.back before lent;
}
