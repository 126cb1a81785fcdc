use Rattle.std.proofs.Common.{◌≡◌, [], IfOk, subst}
use Rattle.load_plan.specs.LookUp.{with_names}
use Rattle.load_plan.proofs.LookUpLemmas.{targets_found}
use Rattle.load_plan.proofs.look_up.configured.Goals as goal

pub returns : goal.returns
returns c =
    subst (λ targets. IfOk c.names_of.result (λ names. names.items ≡ with_names [] targets))
    (targets_found c.in_ok-aliases.aliases.items c.deref.result.now c.args.configuration.now.aliases c.args.name.now c.deref.ensures.value c.in_ok-aliases.ensures)
    c.names_of.ensures
