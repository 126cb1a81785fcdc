use Rattle.std.proofs.Common.{◌∙◌, ap, sym, is_some}
use Rattle.kmod_query.specs.World.{facts_of}
use Rattle.kmod_query.proofs.ReasonLemmas.{late-reason}
use Rattle.kmod_query.proofs.TextLemmas.{IfOk-map}
use Rattle.kmod_query.proofs.look_up.first_list.Goals as goal

pub returns-in-None : goal.returns-in-None
returns-in-None c =
    IfOk-map c.exported_list.result
    (λ finding e. e ∙ sym (late-reason (facts_of c.args.world.now) c.args.name.now (sym c.in_ok-finding.ensures.early ∙ ap is_some c.in-None.is)))
    c.exported_list.ensures
