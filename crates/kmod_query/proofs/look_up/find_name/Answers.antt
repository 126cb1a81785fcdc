use Rattle.std.proofs.Common.{◌∙◌, ap}
use Rattle.kmod_query.specs.Reasons.{objects_by}
use Rattle.kmod_query.specs.World.{facts_of}
use Rattle.kmod_query.proofs.ReasonLemmas.{found_by-reason, objects_of-reason}
use Rattle.kmod_query.proofs.TextLemmas.{IfOk-map}
use Rattle.kmod_query.proofs.look_up.find_name.Goals as goal

pub returns-clause-modules : goal.returns-clause-modules
returns-clause-modules c =
    let world = c.args.world.now in
    let name = c.args.name.now in
    IfOk-map c.first_list.result
    (λ finding e. found_by-reason world name finding ∙ ap (objects_by name) e ∙ objects_of-reason (facts_of world) name)
    c.first_list.ensures
