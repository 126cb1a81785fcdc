use Rattle.kmod_query.specs.Objects.{object_of}
use Rattle.kmod_query.specs.Probes.{probe_list}
use Rattle.kmod_query.specs.World.{facts_of}
use Rattle.kmod_query.proofs.ProbeLemmas.{OnOk-map}
use Rattle.kmod_query.proofs.probes.probe_list.Goals as goal

pub returns-clause-list : goal.returns-clause-list
returns-clause-list c =
    let whole = probe_list (facts_of c.args.world.now) c.args.bare (object_of c.args.object.now) in
    OnOk-map c.finish.result (λ ends. (ends whole c.in_ok-begin.ensures).list) c.finish.ensures

pub returns-clause-soft : goal.returns-clause-soft
returns-clause-soft c =
    let whole = probe_list (facts_of c.args.world.now) c.args.bare (object_of c.args.object.now) in
    OnOk-map c.finish.result (λ ends. (ends whole c.in_ok-begin.ensures).soft) c.finish.ensures
