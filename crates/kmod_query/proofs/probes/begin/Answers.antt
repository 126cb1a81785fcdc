use Rattle.std.proofs.Common.{[], ◌∙◌, ap}
use Rattle.kmod_query.specs.Objects.{object_of, with_object}
use Rattle.kmod_query.specs.World.{facts_of}
use Rattle.kmod_query.proofs.ProbeLemmas.{OnOk-map, begun}
use Rattle.kmod_query.proofs.SoftLemmas.{fronts-more}
use Rattle.kmod_query.proofs.probes.begin.Goals as goal

pub returns : goal.returns
returns c =
    let facts = facts_of c.args.world.now in
    let top = object_of c.args.object.now in
    let course = c.args.course.now in
    OnOk-map c.push_probe.result
    (λ pushed. record {
      soft = c.requires.soft;
      fronts = fronts-more facts [] c.insert.new.self top course.fronts (c.in_ok-insert.ensures.met ∙ ap (λ l. with_object l top) c.requires.met) c.requires.fronts;
      gives = begun facts c.args.bare top (object_of c.in_ok-own.own) course.met c.insert.new.self course.stack.items c.push_probe.new.stack.items course.list.items course.left
          c.requires.met c.in_ok-insert.ensures.met c.requires.stack c.requires.list c.in_ok-own.ensures c.requires.left pushed;
    })
    c.push_probe.ensures
