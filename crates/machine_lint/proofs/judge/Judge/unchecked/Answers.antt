use Rattle.std.proofs.Common.{[], ◌∙◌, ap}
use Rattle.kmod_names.specs.declared.place.Place.{Place}
use Rattle.machine_lint.specs.declared.known.Origin.{Origin}
use Rattle.machine_lint.specs.Lines.{origin_at}
use Rattle.machine_lint.specs.Notes.{facts_by}
use Rattle.machine_lint.specs.Unchecked.{unchecked_by, unchecked_place}
use Rattle.machine_lint.proofs.ListLemmas.{filter_more}
use Rattle.machine_lint.proofs.judge.Judge.unchecked.Goals as goal

pub loop-line-preserved : goal.loop-line-preserved
loop-line-preserved c =
    let files = c.args.known.now.files.now in
    let facts = facts_by c.args.self.now in
    let line = c.line-item.result in
    filter_more (unchecked_place files facts) [] c.loop-line.places.items c.push_place.new.places.items c.args.self.now.lines.now c.loop-line.line-index line c.in_ok-place.place
    c.loop-line-test.true c.line-item.is c.loop-line.invariant
    (c.in_ok-place.ensures
    ∙ ap (λ (origin : Origin). unchecked_by facts origin line)
    (c.origin_at-origin.ensures ∙ ap (λ (place : Place). origin_at files place.source) c.place.ensures))
    c.in_ok-push_place.ensures
