use Rattle.std.proofs.Common.{◌∙◌, ◌++◌, ap}
use Rattle.kmod_names.specs.declared.place.Place.{Place}
use Rattle.machine_lint.specs.declared.known.Origin.{Origin}
use Rattle.machine_lint.specs.Lines.{origin_at}
use Rattle.machine_lint.specs.Notes.{facts_by, line_notes, notes_by}
use Rattle.machine_lint.proofs.ListLemmas.{flat_more}
use Rattle.machine_lint.proofs.judge.Judge.notes.Goals as goal

pub loop-line-preserved : goal.loop-line-preserved
loop-line-preserved c =
    let files = c.args.known.now.files.now in
    let facts = facts_by c.args.self.now in
    let front = c.loop-line.notes.items in
    let line = c.line-item.result in
    flat_more (line_notes files facts) front c.add_line.new.notes.items c.args.self.now.lines.now c.loop-line.line-index line
    c.loop-line-test.true c.line-item.is c.loop-line.invariant
    (c.in_ok-add_line.ensures
    ∙ ap (λ (origin : Origin). front ++ notes_by facts origin line)
    (c.origin_at-origin.ensures ∙ ap (λ (place : Place). origin_at files place.source) c.place.ensures))
