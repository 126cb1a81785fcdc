use Rattle.std.proofs.Common.{◌≡◌, map, Ok, Err, sym, ◌∙◌, ap}
use Rattle.text_parts.specs.Text.{texts_of}
use Rattle.load_plan.specs.declared.graph.Target.TheVariants.{Slot}
use Rattle.load_plan.specs.Items.{item_of, named}
use Rattle.load_plan.specs.Parts.{known_at}
use Rattle.load_plan.specs.Plan.{plan}
use Rattle.load_plan.specs.Sources.{graph_from}
use Rattle.load_plan.proofs.Parts.{plan-part}
use Rattle.load_plan.proofs.Settled.{fails_as}
use Rattle.load_plan.proofs.items.planned.Goals as goal

pub returns-in_ok-items_of-in-Ok-clause-items : goal.returns-in_ok-items_of-in-Ok-clause-items
returns-in_ok-items_of-in-Ok-clause-items c =
    let s = c.args.sources.now in
    let slot = c.args.asked.slot in
    let words = texts_of c.args.asked.words.now in
    let same : plan c.args.part.now.graph (Slot slot) ≡ plan (graph_from s) (Slot slot) = plan-part (graph_from s) c.args.part.now.graph (known_at c.args.part.now.known.items) slot c.requires.read.graph c.requires.known in
    ap (named s.catalogue.now (map (item_of s.catalogue.now s.configuration.now slot words))) (sym same ∙ c.in-Ok.ensures.steps)
    ∙ ap Ok (sym c.in_ok-items_of-in-Ok.ensures.items)

pub returns-in_ok-error_of-in-Err-Refused-clause-items : goal.returns-in_ok-error_of-in-Err-Refused-clause-items
returns-in_ok-error_of-in-Err-Refused-clause-items c =
    let s = c.args.sources.now in
    let slot = c.args.asked.slot in
    let words = texts_of c.args.asked.words.now in
    let same : plan c.args.part.now.graph (Slot slot) ≡ plan (graph_from s) (Slot slot) = plan-part (graph_from s) c.args.part.now.graph (known_at c.args.part.now.known.items) slot c.requires.read.graph c.requires.known in
    fails_as c.in_ok-error_of-in-Err-Refused.field-0 _
    (ap (named s.catalogue.now (map (item_of s.catalogue.now s.configuration.now slot words))) (sym same ∙ (rw c.in-Err-Refused.field-0-is at c.in-Err-Refused.ensures.steps))
    ∙ ap Err (sym c.in_ok-error_of-in-Err-Refused.ensures))
