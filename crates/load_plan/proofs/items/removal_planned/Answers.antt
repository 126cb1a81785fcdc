use Rattle.std.proofs.Common.{◌≡◌, List, ℕ, Err, sym, ◌∙◌, ap}
use Rattle.load_plan.specs.declared.graph.Target.TheVariants.{Slot}
use Rattle.load_plan.specs.Items.{named}
use Rattle.load_plan.specs.Parts.{known_at}
use Rattle.load_plan.specs.Plan.{removal_plan}
use Rattle.load_plan.specs.Sources.{graph_from}
use Rattle.load_plan.proofs.Parts.{removal-part}
use Rattle.load_plan.proofs.Settled.{fails_as}
use Rattle.load_plan.proofs.items.removal_planned.Goals as goal

pub returns-in-Ok-clause-order : goal.returns-in-Ok-clause-order
returns-in-Ok-clause-order c =
    let s = c.args.sources.now in
    let slot = c.args.slot in
    let same : removal_plan c.args.part.now.graph (Slot slot) ≡ removal_plan (graph_from s) (Slot slot) = removal-part (graph_from s) c.args.part.now.graph (known_at c.args.part.now.known.items) slot c.requires.read.graph c.requires.known in
    ap (named s.catalogue.now (λ (order : List ℕ). order)) (sym same ∙ c.in-Ok.ensures.order)

pub returns-in_ok-error_of-in-Err-Refused-clause-order : goal.returns-in_ok-error_of-in-Err-Refused-clause-order
returns-in_ok-error_of-in-Err-Refused-clause-order c =
    let s = c.args.sources.now in
    let slot = c.args.slot in
    let same : removal_plan c.args.part.now.graph (Slot slot) ≡ removal_plan (graph_from s) (Slot slot) = removal-part (graph_from s) c.args.part.now.graph (known_at c.args.part.now.known.items) slot c.requires.read.graph c.requires.known in
    fails_as c.in_ok-error_of-in-Err-Refused.field-0 _
    (ap (named s.catalogue.now (λ (order : List ℕ). order)) (sym same ∙ (rw c.in-Err-Refused.field-0-is at c.in-Err-Refused.ensures.order))
    ∙ ap Err (sym c.in_ok-error_of-in-Err-Refused.ensures))
