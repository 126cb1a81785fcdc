use Rattle.std.proofs.Common.{◌≡◌, ◌<◌, length, refl, rules}
use Rattle.load_plan.specs.declared.graph.Target.TheVariants.{Slot}
use Rattle.load_plan.specs.declared.walk.Mark.TheVariants.{Done}
use Rattle.load_plan.specs.ForProofs.{mark_at, Leads, here, past}
use Rattle.load_plan.proofs.Bounds.{lt-true}
use Rattle.load_plan.proofs.walk.next_step.Goals as goal

pub finished-init : goal.finished-init
finished-init c = record { slot = refl; passes = here }

pub finished-preserved : goal.finished-preserved
finished-preserved c =
    let leads : Leads c.args.graph.now c.finished.frame (Slot c.in-Slot.slot) = rw c.in-Slot.is at c.in-Some.ensures.first in
    let within : c.in-Slot.slot < length c.args.graph.now = lt-true c.in-Slot.slot (length c.args.graph.now) (rw c.in-Slot.is at c.in-Some.ensures.within) in
    let mark : mark_at c.args.marks.now c.in-Slot.slot ≡ Done = search rules in
    rw c.in-Some.ensures.next (record { slot = c.finished.invariant.slot; passes = past c.finished.frame c.in-Slot.slot c.finished.invariant.passes leads mark within })
