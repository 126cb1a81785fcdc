use Rattle.std.proofs.Common.{◌≡◌, ◌<◌, true, length, arith, Some, sym, ◌∙◌, ap, subst}
use Rattle.text_parts.specs.Text.{normal_form}
use Rattle.dep_index.specs.Catalogue.{slot_named}
use Rattle.load_plan.specs.Items.{FailsAs, plan_from}
use Rattle.load_plan.specs.Outlook.{Outlook, IsSettled, IsOutlook}
use Rattle.load_plan.specs.Parts.{known_at}
use Rattle.load_plan.proofs.Reaching.{known_from}
use Rattle.load_plan.proofs.Settled.{settled_plan, settled_refusal}
use Rattle.load_plan.proofs.planner.Planner.has_settled_plan.Goals as goal

pub returns-in-Ok-clause-settled : goal.returns-in-Ok-clause-settled
returns-in-Ok-clause-settled c is words =
    let s = c.self.inside.sources in
    let part = c.self.inside.part in
    let slot = c.in-Some.slot in
    let o : Outlook = record { sources = s; settled = c.self.inside.settled.items } in
    let room : slot < length part.known.items = omega (arith, c.in-Some.ensures.within, c.self.invariant.read.long) in
    let known : known_at part.known.items slot ≡ true = known_from part.known.items slot c.index.result.now room c.index.ensures c.if-not-index.false in
    let holds : IsOutlook s part c.self.inside.settled.items c.close.new.closed.items = record {
      read = c.self.invariant.read;
      long = c.self.invariant.long;
      closed = rw c.deref.ensures.value at c.in_ok-close.ensures.closed;
    } in
    let found : slot_named s.catalogue.now (normal_form c.args.name.now) ≡ Some slot = ap (slot_named s.catalogue.now) c.is_normal.ensures ∙ sym c.in-Some.ensures.slot in
    subst (λ (x : Outlook). IsSettled x c.args.name.now words) c.self.view_is
    (settled_plan o part c.close.new.closed.items c.args.name.now slot c.in-Ok.field-0.order.items holds found known (c.in_ok-close.ensures.start c.if-not-branch.false) c.in-Ok.ensures.order words)

pub returns-in-Err-Refused-clause-refused : goal.returns-in-Err-Refused-clause-refused
returns-in-Err-Refused-clause-refused c words =
    let s = c.self.inside.sources in
    let part = c.self.inside.part in
    let slot = c.in-Some.slot in
    let room : slot < length part.known.items = omega (arith, c.in-Some.ensures.within, c.self.invariant.read.long) in
    let known : known_at part.known.items slot ≡ true = known_from part.known.items slot c.index.result.now room c.index.ensures c.if-not-index.false in
    let found : slot_named s.catalogue.now (normal_form c.args.name.now) ≡ Some slot = ap (slot_named s.catalogue.now) c.is_normal.ensures ∙ sym c.in-Some.ensures.slot in
    subst (λ (x : Outlook). FailsAs c.in_ok-error_of-in-Err-Refused.field-0 (plan_from x.sources c.args.name.now words)) c.self.view_is
    (settled_refusal s part c.self.inside.settled.items c.self.inside.closed.items c.args.name.now slot c.in-Err-Refused.refusal c.in_ok-error_of-in-Err-Refused.field-0 c.self.invariant found known (rw c.in-Err-Refused.field-0-is at c.in-Err-Refused.ensures.order) c.in_ok-error_of-in-Err-Refused.ensures words)
