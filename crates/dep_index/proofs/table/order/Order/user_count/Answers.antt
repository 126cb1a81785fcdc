use Rattle.std.proofs.Common.{◌∙◌, List, ℕ, ap, length}
use Rattle.std.specs.List.{filter}
use Rattle.dep_index.specs.Table.{needs_slot}
use Rattle.dep_index.specs.Table.Ordered.{Ordered, slots_in}
use Rattle.dep_index.proofs.OrderLemmas.{filter_both}
use Rattle.dep_index.proofs.table.order.Order.user_count.Goals as goal

pub returns : goal.returns
returns c =
    c.count_users.ensures
    ∙ ap length (filter_both (needs_slot c.args.slots.now c.args.slot) c.deref.result.now)
    ∙ ap (λ (xs : List ℕ). length (filter (needs_slot c.args.slots.now c.args.slot) (slots_in xs))) c.deref.ensures.value
    ∙ ap (λ (o : Ordered). length (filter (needs_slot c.args.slots.now c.args.slot) o.slots)) c.self.view_is
