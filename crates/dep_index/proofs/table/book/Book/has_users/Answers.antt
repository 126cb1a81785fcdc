use Rattle.std.proofs.Common.{◌∙◌, ap}
use Rattle.std.specs.List.{list_any}
use Rattle.dep_index.specs.Table.{Book, needs_slot}
use Rattle.dep_index.proofs.UserLemmas.{loaded_users}
use Rattle.dep_index.proofs.table.book.Book.has_users.Goals as goal

pub returns : goal.returns
returns c =
    c.any_loaded.ensures
    ∙ loaded_users (needs_slot c.args.slots.now c.args.slot) c.self.inside.order.slots c.users.result.now c.users.ensures
    ∙ ap (λ (b : Book). list_any (needs_slot c.args.slots.now c.args.slot) b.order) c.self.view_is
