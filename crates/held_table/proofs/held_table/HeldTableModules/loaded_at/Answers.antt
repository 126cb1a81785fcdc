use Rattle.std.proofs.Common.{◌<◌, length, Contains, subst, arith, sym}
use Rattle.std.proofs.lemmas.List.Elements.{Contains-get_or}
use Rattle.held_table.specs.Held.{HeldOver}
use Rattle.seq_table.proofs.Users.{order_slot}
use Rattle.held_table.proofs.held_table.HeldTableModules.loaded_at.Goals as goal

pub returns-clause-slot : goal.returns-clause-slot
returns-clause-slot c =
    let book = c.self.inside.book in
    let within : c.args.place < length book.order = subst (λ (t : HeldOver). c.args.place < length t.held.table.book.order) (sym c.self.view_is) c.requires in
    let found : Contains book.order c.loaded_at.result = subst (Contains book.order) (sym c.loaded_at.ensures) (Contains-get_or book.order c.args.place 0 within) in
    let below : c.loaded_at.result < length c.self.inside.slots =
    omega (arith, order_slot book c.self.invariant.0.lawful.order c.loaded_at.result found, c.self.invariant.0.shape.states) in
    subst (λ (t : HeldOver). c.loaded_at.result < length t.catalogue) c.self.view_is below
