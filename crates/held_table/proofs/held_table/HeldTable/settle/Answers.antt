use Rattle.std.proofs.Common.{◌<◌, sym, subst, ◌∙◌, length, []}
use Rattle.std.specs.List.{swap_remove}
use Rattle.held_table.specs.Held.{HeldOver}
use Rattle.held_table.proofs.KeptLemmas.{kept_from, kept_without}
use Rattle.held_table.proofs.held_table.HeldTable.settle.Goals as goal

pub invariant_of-self : goal.invariant_of-self
invariant_of-self c =
    let rows = c.self.inside.rows.rows in
    let names = c.self.inside.names in
    let within : c.args.number < length rows = subst (λ n. c.args.number < n) c.self.invariant.0.named
    (subst (λ (h : HeldOver). c.args.number < length h.held.names) (sym c.self.view_is) c.requires) in (
      kept_from c.self.inside.slots c.self.inside.book (swap_remove rows c.args.number []) _ (swap_remove names c.args.number []) _
          c.remove.ensures.rows c.remove-then-is_idle.ensures
          (kept_without c.self.inside.slots c.self.inside.book rows names c.args.number within c.self.invariant.0),
      c.remove.ensures.slots ∙ c.self.invariant.1,
    )
