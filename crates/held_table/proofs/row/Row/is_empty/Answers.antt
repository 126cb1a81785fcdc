use Rattle.std.proofs.Common.{◌↔◌, ◌≡◌, IsTrue, ℕ, subst}
use Rattle.held_table.specs.Rows.{Holding, count_in}
use Rattle.held_table.proofs.RowLemmas.{none_counted, counted_none}
use Rattle.held_table.proofs.row.Row.is_empty.Goals as goal

pub returns : goal.returns
returns c =
    subst (λ (h : Holding). IsTrue c.is_empty.result ↔ ((m : ℕ) → count_in h.counts m ≡ 0)) c.self.view_is (
      λ empty. none_counted c.self.inside.counts.entries c.self.invariant (c.is_empty.ensures.0 empty),
      λ zeros. c.is_empty.ensures.1 (counted_none c.self.inside.counts.entries c.self.invariant zeros),
    )
