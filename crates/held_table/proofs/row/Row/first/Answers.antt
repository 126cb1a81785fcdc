use Rattle.held_table.proofs.RowLemmas.{first_counted}
use Rattle.std.proofs.Common.{◌<◌, ap, sym, subst, ◌∙◌}
use Rattle.held_table.specs.Rows.{Holding, count_in}
use Rattle.held_table.proofs.row.Row.first.Goals as goal

pub returns-in-Some-clause-some : goal.returns-in-Some-clause-some
returns-in-Some-clause-some c =
    subst (λ (h : Holding). 0 < count_in h.counts c.in-Some.slot.now) c.self.view_is
    (first_counted c.self.inside.counts.entries c.in-Some.slot.now c.in-Some.field-0-1.now c.self.invariant (sym c.in-Some.ensures.entry))
