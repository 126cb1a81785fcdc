use Rattle.std.proofs.Common.{◌≡◌, ◌<◌, ◌∙◌, sym, subst, length, get_or, arith}
use Rattle.held_table.specs.Rows.{Rows}
use Rattle.held_table.proofs.HoldingLemmas.{total_bound, any_default}
use Rattle.held_table.proofs.rows.Rows.total.Goals as goal

pub returns-clause-bound : goal.returns-clause-bound
returns-clause-bound c =
    let slot : c.args.slot < length c.self.inside.totals.items = subst (λ (r : Rows). c.args.slot < r.slots) (sym c.self.view_is) c.requires in
    let is : c.index.result.now ≡ get_or c.self.inside.totals.items c.args.slot 0 =
    c.index.ensures ∙ any_default c.self.inside.totals.items c.args.slot c.index.result.now 0 slot in
    omega (arith, is, total_bound c.self.inside.rows.items c.self.inside.totals.items c.self.invariant c.args.slot slot)
