use Rattle.std.proofs.Common.{◌≡◌, sym, ap, ◌∙◌, subst, arith}
use Rattle.root_row.specs.Seats.{RowIs}
use Rattle.root_row.specs.World.{slots}
use Rattle.managed_table.specs.Kept.{shown, leaf_fits}
use Rattle.managed_table.specs.Passes.{MayActOn}
use Rattle.managed_table.specs.Callers.{ManagedIs}
use Rattle.managed_table.proofs.table.ManagedTable.try_leaf_turn.Goals as goal

pub try_turn-requires-clause-may : goal.try_turn-requires-clause-may
try_turn-requires-clause-may g c =
    let inside = c.if-slot-slots.false in
    let count = c.slots.ensures in
    let same : slots c.self.inside.row.world ≡ slots c.args.self.now.row.world = ap (λ (t : ManagedIs). slots t.row.world) c.self.view_is in
    subst (λ (k : RowIs). MayActOn g.F.FnOnce leaf_fits shown k c.args.worker c.args.act) (sym (c.self.invariant.0 ∙ ap (λ (t : ManagedIs). t.row) c.self.view_is)) (c.requires.may (omega arith))
