use Rattle.std.proofs.Common.{sym, ap, ◌∙◌, subst}
use Rattle.root_row.specs.Seats.{RowIs}
use Rattle.managed_table.specs.Kept.{shown, leaf_fits}
use Rattle.managed_table.specs.Passes.{MayActOn}
use Rattle.managed_table.specs.Callers.{ManagedIs}
use Rattle.managed_table.proofs.table.ManagedTable.try_worker_turn.Goals as goal

pub try_turn-requires-clause-may : goal.try_turn-requires-clause-may
try_turn-requires-clause-may g c =
    subst (λ (k : RowIs). MayActOn g.F.FnOnce leaf_fits shown k c.args.worker c.args.act) (sym (c.self.invariant.0 ∙ ap (λ (t : ManagedIs). t.row) c.self.view_is)) c.requires.may
