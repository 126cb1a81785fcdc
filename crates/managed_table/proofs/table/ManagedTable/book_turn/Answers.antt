use Rattle.std.proofs.Common.{sym, ap, ◌∙◌, subst}
use Rattle.root_row.specs.Seats.{RowIs}
use Rattle.managed_table.specs.Kept.{shown, book_fits}
use Rattle.managed_table.specs.Passes.{MayActOn}
use Rattle.managed_table.specs.Callers.{ManagedIs}
use Rattle.managed_table.proofs.table.ManagedTable.book_turn.Goals as goal

pub turn-requires-clause-may : goal.turn-requires-clause-may
turn-requires-clause-may g c = subst (λ (k : RowIs). MayActOn g.F.FnOnce book_fits shown k 0 c.args.act) (sym (c.self.invariant.1 ∙ ap (λ (t : ManagedIs). t.row) c.self.view_is)) c.requires.may
