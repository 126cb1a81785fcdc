use Rattle.std.proofs.Common.{◌∷◌, ◌++◌, refl, ap, subst}
use Rattle.atomic_table.specs.Table.{rest}
use Rattle.root_row.specs.Seats.{RowIs, IsOf}
use Rattle.use_indicator.specs.Counted.{missed, before_tries}
use Rattle.managed_table.specs.Callers.{ManagedIs}
use Rattle.managed_table.proofs.InHand.{at_none, stays}
use Rattle.managed_table.proofs.table.ManagedTable.end_by_get.Goals as goal

pub returns-in_err-answer : goal.returns-in_err-answer
returns-in_err-answer c =
    let row = c.args.self.now.row in
    let me = c.args.seat.now.me in
    let y = c.try_get_unused.new.self in
    let gave_up = c.in_err-answer.ensures.missed in
    let own : IsOf row y = subst (λ (r : RowIs). IsOf r y) (ap (λ (t : ManagedIs). t.row) c.self.view_is) c.in_err-answer.ensures.own in record {
      ends = λ p h. at_none _ c.from_residual.result c.from_residual.ensures record {
        id = h.id;
        row = h.row;
        steps = h.steps ++ (before_tries c.args.slot gave_up.1.0 ++ missed c.args.slot gave_up.1.1);
        took = stays row c.args.worker p me h.steps h.took h.row c.slot_mut-leaf.result.now c.slot_mut-leaf.ensures.value y own (me.0, (c.args.worker, y) ∷ rest me.1) refl refl gave_up.0.1 _ gave_up.1.3;
      };
    }
