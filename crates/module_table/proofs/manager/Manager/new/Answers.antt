use Rattle.std.proofs.Common.{sym, subst}
use Rattle.root_row.specs.Seats.{RowIs}
use Rattle.root_row.specs.Made.{new_reader, AreNew}
use Rattle.module_table.proofs.Readers.{readers_are_of}
use Rattle.module_table.proofs.manager.Manager.new.Goals as goal

pub returns-clause-readers : goal.returns-clause-readers
returns-clause-readers c =
    let row : RowIs = c.in_ok-row-2.row.value in
    let seats = subst (λ (r : RowIs). AreNew (new_reader r.id r.world) c.args.workers c.in_ok-row.read_seats.items) (sym c.in_ok-row-2.ensures.ok) c.in_ok-row.ensures.readers in
    subst (AreNew (new_reader row.id row.world) c.args.workers) (sym c.in_ok-readers.ensures) seats

pub returns-clause-own : goal.returns-clause-own
returns-clause-own c = readers_are_of c.in_ok-row-2.row.value c.args.workers _ (returns-clause-readers c)
