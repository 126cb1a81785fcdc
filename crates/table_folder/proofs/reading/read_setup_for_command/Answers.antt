use Rattle.std.proofs.Common.{sym, subst}
use Rattle.table_folder.specs.Setups.{IsReadFrom}
use Rattle.table_folder.proofs.reading.read_setup_for_command.Goals as goal

pub returns-in_ok-in_form-in-Table-clause-found : goal.returns-in_ok-in_form-in-Table-clause-found
returns-in_ok-in_form-in-Table-clause-found g c =
    let bytes = c.in_ok-read.read.bytes.items in
    (bytes, subst (IsReadFrom bytes) (sym c.new-in-Table.ensures) (c.in_ok-in_form-in-Table.ensures.found bytes c.in_ok-found.ensures.found))
