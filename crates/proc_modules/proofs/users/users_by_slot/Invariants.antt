use Rattle.std.proofs.Common.{◌≡◌, take, length}
use Rattle.seq_table.specs.Rows.{rows_of}
use Rattle.proc_modules.specs.UserRows.{HaveUsers}
use Rattle.proc_modules.proofs.users.users_by_slot.Given as goal

abbrev pub invariant-loop-user : goal.invariant-loop-user
invariant-loop-user l =
    record {
      users : HaveUsers l.catalogue (take l.user-index l.modules) (rows_of l.rows.items);
      len : length l.rows.items ≡ length l.catalogue;
    }
