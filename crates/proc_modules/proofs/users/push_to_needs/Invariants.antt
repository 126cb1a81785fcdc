use Rattle.std.proofs.Common.{◌≡◌, take, vec_len}
use Rattle.seq_table.specs.Rows.{rows_of}
use Rattle.proc_modules.specs.UserRows.{WithUser}
use Rattle.proc_modules.proofs.users.push_to_needs.Given as goal

abbrev pub invariant-loop-need : goal.invariant-loop-need
invariant-loop-need l =
    record {
      after : WithUser (rows_of l.initial.rows.items) (rows_of l.rows.items) (take l.need-index l.needs) l.user;
      len : vec_len l.rows ≡ vec_len l.initial.rows;
    }
