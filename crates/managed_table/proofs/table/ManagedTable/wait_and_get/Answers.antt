use Rattle.std.proofs.Common.{[], ◌∙◌}
use Rattle.managed_table.specs.Turns.{pass_of}
use Rattle.managed_table.proofs.table.ManagedTable.wait_and_get.Goals as goal

pub returns : goal.returns
returns g c = record {
  turn = c.end_by_long_get.ensures.ends (pass_of c.args.seat.now.me.0) record {
    id = c.wait_for.ensures.id ∙ c.requires.free.0;
    row = c.requires.free.1;
    steps = [];
    took = c.wait_for.ensures.taken;
  };
}
