use Rattle.std.proofs.Common.{subst, List, ℕ}
use Rattle.gz_table_drive.specs.Log.{HasCreatedOf}
use Rattle.gz_table_drive.proofs.create.create.Goals as goal

pub returns-clause-created : goal.returns-clause-created
returns-clause-created g c = (
  c.in_ok-setup.setup.items,
  c.in_ok-setup.ensures.setup,
  subst (λ (file : List ℕ). HasCreatedOf file c.args.log.now c.write_table.new.log) c.deref.ensures.value c.in_ok-write_table.ensures.created,
)
