use Rattle.std.proofs.Common.{subst, List, ℕ}
use Rattle.gz_table_drive.specs.Log.{HasCreated}
use Rattle.gz_table_drive.proofs.create.write_table.Goals as goal

pub returns-clause-created : goal.returns-clause-created
returns-clause-created g c = (
  c.in_ok-name.name.items,
  c.in_ok-name.ensures.named,
  subst (λ (name : List ℕ). HasCreated name c.args.log.now c.write_journal.new.log) c.deref.ensures.value c.in_ok-device.ensures.created,
)
