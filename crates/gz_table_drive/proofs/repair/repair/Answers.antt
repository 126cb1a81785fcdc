use Rattle.gz_table_drive.proofs.LogLemmas.{repaired_by}
use Rattle.gz_table_drive.proofs.repair.repair.Goals as goal

pub returns-clause-repaired : goal.returns-clause-repaired
returns-clause-repaired g c =
    repaired_by c.in_ok-setup.ensures.found.0 c.in_ok-setup.setup.value c.deref-2.result.now c.args.log.now c.repair_journal.new.log
    c.repair_journal.result c.in_ok-setup.ensures.found.1 c.deref-2.ensures c.repair_journal.ensures.repaired
