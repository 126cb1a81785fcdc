use Rattle.gz_table_drive.proofs.TenureLemmas.{journal_still}
use Rattle.gz_table_drive.proofs.compaction.compact_table.Goals as goal

pub returns-in-Err-clause-any_moment : goal.returns-in-Err-clause-any_moment
returns-in-Err-clause-any_moment g c =
    let device = c.args.table.now.journal.lines.device in
    journal_still c.args.setup.now c.args.table.now.session.holders.held (g.D.Device.content device) (g.D.Device.history device) c.requires.stands.ready.on_disk c.requires.stands.same c.requires.of
