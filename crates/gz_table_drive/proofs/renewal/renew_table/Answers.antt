use Rattle.line_journal.proofs.Moments.{from_disk}
use Rattle.std.proofs.Common.{inl}
use Rattle.gz_table_drive.proofs.renewal.renew_table.Goals as goal

pub returns-in-Err-clause-any_moment : goal.returns-in-Err-clause-any_moment
returns-in-Err-clause-any_moment g c =
    from_disk (g.D.Device.history c.args.table.now.journal.lines.device) _ (g.D.Device.content c.args.table.now.journal.lines.device) c.requires.stands.ready.on_disk (inl c.requires.stands.same)
