use Rattle.line_journal.proofs.Moments.{from_disk}
use Rattle.durable_table.specs.Durable.{FileStands}
use Rattle.tenures.proofs.making.compact.Goals as goal

pub returns-in_default-clause-any_moment : goal.returns-in_default-clause-any_moment
returns-in_default-clause-any_moment g c =
    let device = c.args.table.now.journal.lines.device in
    from_disk (g.D.Device.history device) (FileStands c.args.table.now.session.setup.now c.args.table.now.session.holders.held) (g.D.Device.content device)
    c.requires.stands.ready.on_disk c.requires.stands.same
