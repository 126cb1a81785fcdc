use Rattle.std.proofs.Common.{length}
use Rattle.line_journal.proofs.ByteLemmas.{torn_not}
use Rattle.line_journal.proofs.Moments.{once, then_same}
use Rattle.line_journal.proofs.device.write_through.Goals as goal

pub returns-in_err-write_at-clause-any_moment : goal.returns-in_err-write_at-clause-any_moment
returns-in_err-write_at-clause-any_moment g c =
    let file = g.D.Device.content c.args.device.now in
    once file c.requires.on_disk (torn_not file c.args.place (length c.args.bytes.now)) c.write_at.ensures.crash

pub returns-clause-any_moment : goal.returns-clause-any_moment
returns-clause-any_moment g c =
    let file = g.D.Device.content c.args.device.now in
    then_same (once file c.requires.on_disk (torn_not file c.args.place (length c.args.bytes.now)) c.write_at.ensures.crash) c.sync.ensures.crash
