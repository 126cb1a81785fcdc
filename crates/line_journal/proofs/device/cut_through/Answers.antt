use Rattle.line_journal.proofs.ByteLemmas.{shortened_not}
use Rattle.line_journal.proofs.Moments.{once, then_same}
use Rattle.line_journal.proofs.device.cut_through.Goals as goal

pub returns-in_err-cut-clause-any_moment : goal.returns-in_err-cut-clause-any_moment
returns-in_err-cut-clause-any_moment g c =
    let file = g.D.Device.content c.args.device.now in
    once file c.requires.on_disk (shortened_not file c.args.size c.requires.within) c.cut.ensures.crash

pub returns-clause-any_moment : goal.returns-clause-any_moment
returns-clause-any_moment g c =
    let file = g.D.Device.content c.args.device.now in
    then_same (once file c.requires.on_disk (shortened_not file c.args.size c.requires.within) c.cut.ensures.crash) c.sync.ensures.crash
