use Rattle.std.proofs.Common.{subst}
use Rattle.line_journal.specs.Journal.{IsFound}
use Rattle.line_journal.proofs.Moments.{from_here, then_same, still_on_disk}
use Rattle.line_journal.proofs.reading.look.Goals as goal

pub returns-clause-found : goal.returns-clause-found
returns-clause-found g c = subst (λ f. IsFound f c.in_ok-found.found) c.sync.ensures.content c.in_ok-found.ensures.found

pub returns-clause-on_disk : goal.returns-clause-on_disk
returns-clause-on_disk g c = still_on_disk c.in_ok-sync.ensures.on_disk c.peek.ensures.crash

pub returns-in_err-sync-clause-any_moment : goal.returns-in_err-sync-clause-any_moment
returns-in_err-sync-clause-any_moment g c =
    let old = g.D.Device.history c.args.device.now in
    then_same (from_here old old.leaves (λ left now. now)) c.sync.ensures.crash

pub returns-in_err-found-clause-any_moment : goal.returns-in_err-found-clause-any_moment
returns-in_err-found-clause-any_moment g c =
    let old = g.D.Device.history c.args.device.now in
    then_same (then_same (from_here old old.leaves (λ left now. now)) c.sync.ensures.crash) c.peek.ensures.crash

pub returns-clause-any_moment : goal.returns-clause-any_moment
returns-clause-any_moment g c =
    let old = g.D.Device.history c.args.device.now in
    then_same (then_same (from_here old old.leaves (λ left now. now)) c.sync.ensures.crash) c.peek.ensures.crash
