use Rattle.std.proofs.Common.{rules}
use Rattle.line_journal.specs.Renewed.{StaysTo}
use Rattle.line_journal.proofs.FollowLemmas.{known_front, stays_with_more, followed_by}
use Rattle.line_journal.proofs.journal.Journal.follow.Goals as goal

pub read_on-requires-clause-whole : goal.read_on-requires-clause-whole
read_on-requires-clause-whole g c =
    (known_front (g.D.Device.content c.args.self.now.device) (g.D.Device.content c.renew.new.self) c.args.self.now.end c.requires.read (search rules)).whole

pub returns-in-Longer-clause-followed : goal.returns-in-Longer-clause-followed
returns-in-Longer-clause-followed g c =
    let known = known_front (g.D.Device.content c.args.self.now.device) (g.D.Device.content c.renew.new.self) c.args.self.now.end c.requires.read (search rules) in
    followed_by g.D.Device.content c.args.self.now (record c.args.self.now { device = c.renew.new.self }) c.read_on.new.self c.read_on.result known.same c.read_on.ensures.added

pub returns-in-Other-clause-followed : goal.returns-in-Other-clause-followed
returns-in-Other-clause-followed g c = λ added continues.
    let old = g.D.Device.content c.args.self.now.device in
    let new = g.D.Device.content c.renew.new.self in
    let other : StaysTo c.args.self.now.end old new → ⊥ = search rules in
    other (stays_with_more old new c.args.self.now.end added c.requires.read continues)
