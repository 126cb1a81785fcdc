use Rattle.std.proofs.Common.{◌≡◌, rules}
use Rattle.line_journal.proofs.kill_only.KillOnly.hold.Goals as goal

pub returns-clause-past : goal.returns-clause-past
returns-clause-past c =
    let same : c.in_ok-to_vec.field-0.items ≡ c.args.self.now.bytes.items = search rules in
    (c.in_ok-to_vec.field-0, same, c.in_ok-push.ensures.items)
