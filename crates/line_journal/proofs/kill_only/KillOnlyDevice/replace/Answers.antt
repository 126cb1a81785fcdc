use Rattle.std.proofs.Common.{◌≡◌, inl, inr, refl, rules}
use Rattle.line_journal.proofs.KillLemmas.{not_held, held_next}
use Rattle.line_journal.proofs.kill_only.KillOnlyDevice.replace.Goals as goal

pub returns-in_err-next-clause-crash : goal.returns-in_err-next-clause-crash
returns-in_err-next-clause-crash c =
    let past = c.args.self.now.past.items in
    let old = c.args.self.now.bytes.items in
    not_held past past old old refl refl (inl refl)

pub returns-in_err-hold-clause-crash : goal.returns-in_err-hold-clause-crash
returns-in_err-hold-clause-crash c =
    let past = c.args.self.now.past.items in
    let old = c.args.self.now.bytes.items in
    not_held past c.hold.new.self.past.items old c.hold.new.self.bytes.items c.in_err-hold.ensures.past_err c.in_err-hold.ensures.err (inl refl)

pub returns-clause-crash : goal.returns-clause-crash
returns-clause-crash c =
    let past = c.args.self.now.past.items in
    let old = c.args.self.now.bytes.items in
    let new = c.hold.new.self.bytes.items in
    let was = c.in_ok-hold.ensures.past in
    let is_new : new ≡ c.args.bytes.now = search rules in
    held_next past c.hold.new.self.past.items was.0 old new was.1 was.2 (inr is_new)
