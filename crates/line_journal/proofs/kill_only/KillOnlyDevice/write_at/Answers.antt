use Rattle.std.proofs.Common.{◌≡◌, ℕ, List, length, refl, sym, subst, ◌∙◌, ap}
use Rattle.line_journal.specs.Device.{overwritten, Torn}
use Rattle.line_journal.proofs.ByteLemmas.{torn_not}
use Rattle.line_journal.proofs.KillLemmas.{not_held, held_next, torn_done}
use Rattle.line_journal.proofs.kill_only.KillOnlyDevice.write_at.Goals as goal

pub returns-in_err-next-clause-crash : goal.returns-in_err-next-clause-crash
returns-in_err-next-clause-crash c =
    let past = c.args.self.now.past.items in
    let old = c.args.self.now.bytes.items in
    not_held past past old old refl refl (torn_not old c.args.place (length c.args.bytes.now))

pub returns-in_err-hold-clause-crash : goal.returns-in_err-hold-clause-crash
returns-in_err-hold-clause-crash c =
    let past = c.args.self.now.past.items in
    let old = c.args.self.now.bytes.items in
    not_held past c.hold.new.self.past.items old c.hold.new.self.bytes.items c.in_err-hold.ensures.past_err c.in_err-hold.ensures.err (torn_not old c.args.place (length c.args.bytes.now))

pub returns-clause-crash : goal.returns-clause-crash
returns-clause-crash c =
    let past = c.args.self.now.past.items in
    let old = c.args.self.now.bytes.items in
    let new = c.hold.new.self.bytes.items in
    let was = c.in_ok-hold.ensures.past in
    let written : new ≡ overwritten old c.args.place c.args.bytes.now = c.in_ok-hold.ensures.ok ∙ c.in_ok-next.ensures ∙ ap (λ (f : List ℕ). overwritten f c.args.place c.args.bytes.now) c.deref.ensures.value in
    held_next past c.hold.new.self.past.items was.0 old new was.1 was.2 (subst (λ (f : List ℕ). Torn c.args.place (length c.args.bytes.now) old f) (sym written) (torn_done old c.args.bytes.now c.args.place c.requires))
