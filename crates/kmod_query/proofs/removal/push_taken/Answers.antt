use Rattle.std.proofs.Common.{◌∙◌, ap}
use Rattle.kmod_query.specs.Removal.{removed_before}
use Rattle.kmod_query.specs.World.{facts_of}
use Rattle.kmod_query.proofs.ProbeLemmas.{OnOk-map}
use Rattle.kmod_query.proofs.RemovalLemmas.{taken}
use Rattle.kmod_query.proofs.removal.push_taken.Goals as goal

pub returns : goal.returns
returns c =
    let facts = facts_of c.args.asked.now.world in
    OnOk-map c.push_each.result
    (taken facts c.args.asked.now.query c.args.soft c.args.object c.in_ok-items.items.items c.args.stack.now.items c.push.new.self.items c.push-2.new.self.items c.push_each.new.stack.items
    (c.in_ok-items.ensures ∙ ap (removed_before facts c.args.asked.now.query) c.deref.ensures.value) c.in_ok-push.ensures.items c.in_ok-push-2.ensures.items)
    c.push_each.ensures
