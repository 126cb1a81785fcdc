use Rattle.std.proofs.Common.{◌<◌, ℕ, List, [], ◌∷◌, length, All}
use Rattle.std.proofs.lemmas.List.Elements.{All-append, All-cons, All-nil}
use Rattle.modprobe.proofs.SettlingLemmas.{next_removals}
use Rattle.modprobe.proofs.request.removal_plans_of.Goals as goal

pub loop-target-preserved : goal.loop-target-preserved
loop-target-preserved c =
    let P : List ℕ → Type 0 = λ plan. All (λ slot. slot < length c.args.setup.now.catalogue) plan in
    let plan = c.in_ok-order.order.items in
    record {
      left = next_removals c.args.setup.now c.args.targets.now c.loop-target.target-index c.target-item.result plan c.loop-target.plans.items c.push.new.self.items c.loop-target-test.true c.target-item.is (rw (c.requires.catalogue, c.requires.dependencies, c.requires.configuration) at c.in_ok-order.ensures.order) c.in_ok-push.ensures.items c.loop-target.invariant.left;
      within = rw c.in_ok-push.ensures.items (All-append P c.loop-target.plans.items (plan ∷ []) c.loop-target.invariant.within (All-cons P plan [] (rw c.requires.catalogue at c.in_ok-order.ensures.within) (All-nil P)));
    }
