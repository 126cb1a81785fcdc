use Rattle.std.proofs.Common.{◌<◌, length}
use Rattle.std.proofs.lemmas.List.Sorted.{All-permutation}
use Rattle.load_plan.proofs.plans.removal_plan_in.Goals as goal

pub returns-clause-within : goal.returns-clause-within
returns-clause-within c =
    All-permutation (λ slot. slot < length c.args.graph.now) c.in_ok-walked.walked.order.items c.reverse.new.self.items c.reverse.ensures.permutation c.in_ok-walked.ensures.within
