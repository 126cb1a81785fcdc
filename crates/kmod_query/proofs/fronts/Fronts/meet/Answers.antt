use Rattle.std.proofs.Common.{◌≡◌, subst, arith}
use Rattle.kmod_query.specs.Stacks.{IsFront, soft_of}
use Rattle.kmod_query.proofs.ProbeLemmas.{OnOk-map}
use Rattle.kmod_query.proofs.SoftLemmas.{front-grown}
use Rattle.kmod_query.proofs.fronts.Fronts.meet.Goals as goal

pub returns : goal.returns
returns c =
    let same : c.of.result ≡ c.args.index = omega arith in
    OnOk-map c.set.result
    (λ step facts met object next at known fronts.
    step facts met
    (front-grown met c.args.index c.args.next (soft_of facts c.args.place c.args.name.now) object next
    (subst (λ k. IsFront met k (soft_of facts c.args.place c.args.name.now)) same (c.of.ensures facts met fronts)) at known)
    fronts)
    c.set.ensures
