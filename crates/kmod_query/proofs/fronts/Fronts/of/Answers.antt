use Rattle.std.proofs.Common.{subst, sym}
use Rattle.kmod_query.specs.declared.look_up.Place.TheVariants.{Before, After}
use Rattle.kmod_query.specs.Stacks.{IsFront, soft_of}
use Rattle.kmod_query.proofs.SoftLemmas.{front_in}
use Rattle.kmod_query.proofs.fronts.Fronts.of.Goals as goal

pub returns-in-Before : goal.returns-in-Before
returns-in-Before c facts met known =
    rw c.in-Before.is
    (subst (λ k. IsFront met k (soft_of facts Before c.args.name.now)) (sym c.count_in.ensures) (front_in facts met Before c.args.self.now.before.entries c.args.name.now known.0))

pub returns-in-After : goal.returns-in-After
returns-in-After c facts met known =
    rw c.in-After.is
    (subst (λ k. IsFront met k (soft_of facts After c.args.name.now)) (sym c.count_in-in-After.ensures) (front_in facts met After c.args.self.now.after.entries c.args.name.now known.1))
