use Rattle.kmod_query.specs.declared.look_up.Place.TheVariants.{Before, After}
use Rattle.kmod_query.proofs.ProbeLemmas.{OnOk-map}
use Rattle.kmod_query.proofs.fronts.Fronts.set.Goals as goal

pub returns-in-Before : goal.returns-in-Before
returns-in-Before c =
    OnOk-map c.set_count.result (λ step facts met own known. (step facts met Before (rw c.in-Before.is at own) known.0, known.1)) c.set_count.ensures

pub returns-in-After : goal.returns-in-After
returns-in-After c =
    OnOk-map c.set_count-in-After.result (λ step facts met own known. (known.0, step facts met After (rw c.in-After.is at own) known.1)) c.set_count-in-After.ensures
