use Rattle.std.proofs.Common.{Ok, Err, refl, subst}
use Rattle.std.proofs.lemmas.Result.{err_from_is_err_and}
use Rattle.alias_match.specs.Reading.{HasMembers, members_of, set}
use Rattle.alias_match.proofs.Reading.{set_gives}
use Rattle.alias_match.proofs.item.Set.read.Goals as goal

pub returns-in_err-rest-clause-value : goal.returns-in_err-rest-clause-value
returns-in_err-rest-clause-value c =
    let p = err_from_is_err_and c.from_residual.result c.from_residual.ensures.1 in
    rw (p.1, p.2) (set (Err _) refl (subst (λ x. HasMembers x (Err c.in_err-rest.field-0.0)) c.split_sign-negated.ensures.rest c.in_err-rest.ensures.value))

pub returns-clause-value : goal.returns-clause-value
returns-clause-value c =
    set_gives refl c.split_sign-negated.ensures.negated (subst (λ x. HasMembers x (Ok (members_of c.split_sign-negated.result.1.now, c.in_ok-rest.rest.now))) c.split_sign-negated.ensures.rest c.in_ok-rest.ensures.value)
