use Rattle.std.proofs.Common.{Err, subst}
use Rattle.std.proofs.lemmas.Result.{err_from_is_err_and}
use Rattle.alias_match.specs.Reading.{IsPattern, Reads}
use Rattle.alias_match.proofs.Plain.{begins_plainly, fault_behind}
use Rattle.alias_match.proofs.read.check_from_plain.Goals as goal

pub returns-in_err-check-clause-checked : goal.returns-in_err-check-clause-checked
returns-in_err-check-clause-checked c =
    let p = err_from_is_err_and c.from_residual.result c.from_residual.ensures.1 in
    rw (p.1, p.2) (fault_behind c.args.text.now c.count_plain-count.result _ c.count_plain-count.ensures.value (subst (λ x. Reads x (Err c.in_err-check.field-0.0)) c.split_at.ensures.back c.in_err-check.ensures))

pub returns-clause-checked : goal.returns-clause-checked
returns-clause-checked c =
    (begins_plainly c.args.text.now c.count_plain-count.result c.count_plain-count.ensures.value c.count_plain-count.ensures.within (subst IsPattern c.split_at.ensures.back c.in_ok-check.ensures)).whole

pub returns-clause-plain : goal.returns-clause-plain
returns-clause-plain c =
    begins_plainly c.args.text.now c.count_plain-count.result c.count_plain-count.ensures.value c.count_plain-count.ensures.within (subst IsPattern c.split_at.ensures.back c.in_ok-check.ensures)
