use Rattle.std.proofs.Common.{arith, refl}
use Rattle.std.proofs.lemmas.List.{nil_from_length}
use Rattle.std.proofs.lemmas.Result.{err_from_is_err_and}
use Rattle.alias_match.proofs.Items.{has_members}
use Rattle.alias_match.proofs.Reading.{CompletesMembers-last, CompletesMembers-more, CompletesMembers-refused, CompletesMembers-unclosed}
use Rattle.alias_match.proofs.read.after_members.Goals as goal

pub returns-in_default-clause-value : goal.returns-in_default-clause-value
returns-in_default-clause-value c = CompletesMembers-unclosed c.members.invariant.1 (nil_from_length _ (c.in_default.ensures {u = tt}).cases)

pub returns-in_err-after-clause-value : goal.returns-in_err-after-clause-value
returns-in_err-after-clause-value c =
    let p = err_from_is_err_and c.from_residual.result c.from_residual.ensures.1 in
    rw (p.1, p.2) (CompletesMembers-refused c.members.invariant.1 c.in-Some.ensures.cases.0 c.in_err-after.ensures.value)

pub returns-in-Some-after_end-clause-value : goal.returns-in-Some-after_end-clause-value
returns-in-Some-after_end-clause-value c =
    has_members (CompletesMembers-last c.members.invariant.1 c.in-Some.ensures.cases.0 c.in_ok-after.ensures.value c.in-Some-after_end.ensures refl)

pub members-preserved : goal.members-preserved
members-preserved c = (
  _,
  CompletesMembers-more c.members.invariant.1 c.in-Some.ensures.cases.0 c.in_ok-after.ensures.value c.in_default-after_end.ensures refl,
  omega (arith, c.in-Some.ensures.cases.1, c.in_ok-after.ensures.shorter),
)
