use Rattle.std.proofs.Common.{ap, sym, subst, ◌∙◌}
use Rattle.alias_match.specs.Reading.{IsPattern, pieces_of}
use Rattle.alias_match.proofs.Items.{begins_with, no_fault}
use Rattle.alias_match.proofs.item.Items.split_first.Goals as goal

pub invariant_of-result : goal.invariant_of-result
invariant_of-result c =
    (begins_with (subst IsPattern c.in_ok-first.ensures.cases.0 c.self.invariant) c.in-Ok.ensures.value).later

pub returns-in-Ok : goal.returns-in-Ok
returns-in-Ok c =
    sym c.self.view_is ∙ ap pieces_of c.in_ok-first.ensures.cases.0 ∙ (begins_with (subst IsPattern c.in_ok-first.ensures.cases.0 c.self.invariant) c.in-Ok.ensures.value).first

pub returns-in-Err : goal.returns-in-Err
returns-in-Err c = absurd (no_fault (subst IsPattern c.in_ok-first.ensures.cases.0 c.self.invariant) c.in-Err.ensures.value)
