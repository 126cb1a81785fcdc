use Rattle.lint_ignores.proofs.KindLemmas.{each_has_a_kind}
use Rattle.lint_ignores.proofs.laws.each_has_a_kind.Goals as goal

pub returns : goal.returns
returns c = each_has_a_kind
