use Rattle.std.proofs.Common.{◌∙◌}
use Rattle.text_parts.proofs.BstrLemmas.{same_as_bstr}
use Rattle.text_parts.proofs.text.whole_lines.Goals as goal

pub returns-clause-value : goal.returns-clause-value
returns-clause-value c = c.lines.ensures.value ∙ same_as_bstr c.args.text.now
