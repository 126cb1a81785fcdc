use Rattle.std.proofs.Common.{◌∙◌, ap, sym}
use Rattle.text_parts.specs.Text.{normal_form}
use Rattle.text_parts.proofs.NameLemmas.{normal_again}
use Rattle.text_parts.proofs.names.Name.new.Goals as goal

pub invariant_of-result : goal.invariant_of-result
invariant_of-result c = ap normal_form c.in_ok-bytes.ensures ∙ normal_again c.args.word.now ∙ sym c.in_ok-bytes.ensures
