use Rattle.std.proofs.Common.{ap, ◌∙◌}
use Rattle.std.proofs.lemmas.Result.{IfOk-weaker}
use Rattle.text_parts.specs.Text.{texts_of}
use Rattle.answer_diff.proofs.LineLemmas.{told-apart}
use Rattle.answer_diff.proofs.lines.added_lines.Goals as goal

pub returns : goal.returns
returns c =
    IfOk-weaker c.telling_lines.result _ _
    (λ lines is. told-apart (texts_of lines.items) _ _ _ _ is c.in_ok-after.ensures (ap texts_of c.deref.ensures.value ∙ c.in_ok-before.ensures))
    c.telling_lines.ensures
