use Rattle.std.proofs.Common.{ap, subst, ◌∙◌}
use Rattle.std.proofs.lemmas.Result.{IfOk-weaker}
use Rattle.answer_diff.specs.Differences.{differences_of}
use Rattle.gz_modprobe_drive.specs.Compared.{AreChanges}
use Rattle.gz_modprobe_drive.proofs.comparing.told_lines.Goals as goal

pub returns-clause-changes : goal.returns-clause-changes
returns-clause-changes c =
    IfOk-weaker c.lines_of.result _ _
    (λ lines is. subst (λ all. AreChanges c.args.form c.args.one c.args.other all lines.text.items) (ap differences_of c.deref.ensures.value ∙ c.in_ok-all.ensures) is)
    c.lines_of.ensures.changes
