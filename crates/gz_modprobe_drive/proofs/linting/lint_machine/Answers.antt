use Rattle.std.proofs.lemmas.Result.{IfOk-weaker}
use Rattle.gz_modprobe_drive.proofs.LintLemmas.{linted-well}
use Rattle.gz_modprobe_drive.proofs.linting.lint_machine.Goals as goal

pub returns-clause-well : goal.returns-clause-well
returns-clause-well g c =
    IfOk-weaker c.judge.result _ _
    (λ status is zero. linted-well _ c.args.run.now.asked.now.switches.strict c.args.run.now.texts.now c.args.run.now.modules.now c.in_ok-later.later c.in_ok-tree.tree c.in_ok-is_read.is_read c.in_ok-linted.linted.is_noted
    c.in_ok-linted.linted.unchecked status _ _
    c.requires.kmod c.in_ok-tree.ensures c.in_ok-linted.ensures.well is zero)
    c.judge.ensures
