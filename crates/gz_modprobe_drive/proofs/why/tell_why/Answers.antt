use Rattle.std.proofs.lemmas.Result.{IfOk-weaker}
use Rattle.gz_modprobe_drive.proofs.LintLemmas.{none-noted}
use Rattle.gz_modprobe_drive.proofs.why.tell_why.Goals as goal

pub returns-clause-told : goal.returns-clause-told
returns-clause-told g c =
    IfOk-weaker c.judge.result _ _
    (λ status is zero. c.in_ok-is_noted.ensures.told (none-noted c.in_ok-tree.tree c.in_ok-is_read.is_read c.in_ok-is_noted.is_noted 0 status is zero))
    c.judge.ensures
