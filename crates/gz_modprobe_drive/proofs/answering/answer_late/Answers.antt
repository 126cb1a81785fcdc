use Rattle.std.proofs.Common.{refl}
use Rattle.std.proofs.lemmas.Result.{IfOk-weaker}
use Rattle.gz_modprobe_drive.specs.Answered.{said_by}
use Rattle.gz_modprobe_drive.proofs.EndLemmas.{later-with, read-with}
use Rattle.gz_modprobe_drive.proofs.answering.answer_late.Goals as goal

pub returns-clause-answer : goal.returns-clause-answer
unfolding said_by
returns-clause-answer g c =
    IfOk-weaker c.answer_machine.result _ _
    (λ own is. later-with c.args.machine.now _ c.args.query.now own.answer refl refl (λ whole. refl) (read-with _ c.args.query.now own.answer is))
    c.answer_machine.ensures.answer
