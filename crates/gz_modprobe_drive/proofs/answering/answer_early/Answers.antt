use Rattle.std.proofs.lemmas.Result.{IfOk-weaker}
use Rattle.gz_modprobe_drive.proofs.EndLemmas.{read-with}
use Rattle.gz_modprobe_drive.proofs.answering.answer_early.Goals as goal

pub returns-then-branch-clause-answer : goal.returns-then-branch-clause-answer
returns-then-branch-clause-answer g c = IfOk-weaker c.answer_machine.result _ _ (λ own is. read-with c.args.machine.now c.args.query.now own.answer is) c.answer_machine.ensures.answer
