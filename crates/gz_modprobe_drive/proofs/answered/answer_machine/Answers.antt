use Rattle.std.proofs.Common.{◌∙◌}
use Rattle.gz_modprobe_drive.proofs.AnswerLemmas.{answer_whole, known_same}
use Rattle.gz_modprobe_drive.proofs.answered.answer_machine.Goals as goal

pub returns-clause-answer : goal.returns-clause-answer
returns-clause-answer g c =
    answer_whole c.args.machine.now c.args.query.now _ _ (c.world_of-world.ensures ∙ known_same c.args.machine.now c.args.conf.now _ c.requires.conf.is c.in_ok-index.ensures) c.in_ok-answer.ensures c.requires.enough
