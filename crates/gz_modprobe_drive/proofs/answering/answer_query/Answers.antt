use Rattle.std.proofs.Common.{ap, sym, ◌∙◌}
use Rattle.gz_modprobe_drive.specs.Paths.{words_of}
use Rattle.gz_modprobe_drive.proofs.EndLemmas.{answer-begun, answered-well}
use Rattle.gz_modprobe_drive.proofs.answering.answer_query.Goals as goal

pub returns-clause-well : goal.returns-clause-well
returns-clause-well g c =
    λ zero. answered-well _ c.args.query.now c.in_ok-answered.answered _ _ _ _ c.requires.kmod c.shape_of.ensures (ap words_of c.deref.ensures.value ∙ c.in_ok-paths.ensures)
    c.in_ok-answered.ensures.answer c.in_ok-answered.ensures.written (sym c.status.ensures ∙ zero)

pub returns-clause-begun : goal.returns-clause-begun
returns-clause-begun g c =
    answer-begun _ c.args.query.now c.in_ok-answered.answered _ _ _ _ c.requires.kmod c.shape_of.ensures (ap words_of c.deref.ensures.value ∙ c.in_ok-paths.ensures)
    c.in_ok-answered.ensures.answer c.in_ok-answered.ensures.written

pub returns-in_err-tell_failures-clause-begun : goal.returns-in_err-tell_failures-clause-begun
returns-in_err-tell_failures-clause-begun g c =
    answer-begun _ c.args.query.now c.in_ok-answered.answered _ _ _ _ c.requires.kmod c.shape_of.ensures (ap words_of c.deref.ensures.value ∙ c.in_ok-paths.ensures)
    c.in_ok-answered.ensures.answer c.in_ok-answered.ensures.written
