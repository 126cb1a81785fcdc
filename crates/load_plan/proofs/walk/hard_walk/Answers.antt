use Rattle.std.proofs.Common.{◌∙◌, [], length, ap, sym, subst, replicate}
use Rattle.load_plan.specs.declared.walk.Mark.TheVariants.{New}
use Rattle.load_plan.specs.ForProofs.{AreMarks}
use Rattle.load_plan.proofs.HardVisits.{walked_within}
use Rattle.load_plan.proofs.Walking.{marks-new}
use Rattle.load_plan.proofs.walk.hard_walk.Goals as goal

pub returns-clause-marks : goal.returns-clause-marks
returns-clause-marks c =
    let new : AreMarks (length c.args.graph.now) c.in_ok-marks.marks.items [] [] = subst (λ l. AreMarks (length c.args.graph.now) l [] []) (sym (c.in_ok-marks.ensures ∙ ap (λ n. replicate n New) c.len.ensures.len)) (marks-new (length c.args.graph.now)) in
    c.walk.ensures.marks [] [] new

pub returns-clause-within : goal.returns-clause-within
returns-clause-within c =
    let new : AreMarks (length c.args.graph.now) c.in_ok-marks.marks.items [] [] = subst (λ l. AreMarks (length c.args.graph.now) l [] []) (sym (c.in_ok-marks.ensures ∙ ap (λ n. replicate n New) c.len.ensures.len)) (marks-new (length c.args.graph.now)) in
    walked_within c.args.graph.now c.args.tests c.args.start c.walk.result c.len.ensures.bounded c.requires (c.walk.ensures.order [] [] new)
