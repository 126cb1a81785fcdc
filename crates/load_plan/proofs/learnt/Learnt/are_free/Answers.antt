use Rattle.std.proofs.Common.{◌∙◌, ◌++◌, ap, get_or, sym, take}
use Rattle.std.specs.List.{list_all}
use Rattle.std.proofs.lemmas.List.Folds.{list_all_more}
use Rattle.std.proofs.lemmas.List.{take_all}
use Rattle.load_plan.specs.Laws.{is_in}
use Rattle.load_plan.proofs.Lists.{and_makes}
use Rattle.load_plan.proofs.learnt.Learnt.are_free.Goals as goal

pub loop-target-preserved : goal.loop-target-preserved
loop-target-preserved c graph long progress done marked kept known =
    list_all_more (is_in (done ++ c.args.self.now.order.items)) c.args.targets.now c.loop-target.target-index c.target-item.result c.loop-target-test.true
    ∙ and_makes (list_all (is_in (done ++ c.args.self.now.order.items)) (take c.loop-target.target-index c.args.targets.now)) (is_in (done ++ c.args.self.now.order.items) (get_or c.args.targets.now c.loop-target.target-index c.target-item.result)) (c.loop-target.invariant graph long progress done marked kept known) (ap (is_in (done ++ c.args.self.now.order.items)) (sym c.target-item.is) ∙ c.is_free.ensures graph long progress done marked kept known c.if-not-is_free.false)

pub returns : goal.returns
returns c graph long progress done marked kept known _ =
    sym (ap (list_all (is_in (done ++ c.args.self.now.order.items))) (take_all c.loop-target.target-index c.args.targets.now c.loop-target-test.false)) ∙ c.loop-target.invariant graph long progress done marked kept known
