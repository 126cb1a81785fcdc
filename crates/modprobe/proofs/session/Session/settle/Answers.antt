use Rattle.std.proofs.Common.{◌≡◌, ◌++◌, length, refl, ◌∙◌, ap, subst, inl, inr}
use Rattle.std.proofs.lemmas.List.{take_all}
use Rattle.modprobe.specs.Settling.{AreSure}
use Rattle.modprobe.proofs.SlotLemmas.{modules_of_length}
use Rattle.modprobe.proofs.SettlingLemmas.{plans_settle, sure_next}
use Rattle.modprobe.proofs.session.Session.settle.Goals as goal
use Rattle.modprobe.proofs.session.Session.settle.Goals.{then-is_sure, else-is_sure}

pub loop-item-preserved : goal.loop-item-preserved
loop-item-preserved g c =
    let s = c.args.self.now.setup.now in
    let t = g.M.Modules.table c.args.self.now.table.now in
    let planner = c.loop-item.planner in
    let item = c.item-item.result in
    let long : length t.book.states ≡ length s.catalogue = c.laws.ensures.shaped.states ∙ ap length c.args.self.now.over ∙ modules_of_length s.catalogue in
    elim c.if-is_sure.branch [
      | then-is_sure w ↦ rw w.planner-is (record {
        plans = plans_settle s planner w.settle.new.self item.slot w.settle.ensures.sources w.settle.ensures.settled c.loop-item.invariant.plans;
        sure = λ before within known. sure_next s t before c.args.items.now c.loop-item.item-index item planner.settled w.settle.new.self.settled long within c.requires.within c.loop-item-test.true c.item-item.is (inr (c.is_sure.ensures w.if-is_sure.true, w.settle.ensures.settled)) (c.loop-item.invariant.sure before within known);
      })
      | else-is_sure w ↦ rw w.planner-is (record {
        plans = c.loop-item.invariant.plans;
        sure = λ before within known. sure_next s t before c.args.items.now c.loop-item.item-index item planner.settled planner.settled long within c.requires.within c.loop-item-test.true c.item-item.is (inl refl) (c.loop-item.invariant.sure before within known);
      })
    ]

pub returns-clause-sure : goal.returns-clause-sure
returns-clause-sure g c before within known =
    subst (λ l. AreSure c.args.self.now.setup.now (g.M.Modules.table c.args.self.now.table.now) (before ++ l) c.loop-item.planner.settled)
    (take_all c.loop-item.item-index c.args.items.now c.loop-item-test.false) (c.loop-item.invariant.sure before within known)
