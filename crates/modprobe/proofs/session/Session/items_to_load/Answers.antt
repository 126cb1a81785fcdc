use Rattle.std.proofs.Common.{◌+◌, ◌++◌, drop, length, sym, ◌∙◌, subst}
use Rattle.std.proofs.lemmas.List.{drop_all}
use Rattle.std.proofs.lemmas.Result.{err_from_is_err_and}
use Rattle.text_parts.specs.Text.{texts_of}
use Rattle.load_plan.specs.Items.{FailsAs, plan_of}
use Rattle.load_plan.specs.Outlook.{Outlook}
use Rattle.modprobe.specs.Settling.{AreSure, Settling}
use Rattle.modprobe.proofs.SettlingLemmas.{fails_next, plan_same, Settling-at, Settling-begin, Settling-end, Settling-plan, Settling-skip}
use Rattle.modprobe.proofs.session.Session.items_to_load.Goals as goal

pub loop-target-init : goal.loop-target-init
loop-target-init g c =
    let s = c.args.self.now.setup.now in
    record {
      plans = c.requires.plans;
      settling = Settling-begin s (g.M.Modules.table c.args.self.now.table.now) (texts_of c.args.words.now) c.args.targets.now c.args.planner.now.settled (length s.catalogue) c.new-items.result.items c.requires.settled c.new-items.ensures.items;
    }

pub returns-in_err-has_settled_plan-clause-items : goal.returns-in_err-has_settled_plan-clause-items
returns-in_err-has_settled_plan-clause-items g c =
    let p = err_from_is_err_and c.from_residual.result c.from_residual.ensures.1 in
    let s = c.args.self.now.setup.now in
    let words = texts_of c.args.words.now in
    let e = c.in_err-has_settled_plan.field-0.0 in
    let fails : FailsAs e (plan_of s.catalogue s.dependencies s.configuration c.target-item.result words) = subst (FailsAs e) (plan_same s c.loop-target.planner c.target-item.result words c.loop-target.invariant.plans) (c.in_err-has_settled_plan.ensures.refused words) in
    rw (p.1, p.2) (fails_next s words c.args.targets.now c.loop-target.target-index c.target-item.result c.loop-target.invariant.settling.whole e c.loop-target-test.true c.target-item.is fails c.loop-target.invariant.settling.left)

pub loop-target-preserved-then-branch : goal.loop-target-preserved-then-branch
loop-target-preserved-then-branch g c =
    let s = c.args.self.now.setup.now in
    let t = g.M.Modules.table c.args.self.now.table.now in
    let words = texts_of c.args.words.now in
    let targets = c.args.targets.now in
    let i = c.loop-target.target-index in
    let target = c.target-item.result in
    let planner = c.loop-target.planner in
    let settled = c.in_ok-has_settled_plan.ensures.settled c.if-branch.true words in
    rw c.in_ok-has_settled_plan.ensures.same (record {
      plans = c.loop-target.invariant.plans;
      settling = Settling-skip s t words targets (drop (i + 1) targets) target planner.settled c.loop-target.items.items settled.0 (Settling-at s t words targets i target planner.settled c.loop-target.items.items c.loop-target-test.true c.target-item.is c.loop-target.invariant.settling) (sym (plan_same s planner target words c.loop-target.invariant.plans) ∙ settled.1) settled.2;
    })

pub loop-target-preserved : goal.loop-target-preserved
loop-target-preserved g c =
    let s = c.args.self.now.setup.now in
    let t = g.M.Modules.table c.args.self.now.table.now in
    let words = texts_of c.args.words.now in
    let targets = c.args.targets.now in
    let i = c.loop-target.target-index in
    let target = c.target-item.result in
    let planner = c.loop-target.planner in
    let items = c.loop-target.items.items in
    let more = c.in_ok-more.more.items in
    let after = c.settle.new.planner.settled in
    let x : Settling s t words targets (drop i targets) planner.settled items = c.loop-target.invariant.settling in
    let known : AreSure s t items c.has_settled_plan.new.self.settled = subst (λ (o : Outlook). AreSure s t items o.settled) (sym c.in_ok-has_settled_plan.ensures.same) x.sure in
    let sure : AreSure s t (items ++ more) after = subst (λ l. AreSure s t (items ++ l) after) c.deref.ensures.value (c.settle.ensures.sure items x.within known) in
    record {
      plans = c.settle.ensures.plans;
      settling = rw c.in_ok-append.ensures.items (Settling-plan s t words targets (drop (i + 1) targets) target planner.settled after items more (Settling-at s t words targets i target planner.settled items c.loop-target-test.true c.target-item.is x) c.in_ok-more.ensures.items c.in_ok-more.ensures.within sure);
    }

pub returns-clause-items : goal.returns-clause-items
returns-clause-items g c =
    let s = c.args.self.now.setup.now in
    let t = g.M.Modules.table c.args.self.now.table.now in
    let words = texts_of c.args.words.now in
    let targets = c.args.targets.now in
    Settling-end s t words targets c.loop-target.planner.settled c.loop-target.items.items
    (subst (λ l. Settling s t words targets l c.loop-target.planner.settled c.loop-target.items.items) (drop_all c.loop-target.target-index targets c.loop-target-test.false) c.loop-target.invariant.settling)
