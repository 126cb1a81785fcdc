use Rattle.std.proofs.Common.{◌≡◌, ◌<◌, ◌∙◌, [], ◌∷◌, length, set, sym, ap, subst, arith, Err}
use Rattle.load_plan.specs.declared.refusal.PlanRefusal.TheVariants.{Unknown}
use Rattle.load_plan.specs.declared.walk.Mark.TheVariants.{Done}
use Rattle.load_plan.proofs.Lists.{none_of_length}
use Rattle.load_plan.proofs.Walking.{KeepsWalk-begin, KeepsWalk-finished, KeepsWalk-passes, KeepsWalk-enter, effort, effort-enter, effort-finish, effort-passes, IsInGraph-slot, Walks-again, Walks-blocked, Walks-nowhere, first_frame, stack_of, stack-pop, stack-push}
use Rattle.load_plan.proofs.walk.walk.Goals as goal

pub walk-init : goal.walk-init
walk-init c = KeepsWalk-begin c.args.graph.now c.args.tests c.args.start c.args.marks.items c.new-order.result.items (first_frame c.args.start ∷ stack_of c.new-waiting.result.items) c.requires.marks c.requires.start c.requires.new (sym c.is_blocked.ensures ∙ c.if-is_blocked.false) c.new-order.ensures.items (ap (λ l. first_frame c.args.start ∷ stack_of l) c.new-waiting.ensures.items)

pub next_step-requires-clause-slot : goal.next_step-requires-clause-slot
next_step-requires-clause-slot c = IsInGraph-slot c.walk.invariant.inside

pub index_mut-requires-in-Finish : goal.index_mut-requires-in-Finish
index_mut-requires-in-Finish c =
    let k : c.walk.frame.slot < length c.args.graph.now = IsInGraph-slot c.walk.invariant.inside in
    omega (arith, k, c.walk.invariant.inside.long, c.walk.marks.ok.0)

pub walk-preserved-in-Some : goal.walk-preserved-in-Some
walk-preserved-in-Some c =
    let step = rw c.deref.ensures.value at c.in-Finish.ensures in
    rw (stack-pop c.pop.new.self.items c.in-Some.ensures.items) at (KeepsWalk-finished step.at c.walk.invariant step.passes step.asked c.in_ok-push-in-Finish.ensures.items)

pub walk-preserved : goal.walk-preserved
walk-preserved c =
    let step = rw c.deref.ensures.value at c.in-Enter.ensures in
    rw (stack-push c.walk.waiting.items c.in_ok-push-in-Enter.ensures.items, step.asked.4) (KeepsWalk-enter (KeepsWalk-passes step.at c.walk.invariant step.passes) c.in-Enter.slot step.asked.0 step.asked.1 step.asked.2 step.asked.3)

pub returns-in-Again-clause-order : goal.returns-in-Again-clause-order
returns-in-Again-clause-order c way done marked =
    let step = rw c.deref.ensures.value at c.in-Again.ensures in
    Walks-again ((KeepsWalk-passes step.at c.walk.invariant step.passes).walks way done marked) c.in-Again.slot step.asked.0 step.asked.1 step.asked.2

pub returns-in-Blocked-clause-order : goal.returns-in-Blocked-clause-order
returns-in-Blocked-clause-order c way done marked =
    let step = rw c.deref.ensures.value at c.in-Blocked.ensures in
    let k = KeepsWalk-passes step.at c.walk.invariant step.passes in
    Walks-blocked k.inside (k.walks way done marked) c.in-Blocked.slot step.asked.0 step.asked.1 step.asked.2 step.asked.3

pub returns-in-Nowhere-clause-order : goal.returns-in-Nowhere-clause-order
returns-in-Nowhere-clause-order c way done marked =
    let step = rw c.deref.ensures.value at c.in-Nowhere.ensures in
    Walks-nowhere ((KeepsWalk-passes step.at c.walk.invariant step.passes).walks way done marked) c.in-Nowhere.name.now step.asked ∙ ap (λ n. Err (Unknown n)) (sym c.in_ok-name-in-Nowhere.ensures)

pub returns-in-None-clause-marks : goal.returns-in-None-clause-marks
returns-in-None-clause-marks c way done marked =
    let over : c.walk.waiting.items ≡ [] = none_of_length c.walk.waiting.items (omega (arith, c.in-None.ensures.cases.0, c.walk.waiting.ok.0)) in
    let step = rw c.deref.ensures.value at c.in-Finish.ensures in
    let finished = KeepsWalk-finished step.at c.walk.invariant step.passes step.asked c.in_ok-push-in-Finish.ensures.items in
    let k = rw over at (finished.walks way done marked) in
    k.marked

pub returns-in-None-clause-order : goal.returns-in-None-clause-order
returns-in-None-clause-order c way done marked =
    let over : c.walk.waiting.items ≡ [] = none_of_length c.walk.waiting.items (omega (arith, c.in-None.ensures.cases.0, c.walk.waiting.ok.0)) in
    let step = rw c.deref.ensures.value at c.in-Finish.ensures in
    let finished = KeepsWalk-finished step.at c.walk.invariant step.passes step.asked c.in_ok-push-in-Finish.ensures.items in
    let k = rw over at (finished.walks way done marked) in
    sym k.same

pub walk-smaller-in-Some : goal.walk-smaller-in-Some
walk-smaller-in-Some c =
    let inside : c.walk.frame.slot < length c.walk.marks.items = omega (arith, IsInGraph-slot c.walk.invariant.inside, c.walk.invariant.inside.long) in
    subst (λ fs. effort c.args.graph.now (set c.walk.marks.items c.walk.frame.slot Done) fs < effort c.args.graph.now c.walk.marks.items (c.walk.frame ∷ stack_of c.walk.waiting.items))
    (stack-pop c.pop.new.self.items c.in-Some.ensures.items)
    (effort-finish c.args.graph.now c.walk.marks.items c.walk.frame (stack_of c.walk.waiting.items) inside)

pub walk-smaller : goal.walk-smaller
walk-smaller c =
    let step = rw c.deref.ensures.value at c.in-Enter.ensures in
    let inside : c.in-Enter.slot < length c.walk.marks.items = omega (arith, step.asked.3, c.walk.invariant.inside.long) in
    let passed = effort-passes c.args.graph.now c.walk.marks.items c.walk.frame step.at (stack_of c.walk.waiting.items) step.passes in
    let entered = effort-enter c.args.graph.now c.walk.marks.items step.at (stack_of c.walk.waiting.items) c.in-Enter.slot step.asked.0 step.asked.1 step.asked.3 inside in
    rw (stack-push c.walk.waiting.items c.in_ok-push-in-Enter.ensures.items, step.asked.4) (omega (arith, passed, entered))
