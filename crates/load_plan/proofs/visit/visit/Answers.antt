use Rattle.std.proofs.Common.{◌≡◌, ◌<◌, ◌∙◌, [], ◌∷◌, length, sym, ap, arith, subst, replicate}
use Rattle.std.proofs.lemmas.List.{length-replicate}
use Rattle.load_plan.specs.declared.learnt.Verdict.{Verdict}
use Rattle.load_plan.specs.declared.learnt.Verdict.TheVariants.{Unknown}
use Rattle.load_plan.specs.declared.walk.Mark.{Mark}
use Rattle.load_plan.specs.declared.walk.Mark.TheVariants.{New}
use Rattle.load_plan.specs.declared.graph.Phase.TheVariants.{Pre}
use Rattle.load_plan.specs.ForProofs.{AreMarks}
use Rattle.load_plan.specs.VisitSteps.{first_stage}
use Rattle.load_plan.proofs.Lists.{all_below}
use Rattle.load_plan.proofs.Walking.{marks-new}
use Rattle.load_plan.proofs.Visiting.{Learns-append, Learns-begin, Learns-enter, Learns-leave, Learns-pass, Learns-turn, Visits-begin, Visits-slot}
use Rattle.load_plan.proofs.Lessons.{Learnt-begin}
use Rattle.load_plan.proofs.Effort.{effort-append, effort-enter, stack_of, stack-pop, stack-push}
use Rattle.load_plan.proofs.visit.visit.Goals as goal

pub visit-init : goal.visit-init
visit-init c =
    let count : length c.in_ok-marks.marks.items ≡ length c.args.graph.now = ap length (c.in_ok-marks.ensures ∙ ap (λ n. replicate n New) c.len.ensures.len) ∙ length-replicate {A = Mark} (length c.args.graph.now) New in
    let new : AreMarks (length c.args.graph.now) c.in_ok-marks.marks.items [] [] = subst (λ l. AreMarks (length c.args.graph.now) l [] []) (sym (c.in_ok-marks.ensures ∙ ap (λ n. replicate n New) c.len.ensures.len)) (marks-new (length c.args.graph.now)) in
    let learnt : c.in_ok-learnt.learnt.verdicts.items ≡ replicate (length c.args.graph.now) Unknown = c.in_ok-learnt.ensures.verdicts ∙ ap (λ n. replicate n Unknown) c.len-2.ensures.len in
    let long : length c.enter.new.self.verdicts.items ≡ length c.args.graph.now = c.enter.ensures.long ∙ ap length learnt ∙ length-replicate {A = Verdict} (length c.args.graph.now) Unknown in
    rw c.first-stage.ensures
    (Learns-begin c.in_ok-learnt.learnt c.enter.new.self
    (Visits-begin c.args.graph.now c.args.start c.in_ok-marks.marks.items c.new-order.result.items (first_stage Pre c.args.start ∷ stack_of c.new-waiting.result.items) c.requires.walked.0 c.len.ensures.bounded c.requires.walked.1 c.requires.start count new c.new-order.ensures.items (ap (λ l. first_stage Pre c.args.start ∷ stack_of l) c.new-waiting.ensures.items))
    (ap (λ l. first_stage Pre c.args.start ∷ stack_of l) c.new-waiting.ensures.items)
    (Learnt-begin c.args.graph.now c.new-order.result.items c.in_ok-learnt.learnt.verdicts.items c.in_ok-learnt.learnt.order.items learnt c.in_ok-learnt.ensures.order)
    long (λ progress done k. c.enter.ensures.known c.args.graph.now progress done k))

pub visit-preserved-in-Turn : goal.visit-preserved-in-Turn
visit-preserved-in-Turn c = Learns-turn c.visit.learnt c.next_move.new.learnt c.visit.invariant c.in_ok-next.ensures.long (rw c.deref.ensures.value at c.in_ok-next.ensures.known) (rw (c.deref.ensures.value, c.in-Turn.is) at c.in_ok-next.ensures.moves)

pub visit-preserved-in-Pass : goal.visit-preserved-in-Pass
visit-preserved-in-Pass c = Learns-pass c.visit.learnt c.next_move.new.learnt c.visit.invariant c.in_ok-next.ensures.long (rw c.deref.ensures.value at c.in_ok-next.ensures.known) (rw (c.deref.ensures.value, c.in-Pass.is) at c.in_ok-next.ensures.moves) (rw (c.deref.ensures.value, c.in-Pass.is) at c.in_ok-next.ensures.taken)

pub visit-preserved-in-Append : goal.visit-preserved-in-Append
visit-preserved-in-Append c = rw c.in_ok-push-in-Append.ensures.items (Learns-append c.visit.learnt c.next_move.new.learnt c.visit.invariant c.in_ok-next.ensures.long (rw c.deref.ensures.value at c.in_ok-next.ensures.known) (rw (c.deref.ensures.value, c.in-Append.is) at c.in_ok-next.ensures.moves))

pub visit-smaller-in-Append : goal.visit-smaller-in-Append
visit-smaller-in-Append c =
    let move = rw (c.deref.ensures.value, c.in-Append.is) at c.in_ok-next.ensures.moves in
    let inside : c.visit.stage.slot < length c.visit.marks.items = omega (arith, Visits-slot c.visit.invariant.visits, c.visit.invariant.visits.long) in
    rw move.2 (effort-append c.args.graph.now c.visit.marks.items c.visit.stage (stack_of c.visit.waiting.items) move.0 inside)

pub visit-preserved-in-Some : goal.visit-preserved-in-Some
visit-preserved-in-Some c =
    let move = rw (c.deref.ensures.value, c.in-Leave.is) at c.in_ok-next.ensures.moves in
    rw (stack-pop c.pop.new.self.items c.in-Some.ensures.items) at (Learns-leave c.visit.learnt c.next_move.new.learnt c.visit.invariant c.in_ok-next.ensures.long (rw c.deref.ensures.value at c.in_ok-next.ensures.known) move)

pub visit-preserved : goal.visit-preserved
visit-preserved c =
    rw (stack-push c.visit.waiting.items c.in_ok-push-in-Enter.ensures.items, c.first-stage-in-Enter.ensures)
    (Learns-enter c.visit.learnt c.next_move.new.learnt c.enter-in-Enter.new.self c.in-Enter.slot c.visit.invariant (c.enter-in-Enter.ensures.long ∙ c.in_ok-next.ensures.long) (rw c.deref.ensures.value at c.in_ok-next.ensures.known) (λ progress done k. c.enter-in-Enter.ensures.known c.args.graph.now progress done k) (rw (c.deref.ensures.value, c.in-Enter.is) at c.in_ok-next.ensures.moves) (rw (c.deref.ensures.value, c.in-Enter.is) at c.in_ok-next.ensures.taken))

pub returns-in-None-clause-within : goal.returns-in-None-clause-within
returns-in-None-clause-within c = all_below (length c.args.graph.now) c.visit.order.items (λ q h. (c.visit.invariant.visits.kept.entered q h).0)

pub visit-smaller : goal.visit-smaller
visit-smaller c =
    let move = rw (c.deref.ensures.value, c.in-Enter.is) at c.in_ok-next.ensures.moves in
    let inside : c.in-Enter.slot < length c.visit.marks.items = omega (arith, move.1, c.visit.invariant.visits.long) in
    rw (stack-push c.visit.waiting.items c.in_ok-push-in-Enter.ensures.items, c.first-stage-in-Enter.ensures, move.3)
    (effort-enter c.args.graph.now c.visit.marks.items c.visit.stage (stack_of c.visit.waiting.items) c.in-Enter.slot move.0 move.2 move.1 inside)
