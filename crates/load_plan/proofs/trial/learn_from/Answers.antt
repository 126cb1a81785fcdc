use Rattle.std.proofs.Common.{◌≡◌, ◌<◌, ◌∙◌, ◌∷◌, [], ap, length, reverse, subst, sym, All, Some}
use Rattle.std.proofs.lemmas.List.{reverse-append}
use Rattle.std.proofs.lemmas.List.Elements.{All-pop, All-push}
use Rattle.load_plan.specs.declared.walk.Frame.{Frame}
use Rattle.load_plan.specs.Learnt.{IsWay, StaysKnown}
use Rattle.load_plan.proofs.trial.learn_from.Goals as goal
use Rattle.load_plan.proofs.trial.learn_from.Goals.{in-Stay, in-Enter+in_ok-push-in-Enter, in-Back+in-Some}

pub returns-in-None-clause-known : goal.returns-in-None-clause-known
returns-in-None-clause-known c progress done marked kept known = c.in_ok-next.ensures.known progress done marked kept (c.loop.invariant.known progress done marked kept known)

pub loop-preserved : goal.loop-preserved
loop-preserved c =
    let known : StaysKnown c.args.graph.now c.args.marks.now c.args.learnt.now c.learn.new.learnt =
    λ progress done marked kept k. c.in_ok-next.ensures.known progress done marked kept (c.loop.invariant.known progress done marked kept k) in
    let P : Frame → Type 0 = λ f. f.slot < length c.args.graph.now in
    elim c.match-branch-2.branch [
      | in-Stay w ↦
          (let same : w.in-Stay.next.slot ≡ c.loop.frame.slot = rw w.in-Stay.is at c.in_ok-next.ensures.lesson in
          rw (w.way'-is, w.frame-is) (record {
            inside = subst (λ x. x < length c.args.graph.now) (sym same) c.loop.invariant.inside;
            all = c.loop.invariant.all;
            way = subst (λ x. IsWay c.args.graph.now (reverse c.loop.way.items) x) (sym same) c.loop.invariant.way;
            long = c.in_ok-next.ensures.long;
            known = known;
          }))
      | in-Enter+in_ok-push-in-Enter w ↦
          (let entered = rw w.in-Enter.is at c.in_ok-next.ensures.lesson in
          rw (w.way'-is, w.frame-is, w.in_ok-push-in-Enter.ensures.items) (record {
            inside = entered.0;
            all = All-push P c.loop.way.items c.loop.frame c.loop.invariant.all c.loop.invariant.inside;
            way = subst (λ l. IsWay c.args.graph.now l w.in-Enter.slot) (sym (reverse-append c.loop.way.items (c.loop.frame ∷ []))) (entered.1, c.loop.invariant.way);
            long = c.in_ok-next.ensures.long;
            known = known;
          }))
      | in-Back+in-Some w ↦
          (let popped : All P w.pop.new.self.items × P w.in-Some.next = All-pop P c.loop.way.items w.pop.new.self.items (Some w.in-Some.next) w.in-Some.ensures.items c.loop.invariant.all in
          let way : IsWay c.args.graph.now (w.in-Some.next ∷ reverse w.pop.new.self.items) c.loop.frame.slot =
          subst (λ l. IsWay c.args.graph.now l c.loop.frame.slot) (ap reverse w.in-Some.ensures.items ∙ reverse-append w.pop.new.self.items (w.in-Some.next ∷ [])) c.loop.invariant.way in
          rw (w.way'-is, w.frame-is) (record { inside = popped.1; all = popped.0; way = way.1; long = c.in_ok-next.ensures.long; known = known }))
    ]
