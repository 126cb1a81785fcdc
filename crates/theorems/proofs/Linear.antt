-- A linearization, said in full.
use Rattle.std.proofs.Common.{◌≡◌, ℕ, ◌≤◌, List, Option, Some, None, Result, Ok, Err, refl, subst}
use Rattle.std.specs.Prelude.{IfOk, IfSome, IsSomeAnd, MatchOption}
use Rattle.std.specs.List.{Contains}
use Rattle.std.proofs.lemmas.List.Elements.{All-contains}
use Rattle.dep_index.specs.declared.table.calls.Reply.{Reply}
use Rattle.dep_index.specs.Table.{Module}
use Rattle.step_core.specs.declared.steps.Step.{Step}
use Rattle.linear_points.specs.declared.point.Point.{Point}
use Rattle.linear_points.specs.Run.{run_events}
use Rattle.linear_points.specs.Linearization.{IsLinearization, IsWithin, IsAsReturned, first_step, last_step, returned_reply, point_count}
use Rattle.theorems.specs.Linear.{TakesEffectOnce}

pub if_ok-map : {X E : Type 0} (r : Result X E) (P Q : X → Type 0) → ((x : X) → P x → Q x) → IfOk r P → IfOk r Q
if_ok-map (Ok x) P Q goes known = goes x known
if_ok-map (Err e) P Q goes known = tt

if_some : {X : Type 0} (o : Option X) (P : X → Type 0) (x : X) → IfSome o P → o ≡ Some x → P x
if_some None P x h e = absurd (cc)
if_some (Some y) P x h e = let same : y ≡ x = cc in subst P same h

some_and : {X : Type 0} (o : Option X) (P : X → Type 0) → IsSomeAnd o P → (x : X) × (o ≡ Some x) × P x
some_and None P h = absurd h
some_and (Some y) P h = (y, refl, h)

matched : {X : Type 0} (o : Option X) (N : Type 0) (P : X → Type 0) (x : X) → MatchOption o N P → o ≡ Some x → P x
matched None N P x h e = absurd (cc)
matched (Some y) N P x h e = let same : y ≡ x = cc in subst P same h

unmatched : {X : Type 0} (o : Option X) (N : Type 0) (P : X → Type 0) → MatchOption o N P → o ≡ None → N
unmatched None N P h e = h
unmatched (Some y) N P h e = absurd (cc)

pub takes_effect_once : (catalogue : List Module) (workers threads : ℕ) (steps : List Step) (points : List Point)
    → IsLinearization catalogue workers threads steps points → TakesEffectOnce catalogue workers threads steps points
takes_effect_once catalogue workers threads steps points linear =
    record {
      one = λ n last e. matched (last_step (run_events catalogue workers threads steps) n) (point_count n points ≤ 1) (λ _. point_count n points ≡ 1) last (linear.once n) e;
      at_most_one = λ n e. unmatched (last_step (run_events catalogue workers threads steps) n) (point_count n points ≤ 1) (λ _. point_count n points ≡ 1) (linear.once n) e;
      inside = λ p c. (within p c).in_run;
      begun = λ p c. some_and (first_step (run_events catalogue workers threads steps) p.call) (λ first. first ≤ p.index) (within p c).begun;
      not_over = λ p last c e. if_some (last_step (run_events catalogue workers threads steps) p.call) (λ last'. p.index ≤ last') last (within p c).not_over e;
      rising = linear.rising;
      returned = λ p reply c e. if_some (returned_reply (run_events catalogue workers threads steps) p.call) (λ (r : Reply). p.reply ≡ r) reply
          (All-contains (IsAsReturned (run_events catalogue workers threads steps)) points p linear.answers c) e;
      range = linear.legal.range;
      replay = linear.legal.replay;
    }
  where
    within : (p : Point) → Contains points p → IsWithin (run_events catalogue workers threads steps) p
    within p c = All-contains (IsWithin (run_events catalogue workers threads steps)) points p linear.within c
