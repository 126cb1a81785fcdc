-- The points of every run are a linearization of it.
use Rattle.std.proofs.Common.{map, ◌≡◌, ℕ, suc, ◌+◌, ◌<◌, ◌≤◌, List, [], ◌∷◌, length, get_or, Option, Some, None, refl, sym, ◌∙◌, ap, arith, add-one}
use Rattle.std.specs.Option.{IsSomeAnd, IfSome, MatchOption}
use Rattle.std.specs.List.{slice_get}
use Rattle.std.specs.Prelude.{All}
use Rattle.dep_index.specs.declared.table.calls.Call.{Call}
use Rattle.dep_index.specs.declared.table.calls.Reply.{Reply}
use Rattle.dep_index.specs.Table.{Module}
use Rattle.dep_index.specs.Calls.{opening, replies}
use Rattle.dep_index.specs.Laws.{AllInRange}
use Rattle.dep_index.specs.History.{IsLegal, calls_in, replies_in}
use Rattle.dep_index.specs.Words.{closed}
use Rattle.dep_index.proofs.RunLaws.{replicated}
use Rattle.step_core.specs.declared.steps.Step.{Step}
use Rattle.step_core.specs.declared.steps.Event.{Event}
use Rattle.step_core.specs.declared.steps.Event.TheVariants.{Returned}
use Rattle.step_core.specs.declared.steps.Activity.{Activity}
use Rattle.step_core.specs.Machine.{start}
use Rattle.step_core.specs.Run.{IsAccepted, events, call_numbered}
use Rattle.step_core.specs.Sound.{IsSound}
use Rattle.step_core.proofs.WholeSteps.{starts_sound}
use Rattle.linear_points.specs.declared.point.Point.{Point}
use Rattle.linear_points.specs.Run.{IsRun, run_start, run_events, run_calls, run_points, points_from}
use Rattle.linear_points.specs.Linearization.{IsWithin, IsAsReturned, HasItsPoint, RunsAreLinear, answers, point_count, first_index, first_step, returned_reply, is_returned}
use Rattle.linear_points.specs.Noted.{calls_made}
use Rattle.linear_points.proofs.Replay.{runs_replay}
use Rattle.linear_points.proofs.Lives.{Before, Lives, IsDistinct, once}
use Rattle.linear_points.proofs.Courses.{lives_from}
use Rattle.linear_points.proofs.Range.{calls_in_range}
use Rattle.linear_points.proofs.Numbers.{numbered_from, calls_are_made, number_below, numbered_in_range}
use Rattle.linear_points.proofs.Whole.{once_returned, in_span, after_invoked, before_returned, answers_return, indices_rise, slice_get_some, returned_somewhere}

-- from the opening state each call lives as it should
lives_at_start : (catalogue : List Module) (workers threads calls : ℕ) (steps : List Step) → workers < closed
    → IsAccepted catalogue (start catalogue workers threads calls) steps → (n : ℕ) → Lives n Before (events catalogue (start catalogue workers threads calls) steps)
lives_at_start catalogue workers threads calls steps few accepted n =
    lives_from catalogue workers n steps (start catalogue workers threads calls) Before ((starts_sound catalogue workers threads calls few).0) apart accepted (omega arith) where
      idle : (t : ℕ) (a : Activity) → get_or (start catalogue workers threads calls).threads t None ≡ Some a → ⊥
      idle t a there = none_some (sym (replicated threads t None) ∙ there) where
        none_some : None ≡ Some a → ⊥
        none_some q = cc

      apart : IsDistinct (start catalogue workers threads calls)
      apart t u a b there_a there_b same = absurd (idle t a there_a)

-- the points of events in which each call lives as it should
within_of : (es : List Event) → ((n : ℕ) → Lives n Before es) → (k : ℕ) (d : Point) → k < length (points_from 0 es) → IsWithin es (get_or (points_from 0 es) k d)
within_of es lives k d h = record {
  begun = after_invoked 0 k es (get_or (points_from 0 es) k d) (slice_get_some (points_from 0 es) k d h) (lives _);
  in_run = omega (arith, (in_span 0 k es (get_or (points_from 0 es) k d) (slice_get_some (points_from 0 es) k d h)).1);
  not_over = last (first_index (is_returned (get_or (points_from 0 es) k d).call) 0 es) refl;
} where
  last : (o : Option ℕ) → first_index (is_returned (get_or (points_from 0 es) k d).call) 0 es ≡ o → IfSome o (λ l. (get_or (points_from 0 es) k d).index ≤ l)
  last None e = tt
  last (Some l) e = before_returned 0 k Before es (get_or (points_from 0 es) k d) (slice_get_some (points_from 0 es) k d h) (lives _) l e

once_of : (es : List Event) → ((n : ℕ) → Lives n Before es) → (n : ℕ) → HasItsPoint es (points_from 0 es) n
once_of es lives n = at (first_index (is_returned n) 0 es) refl where
  at : (o : Option ℕ) → first_index (is_returned n) 0 es ≡ o → MatchOption o (point_count n (points_from 0 es) ≤ 1) (λ l. point_count n (points_from 0 es) ≡ 1)
  at None e = once n 0 Before es (lives n)
  at (Some l) e = once_returned n 0 0 Before es (lives n) l e

answers_of : (es : List Event) → ((n : ℕ) → Lives n Before es) → (k : ℕ) (d : Point) → k < length (points_from 0 es) → IsAsReturned es (get_or (points_from 0 es) k d)
answers_of es lives k d h = at (returned_reply es (get_or (points_from 0 es) k d).call) refl where
  at : (o : Option Reply) → returned_reply es (get_or (points_from 0 es) k d).call ≡ o → IfSome o (λ r. (get_or (points_from 0 es) k d).reply ≡ r)
  at None e = tt
  at (Some r) e = there (returned_somewhere (get_or (points_from 0 es) k d).call es r e) where
    there : (j : ℕ) × (slice_get es j ≡ Some (Returned (get_or (points_from 0 es) k d).call r)) → (get_or (points_from 0 es) k d).reply ≡ r
    there (j, f) = sym (answers_return 0 k j Before es (get_or (points_from 0 es) k d) r (slice_get_some (points_from 0 es) k d h) (lives _) f)

-- the calls and the replies of points
pub calls_of_answers : (calls : List Call) (points : List Point) → calls_in (answers calls points) ≡ map (λ (p : Point). call_numbered calls p.call) points
calls_of_answers calls [] = refl
calls_of_answers calls (p ∷ points) = ap (λ (cs : List Call). call_numbered calls p.call ∷ cs) (calls_of_answers calls points)

pub replies_of_answers : (calls : List Call) (points : List Point) → replies_in (answers calls points) ≡ map (λ (p : Point). p.reply) points
replies_of_answers calls [] = refl
replies_of_answers calls (p ∷ points) = ap (λ (rs : List Reply). p.reply ∷ rs) (replies_of_answers calls points)

-- a call that is invoked in a run is in range
pub invoked_in_range : (catalogue : List Module) (workers threads : ℕ) (steps : List Step) → workers < closed → IsRun catalogue workers threads steps
    → (n l : ℕ) → first_step (run_events catalogue workers threads steps) n ≡ Some l → n < length (run_calls catalogue workers threads steps)
invoked_in_range catalogue workers threads steps few run n l e =
    let sound : IsSound catalogue workers (run_start catalogue workers threads steps) = (starts_sound catalogue workers threads (length steps) few).0 in
    let h : n < 0 + length (calls_made steps (run_events catalogue workers threads steps)) = number_below 0 n 0 l steps (run_events catalogue workers threads steps) (numbered_from catalogue workers steps (run_start catalogue workers threads steps) sound run) e in
    omega (arith, h, ap length (calls_are_made catalogue steps (run_start catalogue workers threads steps)))

-- points that lie within their calls are points of calls in range
pub points_in_range : (catalogue : List Module) (workers : ℕ) (calls : List Call) (es : List Event) (points : List Point) → AllInRange catalogue workers calls
    → ((n l : ℕ) → first_step es n ≡ Some l → n < length calls) → All (IsWithin es) points → AllInRange catalogue workers (calls_in (answers calls points))
points_in_range catalogue workers calls es [] range below within = tt
points_in_range catalogue workers calls es (p ∷ points) range below within = (
  numbered_in_range catalogue workers calls p.call range (number (first_step es p.call) refl (within 0 p (omega arith)).begun),
  points_in_range catalogue workers calls es points range below (λ k d h. within (suc k) d (omega (arith, h))),
) where
  number : (o : Option ℕ) → first_step es p.call ≡ o → IsSomeAnd o (λ first. first ≤ p.index) → p.call < length calls
  number None e f = absurd f
  number (Some l) e f = below p.call l e

-- in range, and with the replies of the replay, points are a legal history
pub legal_points : (catalogue : List Module) (workers : ℕ) (calls : List Call) (points : List Point) → AllInRange catalogue workers (calls_in (answers calls points))
    → replies catalogue (opening catalogue workers) (map (λ (p : Point). call_numbered calls p.call) points) ≡ map (λ (p : Point). p.reply) points
    → IsLegal catalogue workers (answers calls points)
legal_points catalogue workers calls points range replay = record {
  range = range;
  replay = ap (replies catalogue (opening catalogue workers)) (calls_of_answers calls points) ∙ replay ∙ sym (replies_of_answers calls points);
}

pub runs_are_linear : RunsAreLinear
runs_are_linear catalogue workers threads steps few run =
    record {
      rising = λ k h. rw add-one (indices_rise 0 k (run_events catalogue workers threads steps) (omega (arith, h)));
      within = inside;
      once = once_of (run_events catalogue workers threads steps) lives;
      legal = legal_points catalogue workers (run_calls catalogue workers threads steps) (run_points catalogue workers threads steps)
          (points_in_range catalogue workers (run_calls catalogue workers threads steps) (run_events catalogue workers threads steps) (run_points catalogue workers threads steps)
          (calls_in_range catalogue workers steps (run_start catalogue workers threads steps) ((starts_sound catalogue workers threads (length steps) few).0) run)
          (invoked_in_range catalogue workers threads steps few run) inside)
          (runs_replay catalogue workers threads steps few run);
      answers = answers_of (run_events catalogue workers threads steps) lives;
    } where
      lives : (n : ℕ) → Lives n Before (run_events catalogue workers threads steps)
      lives = lives_at_start catalogue workers threads (length steps) steps few run

      inside : All (IsWithin (run_events catalogue workers threads steps)) (run_points catalogue workers threads steps)
      inside = within_of (run_events catalogue workers threads steps) lives
