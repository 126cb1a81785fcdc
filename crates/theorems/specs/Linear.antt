-- What a schedule's points are, said in full (Herlihy and Wing, Linearizability: a correctness condition for concurrent
-- objects, ACM TOPLAS 12(3), 1990).
use Rattle.std.specs.Prelude.{◌≡◌, ℕ, ◌+◌, ◌<◌, ◌≤◌, List, map, length, slice_index, Contains, Some, None}
use Rattle.dep_index.specs.declared.table.calls.Reply.{Reply}
use Rattle.dep_index.specs.Table.{Module}
use Rattle.dep_index.specs.Calls.{opening, replies}
use Rattle.dep_index.specs.History.{calls_in, replies_in}
use Rattle.dep_index.specs.Laws.{AllInRange}
use Rattle.step_core.specs.declared.steps.Step.{Step}
use Rattle.linear_points.specs.declared.point.Point.{Point}
use Rattle.linear_points.specs.Run.{run_events, run_calls}
use Rattle.linear_points.specs.Linearization.{first_step, last_step, returned_reply, point_count, answers}

-- the steps of points
abbrev pub indices : List Point → List ℕ
indices points = map (λ (p : Point). p.index) points

-- Each returned call takes effect at one step between its first and its last, and answers there what the one-thread
-- table answers. An open call takes effect at one step after its first, or at none.
pub record TakesEffectOnce (catalogue : List Module) (workers threads : ℕ) (steps : List Step) (points : List Point) : Type 0 where
  -- a returned call has one point, an open call at most one
  pub one : (n last : ℕ) → last_step (run_events catalogue workers threads steps) n ≡ Some last → point_count n points ≡ 1
  pub at_most_one : (n : ℕ) → last_step (run_events catalogue workers threads steps) n ≡ None → point_count n points ≤ 1
  -- a point is a step of the run, at or after its call's first, and at or before its call's last
  pub inside : (p : Point) → Contains points p → p.index < length (run_events catalogue workers threads steps)
  pub begun : (p : Point) → Contains points p
      → (first : ℕ) × (first_step (run_events catalogue workers threads steps) p.call ≡ Some first) × (first ≤ p.index)
  pub not_over : (p : Point) (last : ℕ) → Contains points p
      → last_step (run_events catalogue workers threads steps) p.call ≡ Some last → p.index ≤ last
  -- no two calls take effect at one step: the points stand in the order of their steps
  pub rising : (k : ℕ) → k + 1 < length (indices points) → slice_index (indices points) k < slice_index (indices points) (k + 1)
  -- what a call returned is the reply at its point
  pub returned : (p : Point) (reply : Reply) → Contains points p
      → returned_reply (run_events catalogue workers threads steps) p.call ≡ Some reply → p.reply ≡ reply
  -- made on the one-thread table in this order, the calls are in range and have these replies
  pub range : AllInRange catalogue workers (calls_in (answers (run_calls catalogue workers threads steps) points))
  pub replay : replies catalogue (opening catalogue workers) (calls_in (answers (run_calls catalogue workers threads steps) points))
      ≡ replies_in (answers (run_calls catalogue workers threads steps) points)
