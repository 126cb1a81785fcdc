-- When a list of points is a linearization of a run (Herlihy and Wing, Linearizability: a correctness condition for
-- concurrent objects, ACM TOPLAS 12(3), 1990): the calls in the order of their points are a legal history of the
-- one-thread table, and each point lies between its call's first step and its last.
use Rattle.std.specs.Prelude.{◌≡◌, ℕ, ◌+◌, ◌==◌, ◌<◌, ◌≤◌, Bool, false, List, [], ◌∷◌, length, map, count_by, if◌then◌else◌, Option, Some, None, IfSome, IsSomeAnd, MatchOption, All}
use Rattle.std.specs.List.Sorted.{IsStrictlyIncreasing}
use Rattle.dep_index.specs.declared.table.calls.Call.{Call}
use Rattle.dep_index.specs.declared.table.calls.Reply.{Reply}
use Rattle.dep_index.specs.Table.{Module}
use Rattle.dep_index.specs.History.{Answer, IsLegal}
use Rattle.dep_index.specs.Words.{closed}
use Rattle.step_core.specs.declared.steps.Step.{Step}
use Rattle.step_core.specs.declared.steps.Event.{Event}
use Rattle.step_core.specs.declared.steps.Event.TheVariants.{Invoked, Returned}
use Rattle.linear_points.specs.declared.point.Point.{Point}
use Rattle.step_core.specs.Run.{call_numbered}
use Rattle.linear_points.specs.Run.{IsRun, run_events, run_calls, run_points}

-- the event invokes call n
abbrev pub is_invoked : ℕ → Event → Bool
is_invoked n (Invoked k) = k == n
is_invoked n e = false

-- the event returns call n
abbrev pub is_returned : ℕ → Event → Bool
is_returned n (Returned k r) = k == n
is_returned n e = false

-- the index of the first event that passes the test, if the first event has index i
abbrev pub first_index : (Event → Bool) → ℕ → List Event → Option ℕ
first_index test i [] = None
first_index test i (e ∷ es) = if test e then Some i else first_index test (i + 1) es

-- the index of a call's first step, at which it is invoked
abbrev pub first_step : List Event → ℕ → Option ℕ
first_step es n = first_index (is_invoked n) 0 es

-- the index of a call's last step, at which it returns; an open call has none
abbrev pub last_step : List Event → ℕ → Option ℕ
last_step es n = first_index (is_returned n) 0 es

-- the reply that the event returns for call n, or else the later one
abbrev pub reply_in : ℕ → Event → Option Reply → Option Reply
reply_in n (Returned k r) later = if k == n then Some r else later
reply_in n e later = later

-- what a call returned
abbrev pub returned_reply : List Event → ℕ → Option Reply
returned_reply [] n = None
returned_reply (e ∷ es) n = reply_in n e (returned_reply es n)

-- the point lies between its call's first step and its last, both included; an open call goes on to the end
pub record IsWithin (es : List Event) (p : Point) : Type 0 where
  pub begun : IsSomeAnd (first_step es p.call) (λ first. first ≤ p.index)
  pub in_run : p.index < length es
  pub not_over : IfSome (last_step es p.call) (λ last. p.index ≤ last)

-- how often the call has a point
abbrev pub point_count : ℕ → List Point → ℕ
point_count n points = count_by (λ p. p.call == n) points

-- a returned call has one point, an open call at most one
abbrev pub HasItsPoint : List Event → List Point → ℕ → Type 0
HasItsPoint es points n =
    MatchOption (last_step es n) (point_count n points ≤ 1) (λ last. point_count n points ≡ 1)

-- a returned call's point has the reply that the call returned
abbrev pub IsAsReturned : List Event → Point → Type 0
IsAsReturned es p = IfSome (returned_reply es p.call) (λ reply. p.reply ≡ reply)

-- the calls of points, with their answers
abbrev pub answers : List Call → List Point → List Answer
answers calls points = map (λ (p : Point). record { call = call_numbered calls p.call; reply = p.reply }) points

-- the points are a linearization of the run of these steps
pub record IsLinearization (catalogue : List Module) (workers threads : ℕ) (steps : List Step) (points : List Point) : Type 0 where
  -- indices rise
  pub rising : IsStrictlyIncreasing (map (λ (p : Point). p.index) points)
  -- each point lies between its call's first step and its last
  pub within : All (IsWithin (run_events catalogue workers threads steps)) points
  -- a returned call has one point, an open call at most one
  pub once : (n : ℕ) → HasItsPoint (run_events catalogue workers threads steps) points n
  -- the calls in the order of the points are in range, and answer what the one-thread table answers
  pub legal : IsLegal catalogue workers (answers (run_calls catalogue workers threads steps) points)
  -- a returned call's point has the reply that the call returned
  pub answers : All (IsAsReturned (run_events catalogue workers threads steps)) points

-- the headline: the points of every run are a linearization of it
abbrev pub RunsAreLinear : Type 0
RunsAreLinear =
    (catalogue : List Module) (workers threads : ℕ) (steps : List Step) → workers < closed
    → IsRun catalogue workers threads steps
    → IsLinearization catalogue workers threads steps (run_points catalogue workers threads steps)
