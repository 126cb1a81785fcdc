-- The life of one call in the rest of a run: it is invoked, takes effect, and returns, each at most once and in this order.
use Rattle.std.proofs.Common.{◌≡◌, ◌≢◌, ℕ, ◌+◌, ◌<◌, ◌≤◌, Bool, true, false, eqb, cond, List, [], ◌∷◌, Some, refl, sym, ◌∙◌, ap, subst, arith}
use Rattle.std.proofs.lemmas.List.Sums.{sum_by-cons}
use Rattle.std.specs.Bool.{MatchBool}
use Rattle.dep_index.specs.declared.table.calls.Reply.{Reply}
use Rattle.dep_index.specs.declared.table.calls.Reply.TheVariants.{Done}
use Rattle.step_core.specs.declared.steps.Event.{Event}
use Rattle.step_core.specs.declared.steps.Event.TheVariants.{Nothing, Invoked, Moved, Point as Takes, Returned}
use Rattle.step_core.specs.declared.steps.Line.{Line}
use Rattle.step_core.specs.declared.steps.Line.TheVariants.{Lock, Word, Exchange, Write, Return}
use Rattle.step_core.specs.declared.steps.Activity.{Activity}
use Rattle.step_core.specs.Machine.{State, activity}
use Rattle.linear_points.specs.declared.point.Point.{Point}
use Rattle.linear_points.specs.Run.{points_from}
use Rattle.linear_points.specs.Linearization.{point_count}

-- where a call stands
pub data Stage : Type 0 where
  Before : Stage
  Open : Stage
  Effective : Reply → Stage
  Over : Stage

-- the stage of a thread's call, by its line
abbrev pub stage_at : Line → Stage
stage_at Lock = Open
stage_at Word = Open
stage_at (Exchange word) = Open
stage_at Write = Effective Done
stage_at (Return reply) = Effective reply

-- the invariant over runs: where call n stands in a state
abbrev pub IsAt : State → ℕ → Stage → Type 0
IsAt s n Before = s.invoked ≤ n
IsAt s n Over = (n < s.invoked) × ((t : ℕ) (a : Activity) → activity s t ≡ Some a → a.number ≢ n)
IsAt s n stage = (t : ℕ) × (a : Activity) × (activity s t ≡ Some a) × (a.number ≡ n) × (stage_at a.line ≡ stage)

-- no call is made by two threads
abbrev pub IsDistinct : State → Type 0
IsDistinct s = (t u : ℕ) (a b : Activity) → activity s t ≡ Some a → activity s u ≡ Some b → a.number ≡ b.number → t ≡ u

-- what the rest of a run may do with call n
abbrev pub Lives : ℕ → Stage → List Event → Type 0
Lives n stage [] = Unit {0}
Lives n stage (Invoked k ∷ es) = MatchBool (eqb k n) ((stage ≡ Before) × Lives n Open es) (Lives n stage es)
Lives n stage (Takes k r ∷ es) = MatchBool (eqb k n) ((stage ≡ Open) × Lives n (Effective r) es) (Lives n stage es)
Lives n stage (Returned k r ∷ es) = MatchBool (eqb k n) ((stage ≡ Effective r) × Lives n Over es) (Lives n stage es)
Lives n stage (Nothing ∷ es) = Lives n stage es
Lives n stage (Moved ∷ es) = Lives n stage es

-- how many points a call may still have
abbrev pub points_left : Stage → ℕ
points_left Before = 1
points_left Open = 1
points_left (Effective r) = 0
points_left Over = 0

-- a call has at most one point
pub once : (n i : ℕ) (stage : Stage) (es : List Event) → Lives n stage es → point_count n (points_from i es) ≤ points_left stage
once n i stage [] lives = at stage where
  at : (s : Stage) → 0 ≤ points_left s
  at Before = omega arith
  at Open = omega arith
  at (Effective r) = omega arith
  at Over = omega arith
once n i stage (Nothing ∷ es) lives = once n (i + 1) stage es lives
once n i stage (Moved ∷ es) lives = once n (i + 1) stage es lives
once n i stage (Invoked k ∷ es) lives = at (eqb k n) lives (once n (i + 1) stage es) (once n (i + 1) Open es) where
  at : (b : Bool) → MatchBool b ((stage ≡ Before) × Lives n Open es) (Lives n stage es)
      → (Lives n stage es → point_count n (points_from (i + 1) es) ≤ points_left stage) → (Lives n Open es → point_count n (points_from (i + 1) es) ≤ 1)
      → point_count n (points_from (i + 1) es) ≤ points_left stage
  at true l rest begun = subst (λ (s : Stage). point_count n (points_from (i + 1) es) ≤ points_left s) (sym l.0) (begun l.1)
  at false l rest begun = rest l
once n i stage (Returned k r ∷ es) lives = at (eqb k n) lives (once n (i + 1) stage es) (once n (i + 1) Over es) where
  at : (b : Bool) → MatchBool b ((stage ≡ Effective r) × Lives n Over es) (Lives n stage es)
      → (Lives n stage es → point_count n (points_from (i + 1) es) ≤ points_left stage) → (Lives n Over es → point_count n (points_from (i + 1) es) ≤ 0)
      → point_count n (points_from (i + 1) es) ≤ points_left stage
  at true l rest over = subst (λ (s : Stage). point_count n (points_from (i + 1) es) ≤ points_left s) (sym l.0) (over l.1)
  at false l rest over = rest l
once n i stage (Takes k r ∷ es) lives = at (eqb k n) refl lives (once n (i + 1) stage es) (once n (i + 1) (Effective r) es) where
  counted : point_count n (points_from i (Takes k r ∷ es)) ≡ cond (eqb k n) 1 0 + point_count n (points_from (i + 1) es)
  counted = sum_by-cons (λ (p : Point). cond (eqb p.call n) 1 0) (record { call = k; index = i; reply = r }) (points_from (i + 1) es)

  at : (b : Bool) → eqb k n ≡ b → MatchBool b ((stage ≡ Open) × Lives n (Effective r) es) (Lives n stage es)
      → (Lives n stage es → point_count n (points_from (i + 1) es) ≤ points_left stage) → (Lives n (Effective r) es → point_count n (points_from (i + 1) es) ≤ 0)
      → point_count n (points_from i (Takes k r ∷ es)) ≤ points_left stage
  at true e l rest over =
      let c : point_count n (points_from i (Takes k r ∷ es)) ≡ 1 + point_count n (points_from (i + 1) es) = counted ∙ ap (λ (b : Bool). cond b 1 0 + point_count n (points_from (i + 1) es)) e in
      subst (λ (s : Stage). point_count n (points_from i (Takes k r ∷ es)) ≤ points_left s) (sym l.0) (omega (arith, c, over l.1))
  at false e l rest over =
      let c : point_count n (points_from i (Takes k r ∷ es)) ≡ 0 + point_count n (points_from (i + 1) es) = counted ∙ ap (λ (b : Bool). cond b 1 0 + point_count n (points_from (i + 1) es)) e in
      omega (arith, c, rest l)
