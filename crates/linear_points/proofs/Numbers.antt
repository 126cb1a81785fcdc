-- The calls of a run are numbered in the order in which they are invoked.
use Rattle.std.proofs.Common.{◌≡◌, ℕ, zero, suc, ◌+◌, ◌<◌, Bool, true, false, eqb, cond, List, [], ◌∷◌, length, get_or, Option, Some, None, refl, sym, ap, subst, arith}
use Rattle.std.proofs.lemmas.Bool.{eqb-true}
use Rattle.dep_index.specs.declared.table.calls.Call.{Call}
use Rattle.dep_index.specs.Table.{Module}
use Rattle.dep_index.specs.Calls.{IsInRange}
use Rattle.dep_index.specs.Laws.{AllInRange}
use Rattle.step_core.specs.declared.steps.Step.{Step}
use Rattle.step_core.specs.declared.steps.Step.TheVariants.{Invoke, Go}
use Rattle.step_core.specs.declared.steps.Event.{Event}
use Rattle.step_core.specs.declared.steps.Event.TheVariants.{Nothing, Invoked, Moved, Point as Takes, Returned}
use Rattle.step_core.specs.declared.steps.Activity.{Activity}
use Rattle.step_core.specs.Machine.{State, step, go, invoke}
use Rattle.step_core.specs.Run.{IsAccepted, events, calls_of, call_numbered, invoked_call}
use Rattle.step_core.specs.StepLaw.{StepLaw}
use Rattle.step_core.specs.Sound.{IsSound}
use Rattle.step_core.proofs.WholeSteps.{steps_are_right}
use Rattle.linear_points.specs.Linearization.{first_index, is_invoked}
use Rattle.linear_points.specs.Noted.{calls_made, NumbersCall, invoked_after, AreNumberedFrom}
use Rattle.linear_points.proofs.Courses.{Course, line_course}

-- one step of a thread numbers no new call
went : (s new : State) (t : ℕ) (a : Activity) (e : Event) → Course s t a e new → a.number < s.invoked
    → NumbersCall s.invoked (Go t) e × (invoked_after s.invoked e ≡ new.invoked)
went s new t a Nothing course below = (tt, sym course.4)
went s new t a Moved course below = (tt, sym course.4)
went s new t a (Invoked k) course below = absurd course
went s new t a (Takes k r) course below = (tt, sym course.2.4)
went s new t a (Returned k r) course below = (omega (arith, course.0), sym course.3)

went_numbered : (s : State) (t : ℕ) (steps : List Step) (es : List Event) (e : Event) (new : State) → NumbersCall s.invoked (Go t) e × (invoked_after s.invoked e ≡ new.invoked)
    → AreNumberedFrom new.invoked steps es → AreNumberedFrom s.invoked (Go t ∷ steps) (e ∷ es)
went_numbered s t steps es e new (numbers, is) rest = (numbers, subst (λ (n : ℕ). AreNumberedFrom n steps es) (sym is) rest)

pub numbered_from : (catalogue : List Module) (workers : ℕ) (steps : List Step) (s : State) → IsSound catalogue workers s → IsAccepted catalogue s steps
    → AreNumberedFrom s.invoked steps (events catalogue s steps)
numbered_from catalogue workers [] s sound accepted = tt
numbered_from catalogue workers (Go t ∷ steps) s sound accepted =
    let right : IsSound catalogue workers (step catalogue s (Go t)).1 × StepLaw catalogue s (Go t) (step catalogue s (Go t)).0 (step catalogue s (Go t)).1 = steps_are_right catalogue workers s (Go t) sound accepted.0 in
    went_numbered s t steps (events catalogue (step catalogue s (Go t)).1 steps) (step catalogue s (Go t)).0 (step catalogue s (Go t)).1
    (at (get_or s.threads t None) refl)
    (numbered_from catalogue workers steps (step catalogue s (Go t)).1 right.0 accepted.1) where
      at : (o : Option Activity) → get_or s.threads t None ≡ o
          → NumbersCall s.invoked (Go t) (go catalogue s t o).0 × (invoked_after s.invoked (go catalogue s t o).0 ≡ (go catalogue s t o).1.invoked)
      at None e = (tt, refl)
      at (Some a) e = went s (go catalogue s t (Some a)).1 t a (go catalogue s t (Some a)).0 (line_course catalogue s t a a.line e refl) (sound.placed t a e).number
numbered_from catalogue workers (Invoke t call ∷ steps) s sound accepted =
    let right : IsSound catalogue workers (step catalogue s (Invoke t call)).1 × StepLaw catalogue s (Invoke t call) (step catalogue s (Invoke t call)).0 (step catalogue s (Invoke t call)).1 = steps_are_right catalogue workers s (Invoke t call) sound accepted.0 in
    at (get_or s.threads t None) (numbered_from catalogue workers steps (step catalogue s (Invoke t call)).1 right.0 accepted.1) where
      at : (o : Option Activity) → AreNumberedFrom (invoke s t call o).1.invoked steps (events catalogue (invoke s t call o).1 steps)
          → AreNumberedFrom s.invoked (Invoke t call ∷ steps) ((invoke s t call o).0 ∷ events catalogue (invoke s t call o).1 steps)
      at None rest = ((refl, tt), rest)
      at (Some a) rest = (tt, rest)

-- the calls of a run are those that its steps make, by their events
pub calls_are_made : (catalogue : List Module) (steps : List Step) (s : State) → calls_of catalogue s steps ≡ calls_made steps (events catalogue s steps)
calls_are_made catalogue [] s = refl
calls_are_made catalogue (x ∷ steps) s = ap (invoked_call x (step catalogue s x).0) (calls_are_made catalogue steps (step catalogue s x).1)

-- a call that is invoked has its place among the calls
pub number_below : (k n i l : ℕ) (steps : List Step) (es : List Event) → AreNumberedFrom k steps es → first_index (is_invoked n) i es ≡ Some l
    → n < k + length (calls_made steps es)
number_below k n i l [] [] numbered e = cc
number_below k n i l [] (x ∷ es) numbered e = absurd numbered
number_below k n i l (s ∷ steps) [] numbered e = absurd numbered
number_below k n i l (Invoke t call ∷ steps) (Invoked m ∷ es) numbered e = at (eqb m n) refl e (number_below (k + 1) n (i + 1) l steps es numbered.1) where
  at : (b : Bool) → eqb m n ≡ b → cond b (Some i) (first_index (is_invoked n) (i + 1) es) ≡ Some l
      → (first_index (is_invoked n) (i + 1) es ≡ Some l → n < k + 1 + length (calls_made steps es)) → n < k + suc (length (calls_made steps es))
  at true q f rest = omega (arith, eqb-true m n q, numbered.0.0)
  at false q f rest = omega (arith, rest f)
number_below k n i l (Go t ∷ steps) (Invoked m ∷ es) numbered e = absurd numbered.0.1
number_below k n i l (Invoke t call ∷ steps) (Nothing ∷ es) numbered e = number_below k n (i + 1) l steps es numbered.1 e
number_below k n i l (Go t ∷ steps) (Nothing ∷ es) numbered e = number_below k n (i + 1) l steps es numbered.1 e
number_below k n i l (Invoke t call ∷ steps) (Moved ∷ es) numbered e = number_below k n (i + 1) l steps es numbered.1 e
number_below k n i l (Go t ∷ steps) (Moved ∷ es) numbered e = number_below k n (i + 1) l steps es numbered.1 e
number_below k n i l (Invoke t call ∷ steps) (Takes m r ∷ es) numbered e = number_below k n (i + 1) l steps es numbered.1 e
number_below k n i l (Go t ∷ steps) (Takes m r ∷ es) numbered e = number_below k n (i + 1) l steps es numbered.1 e
number_below k n i l (Invoke t call ∷ steps) (Returned m r ∷ es) numbered e = number_below k n (i + 1) l steps es numbered.1 e
number_below k n i l (Go t ∷ steps) (Returned m r ∷ es) numbered e = number_below k n (i + 1) l steps es numbered.1 e

-- a call of a list of calls that are in range is in range
pub numbered_in_range : (catalogue : List Module) (workers : ℕ) (calls : List Call) (n : ℕ) → AllInRange catalogue workers calls → n < length calls
    → IsInRange (length catalogue) workers (call_numbered calls n)
numbered_in_range catalogue workers [] n range h = absurd (omega arith)
numbered_in_range catalogue workers (call ∷ calls) zero range h = range.0
numbered_in_range catalogue workers (call ∷ calls) (suc n) range h = numbered_in_range catalogue workers calls n range.1 (omega arith)
