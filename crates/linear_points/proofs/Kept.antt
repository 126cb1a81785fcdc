-- What intervals say of points.
use Rattle.std.proofs.Common.{◌≡◌, ◌⊎◌, inl, inr, ℕ, zero, suc, ◌+◌, ◌-◌, map, get_or, ◌<◌, ◌≤◌, List, [], ◌∷◌, length, Option, Some, None, refl, sym, ◌∙◌, ap, subst, arith}
use Rattle.std.specs.Option.{option_map, option_and_then, IsSomeAnd, IfSome}
use Rattle.std.specs.List.{slice_get}
use Rattle.dep_index.specs.Table.{Module}
use Rattle.dep_index.specs.Words.{closed}
use Rattle.step_core.specs.declared.steps.Step.{Step}
use Rattle.step_core.specs.declared.steps.Event.{Event}
use Rattle.step_core.specs.Machine.{State, step}
use Rattle.step_core.specs.Run.{events}
use Rattle.step_core.proofs.WholeSteps.{starts_sound}
use Rattle.linear_points.specs.declared.point.Point.{Point}
use Rattle.linear_points.specs.declared.intervals.Interval.{Interval}
use Rattle.linear_points.specs.declared.intervals.End.{End}
use Rattle.linear_points.specs.Run.{IsRun, run_start, run_events, run_calls}
use Rattle.linear_points.specs.Linearization.{IsWithin, first_step, last_step}
use Rattle.linear_points.specs.Interval.{AreIntervals}
use Rattle.linear_points.specs.Noted.{AreNumberedFrom, calls_made}
use Rattle.linear_points.proofs.Numbers.{numbered_from, calls_are_made}
use Rattle.linear_points.proofs.Whole.{slice_get_some}
use Rattle.std.proofs.lemmas.List.{get_or-map, length-map}
use Rattle.std.proofs.lemmas.Bool.{cases_eq}

-- a run's events number its calls
pub run_numbered : (catalogue : List Module) (workers threads : ℕ) (steps : List Step) → workers < closed → IsRun catalogue workers threads steps
    → AreNumberedFrom 0 steps (run_events catalogue workers threads steps)
run_numbered catalogue workers threads steps few run =
    numbered_from catalogue workers steps (run_start catalogue workers threads steps) (starts_sound catalogue workers threads (length steps) few).0 run

length-events : (catalogue : List Module) (s : State) (steps : List Step) → length (events catalogue s steps) ≡ length steps
length-events catalogue s [] = refl
length-events catalogue s (x ∷ steps) = ap suc (length-events catalogue (step catalogue s x).1 steps)

pub one_event_each : (catalogue : List Module) (workers threads : ℕ) (steps : List Step) → length steps ≡ length (run_events catalogue workers threads steps)
one_event_each catalogue workers threads steps = sym (length-events catalogue (run_start catalogue workers threads steps) steps)

pub run_calls_made : (catalogue : List Module) (workers threads : ℕ) (steps : List Step) → run_calls catalogue workers threads steps ≡ calls_made steps (run_events catalogue workers threads steps)
run_calls_made catalogue workers threads steps = calls_are_made catalogue steps (run_start catalogue workers threads steps)

pub slice_get-past : {A : Type 0} → (xs : List A) (n : ℕ) → length xs ≤ n → slice_get xs n ≡ None
slice_get-past [] n h = refl
slice_get-past (x ∷ xs) zero h = absurd (omega arith)
slice_get-past (x ∷ xs) (suc n) h = slice_get-past xs n (omega arith)

-- what a look-up found is the element
pub slice_get_found : {A : Type 0} → (xs : List A) (n : ℕ) (x : A) → n < length xs → x ≡ get_or xs n x → slice_get xs n ≡ Some x
slice_get_found {A = A} xs n x h e = slice_get_some xs n x h ∙ ap (λ (y : A). Some y) (sym e)

-- a call that has no interval has no point
pub none_within : (es : List Event) (intervals : List Interval) (p : Point) → AreIntervals es intervals → slice_get intervals p.call ≡ None → IsWithin es p → ⊥
none_within es intervals p are e within = at (first_step es p.call) (are.first p.call ∙ ap (option_map (λ (i : Interval). i.first)) e) within.begun where
  at : (o : Option ℕ) → o ≡ None → IsSomeAnd o (λ first. first ≤ p.index) → ⊥
  at None q f = f
  at (Some x) q f = cc

pub begun_is : (es : List Event) (intervals : List Interval) (n k : ℕ) (x : Interval) → AreIntervals es intervals → slice_get intervals n ≡ Some x
    → IsSomeAnd (first_step es n) (λ first. first ≤ k) → x.first ≤ k
begun_is es intervals n k x are e = subst (λ (o : Option ℕ). IsSomeAnd o (λ first. first ≤ k) → x.first ≤ k) (sym (are.first n ∙ ap (option_map (λ (i : Interval). i.first)) e)) (λ h. h)

pub last_is : (es : List Event) (intervals : List Interval) (n : ℕ) (x : Interval) → AreIntervals es intervals → slice_get intervals n ≡ Some x
    → last_step es n ≡ option_map (λ (e : End). e.index) x.end
last_is es intervals n x are e = are.last n ∙ ap (λ (o : Option Interval). option_map (λ (e : End). e.index) (option_and_then (λ (i : Interval). i.end) o)) e

-- an index that is not behind the end
abbrev pub IsBefore : Option End → ℕ → Type 0
IsBefore o k = IfSome o (λ (e : End). k ≤ e.index)

before : (o : Option End) (k : ℕ) → IfSome (option_map (λ (e : End). e.index) o) (λ last. k ≤ last) → IsBefore o k
before None k h = tt
before (Some e) k h = h

before_end : (o : Option End) (k : ℕ) → IsBefore o k → IfSome (option_map (λ (e : End). e.index) o) (λ last. k ≤ last)
before_end None k h = tt
before_end (Some e) k h = h

pub contained : (es : List Event) (intervals : List Interval) (p : Point) (x : Interval) → AreIntervals es intervals → slice_get intervals p.call ≡ Some x
    → IsWithin es p → (x.first ≤ p.index) × IsBefore x.end p.index
contained es intervals p x are e within = (
  begun_is es intervals p.call p.index x are e within.begun,
  before x.end p.index (subst (λ (o : Option ℕ). IfSome o (λ last. p.index ≤ last)) (last_is es intervals p.call x are e) within.not_over),
)

pub within_contained : (es : List Event) (intervals : List Interval) (p : Point) (x : Interval) → AreIntervals es intervals → slice_get intervals p.call ≡ Some x
    → p.index < length es → (x.first ≤ p.index) × IsBefore x.end p.index → IsWithin es p
within_contained es intervals p x are e made (begun, open_yet) = record {
  begun = subst (λ (o : Option ℕ). IsSomeAnd o (λ first. first ≤ p.index)) (sym (are.first p.call ∙ ap (option_map (λ (i : Interval). i.first)) e)) begun;
  in_run = made;
  not_over = subst (λ (o : Option ℕ). IfSome o (λ last. p.index ≤ last)) (sym (last_is es intervals p.call x are e)) (before_end x.end p.index open_yet);
}

-- the indices of the first points rise, and so they do with one point more
pub rises_more : (points : List Point) (i : ℕ) (d e : Point) → 1 ≤ i → i < length points
    → ((k : ℕ) → k + 1 < i → get_or (map (λ (p : Point). p.index) points) k 0 < get_or (map (λ (p : Point). p.index) points) (k + 1) 0)
    → (get_or points (i - 1) d).index < (get_or points i e).index
    → (k : ℕ) → k + 1 < i + 1 → get_or (map (λ (p : Point). p.index) points) k 0 < get_or (map (λ (p : Point). p.index) points) (k + 1) 0
rises_more points i d e some below rises next k h = at (cases_eq (k + 1) i) where
  at : (k + 1 ≡ i) ⊎ (k + 1 ≡ i → ⊥) → get_or (map (λ (p : Point). p.index) points) k 0 < get_or (map (λ (p : Point). p.index) points) (k + 1) 0
  at (inl q) =
      let same : k ≡ i - 1 = omega (arith, q) in
      let left : get_or (map (λ (p : Point). p.index) points) k 0 ≡ (get_or points (i - 1) d).index = get_or-map (λ (p : Point). p.index) points k d 0 (omega (arith, q)) ∙ ap (λ (j : ℕ). (get_or points j d).index) same in
      let right : get_or (map (λ (p : Point). p.index) points) (k + 1) 0 ≡ (get_or points i e).index = ap (λ (j : ℕ). get_or (map (λ (p : Point). p.index) points) j 0) q ∙ get_or-map (λ (p : Point). p.index) points i e 0 below in
      omega (arith, left, right, next)
  at (inr ne) = rises k (omega (arith, ne))

-- two points whose indices do not rise
pub falls : (points : List Point) (i : ℕ) (d e : Point) → 1 ≤ i → i < length points → (get_or points i e).index ≤ (get_or points (i - 1) d).index
    → ((k : ℕ) → k + 1 < length (map (λ (p : Point). p.index) points) → get_or (map (λ (p : Point). p.index) points) k 0 < get_or (map (λ (p : Point). p.index) points) (k + 1) 0) → ⊥
falls points i d e some below drop rises =
    let left : get_or (map (λ (p : Point). p.index) points) (i - 1) 0 ≡ (get_or points (i - 1) d).index = get_or-map (λ (p : Point). p.index) points (i - 1) d 0 (omega arith) in
    let same : i - 1 + 1 ≡ i = omega arith in
    let right : get_or (map (λ (p : Point). p.index) points) (i - 1 + 1) 0 ≡ (get_or points i e).index = ap (λ (j : ℕ). get_or (map (λ (p : Point). p.index) points) j 0) same ∙ get_or-map (λ (p : Point). p.index) points i e 0 below in
    let up : get_or (map (λ (p : Point). p.index) points) (i - 1) 0 < get_or (map (λ (p : Point). p.index) points) (i - 1 + 1) 0 = rises (i - 1) (omega (arith, length-map points (λ (p : Point). p.index))) in
    omega (arith, left, right, up, drop)
