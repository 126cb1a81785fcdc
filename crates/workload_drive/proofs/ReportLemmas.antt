-- The report, from the points and the intervals of a run.
use Rattle.std.proofs.Common.{arith, ◌≡◌, ℕ, zero, suc, ◌+◌, ◌<◌, Bool, true, false, cond, List, [], ◌∷◌, ◌++◌, length, take, drop, get_or, set, map, refl, sym, ap, ◌∙◌, subst, Option, Some, None, Ok, inl, inr}
use Rattle.std.specs.Prelude.{◌≢◌, ◌==◌, is_some, slice_get, unwrap_or, Result, IsOkAnd}
use Rattle.std.specs.Option.{option_map, option_and_then}
use Rattle.std.proofs.lemmas.List.{length-set, get_or-set_same, get_or-set_other, take_more, length-drop, drop-drop}
use Rattle.std.proofs.lemmas.Bool.{eq-eqb, ne_eqb, cases_eq}
use Rattle.dep_index.specs.Catalogue.{modules_of}
use Rattle.step_core.specs.declared.steps.Step.TheVariants.{Go}
use Rattle.step_core.specs.declared.steps.Event.{Event}
use Rattle.linear_points.specs.declared.point.Point.{Point}
use Rattle.linear_points.specs.declared.intervals.Interval.{Interval}
use Rattle.linear_points.specs.Interval.{AreIntervals}
use Rattle.linear_points.specs.declared.intervals.End.{End}
use Rattle.linear_points.specs.Linearization.{last_step}
use Rattle.linear_points.specs.Run.{IsRun, run_events, run_calls, run_points}
use Rattle.workload_drive.specs.declared.fault.LineFault.{LineFault}
use Rattle.workload_drive.specs.declared.fault.ScheduleFault.{ScheduleFault}
use Rattle.workload_drive.specs.declared.fault.ScheduleFault.TheVariants as fault
use Rattle.workload_drive.specs.Schedule.Report.{point_of, first_of, thread_of, call_line, line_of, lines_from, report_of, IsReport, Refuses}
use Rattle.workload_drive.specs.Schedule.Steps.{Schedule, schedule_of}
use Rattle.workload_drive.specs.Schedule.ForProofs.{with_point, interval_line, interval_lines, Stops}

-- one option, or else another
abbrev or_else : {A : Type 0} → Option A → Option A → Option A
or_else None later = later
or_else (Some x) later = Some x

find_push : (ps : List Point) (p : Point) (n : ℕ) → point_of (ps ++ p ∷ []) n ≡ or_else (point_of ps n) (cond (p.call == n) (Some p) None)
find_push [] p n = refl
find_push (q ∷ qs) p n =
    elim (q.call == n) as (λ (b : Bool). cond b (Some q) (point_of (qs ++ p ∷ []) n) ≡ or_else (cond b (Some q) (point_of qs n)) (cond (p.call == n) (Some p) None))
    [ true ↦ refl | false ↦ find_push qs p n ]

pub length-with_point : (taken : List (Option Point)) (p : Point) → length (with_point taken p) ≡ length taken
length-with_point taken p =
    elim (is_some (get_or taken p.call None)) as (λ (b : Bool). length (cond b taken (set taken p.call (Some p))) ≡ length taken)
    [ true ↦ refl | false ↦ length-set taken p.call (Some p) ]

or_none : {A : Type 0} (o : Option A) → or_else o None ≡ o
or_none None = refl
or_none (Some x) = refl

-- with one more point, a call has that point if it is its own and there was none
at_point : (taken : List (Option Point)) (p : Point) (n : ℕ) → n < length taken
    → get_or (with_point taken p) n None ≡ or_else (get_or taken n None) (cond (p.call == n) (Some p) None)
at_point taken p n below = elim (cases_eq p.call n) [ inl same ↦ mine same (get_or taken p.call None) refl | inr other ↦ others other (is_some (get_or taken p.call None)) refl ] where
  mine : p.call ≡ n → (o : Option Point) → get_or taken p.call None ≡ o → get_or (with_point taken p) n None ≡ or_else (get_or taken n None) (cond (p.call == n) (Some p) None)
  mine same (Some q) is =
      let kept : with_point taken p ≡ taken = ap (λ (o : Option Point). cond (is_some o) taken (set taken p.call (Some p))) is in
      let there : get_or taken n None ≡ Some q = ap (λ (k : ℕ). get_or taken k None) (sym same) ∙ is in
      ap (λ (t : List (Option Point)). get_or t n None) kept ∙ there
      ∙ ap (λ (o : Option Point). or_else o (cond (p.call == n) (Some p) None)) (sym there)
  mine same None is =
      let noted : with_point taken p ≡ set taken p.call (Some p) = ap (λ (o : Option Point). cond (is_some o) taken (set taken p.call (Some p))) is in
      let there : get_or taken n None ≡ None = ap (λ (k : ℕ). get_or taken k None) (sym same) ∙ is in
      ap (λ (t : List (Option Point)). get_or t n None) noted
      ∙ ap (λ (k : ℕ). get_or (set taken k (Some p)) n None) same
      ∙ get_or-set_same taken n (Some p) None below
      ∙ ap (λ (b : Bool). cond b (Some p) None) (sym (eq-eqb p.call n same))
      ∙ ap (λ (o : Option Point). or_else o (cond (p.call == n) (Some p) None)) (sym there)

  others : p.call ≢ n → (b : Bool) → is_some (get_or taken p.call None) ≡ b → get_or (with_point taken p) n None ≡ or_else (get_or taken n None) (cond (p.call == n) (Some p) None)
  others other b is =
      let apart : (p.call == n) ≡ false = ne_eqb p.call n other in
      let kept : get_or (with_point taken p) n None ≡ get_or taken n None =
      elim (is_some (get_or taken p.call None)) as (λ (b : Bool). get_or (cond b taken (set taken p.call (Some p))) n None ≡ get_or taken n None)
      [ true ↦ refl | false ↦ get_or-set_other taken p.call n (Some p) None (λ e. other (sym e)) ] in
      kept ∙ sym (or_none (get_or taken n None)) ∙ ap (λ (b : Bool). or_else (get_or taken n None) (cond b (Some p) None)) (sym apart)

pub point_noted : (taken taken' : List (Option Point)) (points : List Point) (i calls : ℕ) (d : Point) → length taken ≡ calls → i < length points
    → ((n : ℕ) → n < calls → get_or taken n None ≡ point_of (take i points) n) → taken' ≡ with_point taken (get_or points i d)
    → (n : ℕ) → n < calls → get_or taken' n None ≡ point_of (take (i + 1) points) n
point_noted taken taken' points i calls d len below so_far noted n within =
    let p : Point = get_or points i d in
    let here : n < length taken = omega arith in
    ap (λ (t : List (Option Point)). get_or t n None) noted
    ∙ at_point taken p n here
    ∙ ap (λ (o : Option Point). or_else o (cond (p.call == n) (Some p) None)) (so_far n within)
    ∙ sym (find_push (take i points) p n)
    ∙ ap (λ (ps : List Point). point_of ps n) (sym (take_more points i d below))

get_at : (all : List Interval) (n : ℕ) (i : Interval) (later : List Interval) → drop n all ≡ i ∷ later → slice_get all n ≡ Some i
get_at [] zero i later is = absurd (omega (arith, ap length is))
get_at [] (suc n) i later is = absurd (omega (arith, ap length is))
get_at (x ∷ xs) zero i later is = ap (λ (l : List Interval). Some (get_or l 0 x)) is
get_at (x ∷ xs) (suc n) i later is = get_at xs n i later is

same_line : (s : Schedule) (es : List Event) (points : List Point) (taken : List (Option Point)) (all : List Interval) (n : ℕ) (i : Interval)
    → AreIntervals es all → slice_get all n ≡ Some i → get_or taken n None ≡ point_of points n
    → interval_line s n i (get_or taken n None) ≡ line_of s es points n i.call
same_line s es points taken all n i are found point =
    let first : first_of es n ≡ i.first = ap (λ (o : Option ℕ). unwrap_or o 0) (are.first n ∙ ap (option_map (λ (x : Interval). x.first)) found) in
    let last : last_step es n ≡ option_map (λ (e : End). e.index) i.end =
    are.last n ∙ ap (λ (o : Option Interval). option_map (λ (e : End). e.index) (option_and_then (λ (x : Interval). x.end) o)) found in
    ap (call_line s.catalogue n (thread_of (get_or s.steps i.first (Go 0))) i.call i.first (option_map (λ (e : End). e.index) i.end)) point
    ∙ ap (λ (l : Option ℕ). call_line s.catalogue n (thread_of (get_or s.steps i.first (Go 0))) i.call i.first l (point_of points n)) (sym last)
    ∙ ap (λ (f : ℕ). call_line s.catalogue n (thread_of (get_or s.steps f (Go 0))) i.call f (last_step es n) (point_of points n)) (sym first)

same_lines : (s : Schedule) (es : List Event) (points : List Point) (taken : List (Option Point)) (all : List Interval) (n : ℕ) (later : List Interval)
    → AreIntervals es all → ((k : ℕ) → k < length all → get_or taken k None ≡ point_of points k) → drop n all ≡ later
    → interval_lines s taken n later ≡ lines_from s es points n (map (λ (i : Interval). i.call) later)
same_lines s es points taken all n [] are own left = refl
same_lines s es points taken all n (i ∷ later) are own left =
    let below : n < length all = omega (arith, length-drop n all, ap length left) in
    let next : drop (n + 1) all ≡ later = sym (drop-drop 1 n all) ∙ ap (drop 1) left in
    ap (λ (t : List ℕ). t ++ interval_lines s taken (n + 1) later) (same_line s es points taken all n i are (get_at all n i later left) (own n below))
    ∙ ap (λ (t : List ℕ). line_of s es points n i.call ++ t) (same_lines s es points taken all (n + 1) later are own next)

-- the lines by intervals are the report
pub is_report : (s : Schedule) (intervals : List Interval) (taken : List (Option Point))
    → map (λ (i : Interval). i.call) intervals ≡ run_calls (modules_of s.catalogue) s.workers s.threads s.steps
    → AreIntervals (run_events (modules_of s.catalogue) s.workers s.threads s.steps) intervals
    → ((k : ℕ) → k < length intervals → get_or taken k None ≡ point_of (run_points (modules_of s.catalogue) s.workers s.threads s.steps) k)
    → interval_lines s taken 0 intervals ≡ report_of s
is_report s intervals taken calls are own =
    let es : List Event = run_events (modules_of s.catalogue) s.workers s.threads s.steps in
    let points : List Point = run_points (modules_of s.catalogue) s.workers s.threads s.steps in
    same_lines s es points taken intervals 0 intervals are own refl ∙ ap (lines_from s es points 0) calls

pub reports : (text : List ℕ) (s : Schedule) (intervals held : List Interval) (points : List Point) (taken : List (Option Point)) (n : ℕ)
    → IsRun (modules_of s.catalogue) s.workers s.threads s.steps
    → points ≡ run_points (modules_of s.catalogue) s.workers s.threads s.steps
    → map (λ (i : Interval). i.call) intervals ≡ run_calls (modules_of s.catalogue) s.workers s.threads s.steps
    → AreIntervals (run_events (modules_of s.catalogue) s.workers s.threads s.steps) intervals
    → held ≡ intervals → n ≡ length intervals
    → ((k : ℕ) → k < n → get_or taken k None ≡ point_of points k)
    → text ≡ interval_lines s taken 0 held → IsReport text s
reports text s intervals held points taken n run noted calls are held_is counted own lines =
    let own' : (k : ℕ) → k < length intervals → get_or taken k None ≡ point_of (run_points (modules_of s.catalogue) s.workers s.threads s.steps) k =
    λ k below. own k (omega arith) ∙ ap (λ (ps : List Point). point_of ps k) noted in
    (run, lines ∙ ap (interval_lines s taken 0) held_is ∙ is_report s intervals taken calls are own')

-- what stops the run of a schedule refuses its input
pub stops_input : (input : List ℕ) (s : Schedule) (e : ScheduleFault) → schedule_of input ≡ Ok s → Stops s e → Refuses input e
stops_input input s (fault.Line f) is stops = absurd stops
stops_input input s (fault.Step index cause) is stops =
    subst (λ (r : Result Schedule LineFault). IsOkAnd r (λ (s : Schedule). Stops s (fault.Step index cause))) (sym is) stops
stops_input input s fault.Memory is stops = tt
