-- How many points a call has.
use Rattle.std.proofs.Common.{◌≡◌, ◌⊎◌, inl, inr, ℕ, zero, suc, ◌+◌, ◌<◌, ◌≤◌, Bool, true, false, eqb, cond, List, [], ◌∷◌, length, take, get_or, Option, Some, None, refl, sym, ◌∙◌, ap, subst, arith, get_or-set_same, get_or-set_other}
use Rattle.std.proofs.Math.ListN.{set}
use Rattle.std.proofs.lemmas.Bool.{cases_eq, cases_lt, eqb-true, eq-eqb}
use Rattle.std.proofs.lemmas.List.{length-take-le}
use Rattle.std.proofs.lemmas.List.Sums.{count_by_more_yes, count_by_more_no, count_by-le-length, sum_by-cons}
use Rattle.std.specs.Option.{option_map, option_and_then, MatchOption}
use Rattle.std.specs.List.{slice_get, All}
use Rattle.step_core.specs.declared.steps.Event.{Event}
use Rattle.linear_points.specs.declared.point.Point.{Point}
use Rattle.linear_points.specs.declared.intervals.Interval.{Interval}
use Rattle.linear_points.specs.declared.intervals.End.{End}
use Rattle.linear_points.specs.Linearization.{IsWithin, HasItsPoint, point_count, last_step}
use Rattle.linear_points.specs.Interval.{AreIntervals}
use Rattle.linear_points.proofs.Whole.{slice_get_some}
use Rattle.linear_points.proofs.Kept.{none_within, slice_get-past, last_is}

-- the counts of the first points
abbrev pub AreCounts : ℕ → List ℕ → List Point → Type 0
AreCounts calls counts points = (n : ℕ) → n < calls → get_or counts n 0 ≡ point_count n points

few_points : (n i : ℕ) (points : List Point) → i < length points → point_count n (take i points) ≤ i
few_points n i points h = omega (arith, count_by-le-length (λ (p : Point). eqb p.call n) (take i points), length-take-le i points (omega arith))

pub same_count : (counts : List ℕ) (k v : ℕ) → k < length counts → v ≡ get_or counts k v → v ≡ get_or counts k 0
same_count [] k v h e = absurd (omega arith)
same_count (x ∷ counts) zero v h e = e
same_count (x ∷ counts) (suc k) v h e = same_count counts k v (omega arith) e

-- the count of a point's call can be raised
pub count_is : (calls i v : ℕ) (counts : List ℕ) (points : List Point) (d : Point) → length counts ≡ calls → i < length points → (get_or points i d).call < calls → AreCounts calls counts (take i points)
    → v ≡ get_or counts (get_or points i d).call v → v ≤ i
count_is calls i v counts points d len below inside are is =
    let same : v ≡ get_or counts (get_or points i d).call 0 = same_count counts (get_or points i d).call v (omega (arith, len, inside)) is in
    omega (arith, same, are (get_or points i d).call inside, few_points (get_or points i d).call i points below)

pub more_counts : (calls i v : ℕ) (counts : List ℕ) (points : List Point) (d : Point) → length counts ≡ calls → i < length points → (get_or points i d).call < calls → AreCounts calls counts (take i points)
    → v ≡ get_or counts (get_or points i d).call v → AreCounts calls (set counts (get_or points i d).call (v + 1)) (take (i + 1) points)
more_counts calls i v counts points d len below inside are is n h = at (cases_eq n (get_or points i d).call) where
  same : v ≡ get_or counts (get_or points i d).call 0
  same = same_count counts (get_or points i d).call v (omega (arith, len, inside)) is

  at : (n ≡ (get_or points i d).call) ⊎ (n ≡ (get_or points i d).call → ⊥) → get_or (set counts (get_or points i d).call (v + 1)) n 0 ≡ point_count n (take (i + 1) points)
  at (inl e) =
      ap (λ (k : ℕ). get_or (set counts (get_or points i d).call (v + 1)) k 0) e
      ∙ get_or-set_same counts (get_or points i d).call (v + 1) 0 (omega (arith, inside, len))
      ∙ ap (λ (m : ℕ). m + 1) (same ∙ are (get_or points i d).call inside)
      ∙ sym (count_by_more_yes (λ (p : Point). eqb p.call (get_or points i d).call) points i d below (eq-eqb _ _ refl))
      ∙ ap (λ (k : ℕ). point_count k (take (i + 1) points)) (sym e)
  at (inr ne) =
      get_or-set_other counts (get_or points i d).call n (v + 1) 0 ne ∙ are n h
      ∙ sym (count_by_more_no (λ (p : Point). eqb p.call n) points i d below (other (eqb (get_or points i d).call n) refl)) where
        other : (b : Bool) → eqb (get_or points i d).call n ≡ b → b ≡ false
        other true q = absurd (ne (sym (eqb-true _ _ q)))
        other false q = refl

-- points that lie within their calls are points of calls that have intervals
pub calls_below : (es : List Event) (intervals : List Interval) (points : List Point) → AreIntervals es intervals → All (IsWithin es) points
    → All (λ (p : Point). p.call < length intervals) points
calls_below es intervals points are within k d h = at (cases_lt (get_or points k d).call (length intervals)) where
  at : ((get_or points k d).call < length intervals) ⊎ (length intervals ≤ (get_or points k d).call) → (get_or points k d).call < length intervals
  at (inl q) = q
  at (inr q) = absurd (none_within es intervals (get_or points k d) are (slice_get-past intervals (get_or points k d).call q) (within k d h))

-- a call that has no interval has no point
pub no_points : (n m : ℕ) (points : List Point) → All (λ (p : Point). p.call < m) points → m ≤ n → point_count n points ≡ 0
no_points n m [] below h = refl
no_points n m (p ∷ points) below h =
    let first : cond {A = ℕ} (eqb p.call n) 1 0 ≡ 0 = ap (λ (b : Bool). cond b 1 0) (other (eqb p.call n) refl) in
    let rest : point_count n points ≡ 0 = no_points n m points (λ k d q. below (suc k) d (omega (arith, q))) h in
    omega (arith, sum_by-cons (λ (q : Point). cond (eqb q.call n) 1 0) p points, first, rest) where
      other : (b : Bool) → eqb p.call n ≡ b → b ≡ false
      other true q = absurd (omega (arith, eqb-true _ _ q, below 0 p (omega arith), h))
      other false q = refl

-- what an interval allows
abbrev pub MayHave : Option End → ℕ → Type 0
MayHave o n = MatchOption o (n ≤ 1) (λ (e : End). n ≡ 1)

may_have_is : (o : Option End) (n : ℕ) → MatchOption (option_map (λ (e : End). e.index) o) (n ≤ 1) (λ last. n ≡ 1) ≡ MayHave o n
may_have_is None n = refl
may_have_is (Some e) n = refl

its_point : (es : List Event) (intervals : List Interval) (points : List Point) (n c : ℕ) (x : Interval) → AreIntervals es intervals → slice_get intervals n ≡ Some x → c ≡ point_count n points
    → HasItsPoint es points n ≡ MayHave x.end c
its_point es intervals points n c x are e counted =
    ap (λ (o : Option ℕ). MatchOption o (point_count n points ≤ 1) (λ last. point_count n points ≡ 1)) (last_is es intervals n x are e)
    ∙ may_have_is x.end (point_count n points) ∙ ap (MayHave x.end) (sym counted)

pub has_its_point : (es : List Event) (intervals : List Interval) (points : List Point) (n c : ℕ) (x : Interval) → AreIntervals es intervals → slice_get intervals n ≡ Some x → c ≡ point_count n points
    → MayHave x.end c → HasItsPoint es points n
has_its_point es intervals points n c x are e counted h = subst (λ (P : Type 0). P) (sym (its_point es intervals points n c x are e counted)) h

pub its_point_allowed : (es : List Event) (intervals : List Interval) (points : List Point) (n c : ℕ) (x : Interval) → AreIntervals es intervals → slice_get intervals n ≡ Some x → c ≡ point_count n points
    → HasItsPoint es points n → MayHave x.end c
its_point_allowed es intervals points n c x are e counted h = subst (λ (P : Type 0). P) (its_point es intervals points n c x are e counted) h

-- a call that has no interval may have no point
pub has_no_point : (es : List Event) (intervals : List Interval) (points : List Point) (n : ℕ) → AreIntervals es intervals → All (λ (p : Point). p.call < length intervals) points → length intervals ≤ n
    → HasItsPoint es points n
has_no_point es intervals points n are below h =
    subst (λ (o : Option ℕ). MatchOption o (point_count n points ≤ 1) (λ last. point_count n points ≡ 1)) (sym none) (omega (arith, no_points n (length intervals) points below h)) where
      none : last_step es n ≡ None
      none = are.last n ∙ ap (λ (o : Option Interval). option_map (λ (e : End). e.index) (option_and_then (λ (i : Interval). i.end) o)) (slice_get-past intervals n h)

pub count_told : (calls : ℕ) (counts : List ℕ) (points : List Point) (n v : ℕ) → length counts ≡ calls → AreCounts calls counts points → n < calls → v ≡ get_or counts n v → v ≡ point_count n points
count_told calls counts points n v len are h is = same_count counts n v (omega (arith, h, len)) is ∙ are n h

interval_at : (xs intervals : List Interval) (n : ℕ) (d : Interval) → xs ≡ intervals → n < length xs → slice_get intervals n ≡ Some (get_or xs n d)
interval_at xs intervals n d same h = ap (λ (ys : List Interval). slice_get ys n) (sym same) ∙ slice_get_some xs n d h

pub allowed : (es : List Event) (intervals xs : List Interval) (points : List Point) (n c : ℕ) (d : Interval) → AreIntervals es intervals → xs ≡ intervals → n < length xs → c ≡ point_count n points
    → MayHave (get_or xs n d).end c → HasItsPoint es points n
allowed es intervals xs points n c d are same h counted may = has_its_point es intervals points n c (get_or xs n d) are (interval_at xs intervals n d same h) counted may

pub must_be_allowed : (es : List Event) (intervals xs : List Interval) (points : List Point) (n c : ℕ) (d : Interval) → AreIntervals es intervals → xs ≡ intervals → n < length xs → c ≡ point_count n points
    → HasItsPoint es points n → MayHave (get_or xs n d).end c
must_be_allowed es intervals xs points n c d are same h counted has = its_point_allowed es intervals points n c (get_or xs n d) are (interval_at xs intervals n d same h) counted has

pub all_points : (es : List Event) (intervals : List Interval) (points : List Point) (m : ℕ) → AreIntervals es intervals → All (λ (p : Point). p.call < length intervals) points → length intervals ≤ m
    → ((k : ℕ) → k < m → HasItsPoint es points k) → (n : ℕ) → HasItsPoint es points n
all_points es intervals points m are below h has n = at (cases_lt n m) where
  at : (n < m) ⊎ (m ≤ n) → HasItsPoint es points n
  at (inl q) = has n q
  at (inr q) = has_no_point es intervals points n are below (omega (arith, q, h))
