-- From the lives of its calls: a run's points are linear.
use Rattle.std.proofs.Common.{map, ◌≡◌, ℕ, zero, suc, ◌+◌, ◌<◌, ◌≤◌, Bool, true, false, eqb, cond, List, [], ◌∷◌, length, get_or, Some, refl, sym, ◌∙◌, ap, arith}
use Rattle.std.proofs.lemmas.Bool.{eqb-true, eqb-false, eq-eqb}
use Rattle.std.proofs.lemmas.List.Sums.{sum_by-cons}
use Rattle.std.specs.Bool.{MatchBool}
use Rattle.std.specs.Option.{IsSomeAnd}
use Rattle.std.specs.List.{slice_get}
use Rattle.dep_index.specs.declared.table.calls.Reply.{Reply}
use Rattle.step_core.specs.declared.steps.Event.{Event}
use Rattle.step_core.specs.declared.steps.Event.TheVariants.{Nothing, Invoked, Moved, Point as Takes, Returned}
use Rattle.linear_points.specs.declared.point.Point.{Point}
use Rattle.linear_points.specs.Run.{points_from}
use Rattle.linear_points.specs.Linearization.{point_count, first_index, is_invoked, is_returned, returned_reply}
use Rattle.linear_points.proofs.Lives.{Stage, Before, Open, Effective, Over, Lives, points_left, once}

-- the points of a list that begins with a point
counted : (n i k : ℕ) (r : Reply) (es : List Event) → point_count n (points_from i (Takes k r ∷ es)) ≡ cond (eqb k n) 1 0 + point_count n (points_from (i + 1) es)
counted n i k r es = sum_by-cons (λ (p : Point). cond (eqb p.call n) 1 0) (record { call = k; index = i; reply = r }) (points_from (i + 1) es)

-- a call that returns has had all its points
pub once_returned : (n i j : ℕ) (stage : Stage) (es : List Event) → Lives n stage es → (l : ℕ) → first_index (is_returned n) j es ≡ Some l → point_count n (points_from i es) ≡ points_left stage
once_returned n i j stage [] lives l e = cc
once_returned n i j stage (Nothing ∷ es) lives l e = once_returned n (i + 1) (j + 1) stage es lives l e
once_returned n i j stage (Moved ∷ es) lives l e = once_returned n (i + 1) (j + 1) stage es lives l e
once_returned n i j stage (Invoked k ∷ es) lives l e = at (eqb k n) lives (λ m. once_returned n (i + 1) (j + 1) stage es m l e) (λ m. once_returned n (i + 1) (j + 1) Open es m l e) where
  at : (b : Bool) → MatchBool b ((stage ≡ Before) × Lives n Open es) (Lives n stage es)
      → (Lives n stage es → point_count n (points_from (i + 1) es) ≡ points_left stage) → (Lives n Open es → point_count n (points_from (i + 1) es) ≡ 1)
      → point_count n (points_from (i + 1) es) ≡ points_left stage
  at true m rest begun = begun m.1 ∙ ap points_left (sym m.0)
  at false m rest begun = rest m
once_returned n i j stage (Takes k r ∷ es) lives l e = at (eqb k n) refl lives (λ m. once_returned n (i + 1) (j + 1) stage es m l e) (λ m. once_returned n (i + 1) (j + 1) (Effective r) es m l e) where
  at : (b : Bool) → eqb k n ≡ b → MatchBool b ((stage ≡ Open) × Lives n (Effective r) es) (Lives n stage es)
      → (Lives n stage es → point_count n (points_from (i + 1) es) ≡ points_left stage) → (Lives n (Effective r) es → point_count n (points_from (i + 1) es) ≡ 0)
      → point_count n (points_from i (Takes k r ∷ es)) ≡ points_left stage
  at true t m rest taken =
      let c : point_count n (points_from i (Takes k r ∷ es)) ≡ 1 + point_count n (points_from (i + 1) es) = counted n i k r es ∙ ap (λ (b : Bool). cond b 1 0 + point_count n (points_from (i + 1) es)) t in
      let one : point_count n (points_from i (Takes k r ∷ es)) ≡ 1 = omega (arith, c, taken m.1) in
      one ∙ ap points_left (sym m.0)
  at false t m rest taken =
      let c : point_count n (points_from i (Takes k r ∷ es)) ≡ 0 + point_count n (points_from (i + 1) es) = counted n i k r es ∙ ap (λ (b : Bool). cond b 1 0 + point_count n (points_from (i + 1) es)) t in
      omega (arith, c, rest m)
once_returned n i j stage (Returned k r ∷ es) lives l e = at (eqb k n) lives e (λ m q. once_returned n (i + 1) (j + 1) stage es m l q) where
  at : (b : Bool) → MatchBool b ((stage ≡ Effective r) × Lives n Over es) (Lives n stage es) → cond b (Some j) (first_index (is_returned n) (j + 1) es) ≡ Some l
      → (Lives n stage es → first_index (is_returned n) (j + 1) es ≡ Some l → point_count n (points_from (i + 1) es) ≡ points_left stage)
      → point_count n (points_from (i + 1) es) ≡ points_left stage
  at true m q rest =
      let none : point_count n (points_from (i + 1) es) ≤ 0 = once n (i + 1) Over es m.1 in
      let zero_left : point_count n (points_from (i + 1) es) ≡ 0 = omega (arith, none) in
      zero_left ∙ ap points_left (sym m.0)
  at false m q rest = rest m q

-- a point of the rest of a run lies in it
pub in_span : (i k : ℕ) (es : List Event) (p : Point) → slice_get (points_from i es) k ≡ Some p → (i ≤ p.index) × (p.index < i + length es)
in_span i k [] p e = cc
in_span i k (Nothing ∷ es) p e = let h : (i + 1 ≤ p.index) × (p.index < i + 1 + length es) = in_span (i + 1) k es p e in (omega arith, omega arith)
in_span i k (Moved ∷ es) p e = let h : (i + 1 ≤ p.index) × (p.index < i + 1 + length es) = in_span (i + 1) k es p e in (omega arith, omega arith)
in_span i k (Invoked m ∷ es) p e = let h : (i + 1 ≤ p.index) × (p.index < i + 1 + length es) = in_span (i + 1) k es p e in (omega arith, omega arith)
in_span i k (Returned m r ∷ es) p e = let h : (i + 1 ≤ p.index) × (p.index < i + 1 + length es) = in_span (i + 1) k es p e in (omega arith, omega arith)
in_span i zero (Takes m r ∷ es) p e = let is : i ≡ p.index = index_of _ p e in (omega arith, omega arith) where
  index_of : (x y : Point) → Some x ≡ Some y → x.index ≡ y.index
  index_of x y q = let same : x ≡ y = cc in ap (λ (z : Point). z.index) same
in_span i (suc k) (Takes m r ∷ es) p e = let h : (i + 1 ≤ p.index) × (p.index < i + 1 + length es) = in_span (i + 1) k es p e in (omega arith, omega arith)

-- a point comes at or after the step that invoked its call
pub after_invoked : (i k : ℕ) (es : List Event) (p : Point) → slice_get (points_from i es) k ≡ Some p → Lives p.call Before es
    → IsSomeAnd (first_index (is_invoked p.call) i es) (λ first. first ≤ p.index)
after_invoked i k [] p e lives = cc
after_invoked i k (Nothing ∷ es) p e lives = after_invoked (i + 1) k es p e lives
after_invoked i k (Moved ∷ es) p e lives = after_invoked (i + 1) k es p e lives
after_invoked i k (Invoked m ∷ es) p e lives = at (eqb m p.call) lives (λ l. after_invoked (i + 1) k es p e l) where
  later : i + 1 ≤ p.index
  later = (in_span (i + 1) k es p e).0

  at : (b : Bool) → MatchBool b ((Before ≡ Before) × Lives p.call Open es) (Lives p.call Before es)
      → (Lives p.call Before es → IsSomeAnd (first_index (is_invoked p.call) (i + 1) es) (λ first. first ≤ p.index))
      → IsSomeAnd (cond b (Some i) (first_index (is_invoked p.call) (i + 1) es)) (λ first. first ≤ p.index)
  at true l rest = omega (arith, later)
  at false l rest = rest l
after_invoked i k (Returned m r ∷ es) p e lives = at (eqb m p.call) lives (λ l. after_invoked (i + 1) k es p e l) where
  at : (b : Bool) → MatchBool b ((Before ≡ Effective r) × Lives p.call Over es) (Lives p.call Before es)
      → (Lives p.call Before es → IsSomeAnd (first_index (is_invoked p.call) (i + 1) es) (λ first. first ≤ p.index))
      → IsSomeAnd (first_index (is_invoked p.call) (i + 1) es) (λ first. first ≤ p.index)
  at true l rest = absurd (apart l.0) where
    apart : Before ≡ Effective r → ⊥
    apart q = cc
  at false l rest = rest l
after_invoked i zero (Takes m r ∷ es) p e lives = at (eqb m p.call) refl lives where
  call_is : (x y : Point) → Some x ≡ Some y → x.call ≡ y.call
  call_is x y q = let same : x ≡ y = cc in ap (λ (z : Point). z.call) same

  at : (b : Bool) → eqb m p.call ≡ b → MatchBool b ((Before ≡ Open) × Lives p.call (Effective r) es) (Lives p.call Before es) → IsSomeAnd (first_index (is_invoked p.call) (i + 1) es) (λ first. first ≤ p.index)
  at true t l = absurd (apart l.0) where
    apart : Before ≡ Open → ⊥
    apart q = cc
  at false t l = absurd (eqb-false m p.call t (call_is _ p e))
after_invoked i (suc k) (Takes m r ∷ es) p e lives = at (eqb m p.call) lives (λ l. after_invoked (i + 1) k es p e l) where
  at : (b : Bool) → MatchBool b ((Before ≡ Open) × Lives p.call (Effective r) es) (Lives p.call Before es)
      → (Lives p.call Before es → IsSomeAnd (first_index (is_invoked p.call) (i + 1) es) (λ first. first ≤ p.index))
      → IsSomeAnd (first_index (is_invoked p.call) (i + 1) es) (λ first. first ≤ p.index)
  at true l rest = absurd (apart l.0) where
    apart : Before ≡ Open → ⊥
    apart q = cc
  at false l rest = rest l

-- a point counts for its call
member_counts : (i k : ℕ) (es : List Event) (p : Point) → slice_get (points_from i es) k ≡ Some p → 0 < point_count p.call (points_from i es)
member_counts i k [] p e = cc
member_counts i k (Nothing ∷ es) p e = member_counts (i + 1) k es p e
member_counts i k (Moved ∷ es) p e = member_counts (i + 1) k es p e
member_counts i k (Invoked m ∷ es) p e = member_counts (i + 1) k es p e
member_counts i k (Returned m r ∷ es) p e = member_counts (i + 1) k es p e
member_counts i zero (Takes m r ∷ es) p e =
    let t : eqb m p.call ≡ true = eq-eqb m p.call (call_is _ p e) in
    let c : point_count p.call (points_from i (Takes m r ∷ es)) ≡ 1 + point_count p.call (points_from (i + 1) es) = counted p.call i m r es ∙ ap (λ (b : Bool). cond b 1 0 + point_count p.call (points_from (i + 1) es)) t in
    omega (arith, c) where
      call_is : (x y : Point) → Some x ≡ Some y → x.call ≡ y.call
      call_is x y q = let same : x ≡ y = cc in ap (λ (z : Point). z.call) same
member_counts i (suc k) (Takes m r ∷ es) p e = omega (arith, counted p.call i m r es, member_counts (i + 1) k es p e)

-- a place is not before the start
place_from : (test : Event → Bool) (i : ℕ) (es : List Event) (l : ℕ) → first_index test i es ≡ Some l → i ≤ l
place_from test i [] l e = cc
place_from test i (x ∷ es) l e = at (test x) e (λ q. place_from test (i + 1) es l q) where
  at : (b : Bool) → cond b (Some i) (first_index test (i + 1) es) ≡ Some l → (first_index test (i + 1) es ≡ Some l → i + 1 ≤ l) → i ≤ l
  at true q rest = let same : i ≡ l = cc in omega (arith, same)
  at false q rest = let h : i + 1 ≤ l = rest q in omega arith

-- a point comes at or before the step that returns its call
pub before_returned : (i k : ℕ) (stage : Stage) (es : List Event) (p : Point) → slice_get (points_from i es) k ≡ Some p → Lives p.call stage es
    → (l : ℕ) → first_index (is_returned p.call) i es ≡ Some l → p.index ≤ l
before_returned i k stage [] p e lives l q = cc
before_returned i k stage (Nothing ∷ es) p e lives l q = before_returned (i + 1) k stage es p e lives l q
before_returned i k stage (Moved ∷ es) p e lives l q = before_returned (i + 1) k stage es p e lives l q
before_returned i k stage (Invoked m ∷ es) p e lives l q = at (eqb m p.call) lives (λ x. before_returned (i + 1) k stage es p e x l q) (λ x. before_returned (i + 1) k Open es p e x l q) where
  at : (b : Bool) → MatchBool b ((stage ≡ Before) × Lives p.call Open es) (Lives p.call stage es) → (Lives p.call stage es → p.index ≤ l) → (Lives p.call Open es → p.index ≤ l) → p.index ≤ l
  at true x rest begun = begun x.1
  at false x rest begun = rest x
before_returned i zero stage (Takes m r ∷ es) p e lives l q = let is : i ≡ p.index = index_of _ p e in let h : i + 1 ≤ l = place_from (is_returned p.call) (i + 1) es l q in omega arith where
  index_of : (x y : Point) → Some x ≡ Some y → x.index ≡ y.index
  index_of x y f = let same : x ≡ y = cc in ap (λ (z : Point). z.index) same
before_returned i (suc k) stage (Takes m r ∷ es) p e lives l q = at (eqb m p.call) lives (λ x. before_returned (i + 1) k stage es p e x l q) (λ x. before_returned (i + 1) k (Effective r) es p e x l q) where
  at : (b : Bool) → MatchBool b ((stage ≡ Open) × Lives p.call (Effective r) es) (Lives p.call stage es) → (Lives p.call stage es → p.index ≤ l) → (Lives p.call (Effective r) es → p.index ≤ l) → p.index ≤ l
  at true x rest taken = taken x.1
  at false x rest taken = rest x
before_returned i k stage (Returned m r ∷ es) p e lives l q = at (eqb m p.call) lives q (λ x y. before_returned (i + 1) k stage es p e x l y) where
  at : (b : Bool) → MatchBool b ((stage ≡ Effective r) × Lives p.call Over es) (Lives p.call stage es) → cond b (Some i) (first_index (is_returned p.call) (i + 1) es) ≡ Some l
      → (Lives p.call stage es → first_index (is_returned p.call) (i + 1) es ≡ Some l → p.index ≤ l) → p.index ≤ l
  at true x y rest = absurd (omega (arith, once p.call (i + 1) Over es x.1, member_counts (i + 1) k es p e))
  at false x y rest = rest x y

-- a call that is over does not return again
over_returns : (n j : ℕ) (es : List Event) (r : Reply) → Lives n Over es → slice_get es j ≡ Some (Returned n r) → ⊥
over_returns n j [] r lives e = cc
over_returns n zero (Nothing ∷ es) r lives e = cc
over_returns n zero (Moved ∷ es) r lives e = cc
over_returns n zero (Invoked m ∷ es) r lives e = cc
over_returns n zero (Takes m x ∷ es) r lives e = cc
over_returns n zero (Returned m x ∷ es) r lives e = at (eqb m n) refl lives where
  same : m ≡ n
  same = cc

  at : (b : Bool) → eqb m n ≡ b → MatchBool b ((Over ≡ Effective x) × Lives n Over es) (Lives n Over es) → ⊥
  at true t l = apart l.0 where
    apart : Over ≡ Effective x → ⊥
    apart q = cc
  at false t l = eqb-false m n t same
over_returns n (suc j) (Nothing ∷ es) r lives e = over_returns n j es r lives e
over_returns n (suc j) (Moved ∷ es) r lives e = over_returns n j es r lives e
over_returns n (suc j) (Invoked m ∷ es) r lives e = at (eqb m n) lives (λ l. over_returns n j es r l e) where
  at : (b : Bool) → MatchBool b ((Over ≡ Before) × Lives n Open es) (Lives n Over es) → (Lives n Over es → ⊥) → ⊥
  at true l rest = apart l.0 where
    apart : Over ≡ Before → ⊥
    apart q = cc
  at false l rest = rest l
over_returns n (suc j) (Takes m x ∷ es) r lives e = at (eqb m n) lives (λ l. over_returns n j es r l e) where
  at : (b : Bool) → MatchBool b ((Over ≡ Open) × Lives n (Effective x) es) (Lives n Over es) → (Lives n Over es → ⊥) → ⊥
  at true l rest = apart l.0 where
    apart : Over ≡ Open → ⊥
    apart q = cc
  at false l rest = rest l
over_returns n (suc j) (Returned m x ∷ es) r lives e = at (eqb m n) lives (λ l. over_returns n j es r l e) where
  at : (b : Bool) → MatchBool b ((Over ≡ Effective x) × Lives n Over es) (Lives n Over es) → (Lives n Over es → ⊥) → ⊥
  at true l rest = rest l.1
  at false l rest = rest l

-- a call returns what it answered
reply_is : (n j : ℕ) (es : List Event) (x r : Reply) → Lives n (Effective x) es → slice_get es j ≡ Some (Returned n r) → r ≡ x
reply_is n j [] x r lives e = cc
reply_is n zero (Nothing ∷ es) x r lives e = cc
reply_is n zero (Moved ∷ es) x r lives e = cc
reply_is n zero (Invoked m ∷ es) x r lives e = cc
reply_is n zero (Takes m y ∷ es) x r lives e = cc
reply_is n zero (Returned m y ∷ es) x r lives e = at (eqb m n) refl lives where
  same : m ≡ n
  same = cc

  told : y ≡ r
  told = cc

  at : (b : Bool) → eqb m n ≡ b → MatchBool b ((Effective x ≡ Effective y) × Lives n Over es) (Lives n (Effective x) es) → r ≡ x
  at true t l = sym told ∙ sym (effective_is x y l.0) where
    effective_is : (u v : Reply) → Effective u ≡ Effective v → u ≡ v
    effective_is u v q = cc
  at false t l = absurd (eqb-false m n t same)
reply_is n (suc j) (Nothing ∷ es) x r lives e = reply_is n j es x r lives e
reply_is n (suc j) (Moved ∷ es) x r lives e = reply_is n j es x r lives e
reply_is n (suc j) (Invoked m ∷ es) x r lives e = at (eqb m n) lives (λ l. reply_is n j es x r l e) where
  at : (b : Bool) → MatchBool b ((Effective x ≡ Before) × Lives n Open es) (Lives n (Effective x) es) → (Lives n (Effective x) es → r ≡ x) → r ≡ x
  at true l rest = absurd (apart l.0) where
    apart : Effective x ≡ Before → ⊥
    apart q = cc
  at false l rest = rest l
reply_is n (suc j) (Takes m y ∷ es) x r lives e = at (eqb m n) lives (λ l. reply_is n j es x r l e) where
  at : (b : Bool) → MatchBool b ((Effective x ≡ Open) × Lives n (Effective y) es) (Lives n (Effective x) es) → (Lives n (Effective x) es → r ≡ x) → r ≡ x
  at true l rest = absurd (apart l.0) where
    apart : Effective x ≡ Open → ⊥
    apart q = cc
  at false l rest = rest l
reply_is n (suc j) (Returned m y ∷ es) x r lives e = at (eqb m n) lives (λ l. reply_is n j es x r l e) where
  at : (b : Bool) → MatchBool b ((Effective x ≡ Effective y) × Lives n Over es) (Lives n (Effective x) es) → (Lives n (Effective x) es → r ≡ x) → r ≡ x
  at true l rest = absurd (over_returns n j es r l.1 e)
  at false l rest = rest l

-- a returned call's point has the reply that the call returned
pub answers_return : (i k j : ℕ) (stage : Stage) (es : List Event) (p : Point) (r : Reply) → slice_get (points_from i es) k ≡ Some p → Lives p.call stage es
    → slice_get es j ≡ Some (Returned p.call r) → r ≡ p.reply
answers_return i k j stage [] p r e lives q = cc
answers_return i k zero stage (Nothing ∷ es) p r e lives q = cc
answers_return i k (suc j) stage (Nothing ∷ es) p r e lives q = answers_return (i + 1) k j stage es p r e lives q
answers_return i k zero stage (Moved ∷ es) p r e lives q = cc
answers_return i k (suc j) stage (Moved ∷ es) p r e lives q = answers_return (i + 1) k j stage es p r e lives q
answers_return i k zero stage (Invoked m ∷ es) p r e lives q = cc
answers_return i k (suc j) stage (Invoked m ∷ es) p r e lives q = at (eqb m p.call) lives (λ l. answers_return (i + 1) k j stage es p r e l q) (λ l. answers_return (i + 1) k j Open es p r e l q) where
  at : (b : Bool) → MatchBool b ((stage ≡ Before) × Lives p.call Open es) (Lives p.call stage es) → (Lives p.call stage es → r ≡ p.reply) → (Lives p.call Open es → r ≡ p.reply) → r ≡ p.reply
  at true l rest begun = begun l.1
  at false l rest begun = rest l
answers_return i k zero stage (Returned m x ∷ es) p r e lives q = at (eqb m p.call) refl lives where
  same : m ≡ p.call
  same = cc

  at : (b : Bool) → eqb m p.call ≡ b → MatchBool b ((stage ≡ Effective x) × Lives p.call Over es) (Lives p.call stage es) → r ≡ p.reply
  at true t l = absurd (omega (arith, once p.call (i + 1) Over es l.1, member_counts (i + 1) k es p e))
  at false t l = absurd (eqb-false m p.call t same)
answers_return i k (suc j) stage (Returned m x ∷ es) p r e lives q = at (eqb m p.call) lives (λ l. answers_return (i + 1) k j stage es p r e l q) where
  at : (b : Bool) → MatchBool b ((stage ≡ Effective x) × Lives p.call Over es) (Lives p.call stage es) → (Lives p.call stage es → r ≡ p.reply) → r ≡ p.reply
  at true l rest = absurd (over_returns p.call j es r l.1 q)
  at false l rest = rest l
answers_return i k zero stage (Takes m x ∷ es) p r e lives q = cc
answers_return i zero (suc j) stage (Takes m x ∷ es) p r e lives q = at (eqb m p.call) refl lives where
  call_is : (u v : Point) → Some u ≡ Some v → (u.call ≡ v.call) × (u.reply ≡ v.reply)
  call_is u v f = let same : u ≡ v = cc in (ap (λ (z : Point). z.call) same, ap (λ (z : Point). z.reply) same)

  at : (b : Bool) → eqb m p.call ≡ b → MatchBool b ((stage ≡ Open) × Lives p.call (Effective x) es) (Lives p.call stage es) → r ≡ p.reply
  at true t l = reply_is p.call j es x r l.1 q ∙ (call_is _ p e).1
  at false t l = absurd (eqb-false m p.call t ((call_is _ p e).0))
answers_return i (suc k) (suc j) stage (Takes m x ∷ es) p r e lives q = at (eqb m p.call) lives (λ l. answers_return (i + 1) k j stage es p r e l q) (λ l. answers_return (i + 1) k j (Effective x) es p r e l q) where
  at : (b : Bool) → MatchBool b ((stage ≡ Open) × Lives p.call (Effective x) es) (Lives p.call stage es) → (Lives p.call stage es → r ≡ p.reply) → (Lives p.call (Effective x) es → r ≡ p.reply) → r ≡ p.reply
  at true l rest taken = taken l.1
  at false l rest taken = rest l

-- indices rise
index_from : (i k : ℕ) (es : List Event) → k < length (map (λ (p : Point). p.index) (points_from i es)) → i ≤ get_or (map (λ (p : Point). p.index) (points_from i es)) k 0
index_from i k [] h = absurd (omega arith)
index_from i k (Nothing ∷ es) h = let g : i + 1 ≤ get_or (map (λ (p : Point). p.index) (points_from (i + 1) es)) k 0 = index_from (i + 1) k es h in omega arith
index_from i k (Moved ∷ es) h = let g : i + 1 ≤ get_or (map (λ (p : Point). p.index) (points_from (i + 1) es)) k 0 = index_from (i + 1) k es h in omega arith
index_from i k (Invoked m ∷ es) h = let g : i + 1 ≤ get_or (map (λ (p : Point). p.index) (points_from (i + 1) es)) k 0 = index_from (i + 1) k es h in omega arith
index_from i k (Returned m r ∷ es) h = let g : i + 1 ≤ get_or (map (λ (p : Point). p.index) (points_from (i + 1) es)) k 0 = index_from (i + 1) k es h in omega arith
index_from i zero (Takes m r ∷ es) h = omega arith
index_from i (suc k) (Takes m r ∷ es) h = let g : i + 1 ≤ get_or (map (λ (p : Point). p.index) (points_from (i + 1) es)) k 0 = index_from (i + 1) k es (omega arith) in omega arith

pub indices_rise : (i k : ℕ) (es : List Event) → suc k < length (map (λ (p : Point). p.index) (points_from i es))
    → get_or (map (λ (p : Point). p.index) (points_from i es)) k 0 < get_or (map (λ (p : Point). p.index) (points_from i es)) (suc k) 0
indices_rise i k [] h = absurd (omega arith)
indices_rise i k (Nothing ∷ es) h = indices_rise (i + 1) k es h
indices_rise i k (Moved ∷ es) h = indices_rise (i + 1) k es h
indices_rise i k (Invoked m ∷ es) h = indices_rise (i + 1) k es h
indices_rise i k (Returned m r ∷ es) h = indices_rise (i + 1) k es h
indices_rise i zero (Takes m r ∷ es) h = let g : i + 1 ≤ get_or (map (λ (p : Point). p.index) (points_from (i + 1) es)) 0 0 = index_from (i + 1) 0 es (omega arith) in omega arith
indices_rise i (suc k) (Takes m r ∷ es) h = indices_rise (i + 1) k es (omega arith)

pub slice_get_some : {X : Type 0} (xs : List X) (k : ℕ) (d : X) → k < length xs → slice_get xs k ≡ Some (get_or xs k d)
slice_get_some [] k d h = absurd (omega arith)
slice_get_some (x ∷ xs) zero d h = refl
slice_get_some (x ∷ xs) (suc k) d h = slice_get_some xs k d (omega arith)

-- a call's reply is that of an event at which it returns
pub returned_somewhere : (n : ℕ) (es : List Event) (r : Reply) → returned_reply es n ≡ Some r → (j : ℕ) × (slice_get es j ≡ Some (Returned n r))
returned_somewhere n [] r e = cc
returned_somewhere n (Nothing ∷ es) r e = later (returned_somewhere n es r e) where
  later : (j : ℕ) × (slice_get es j ≡ Some (Returned n r)) → (j : ℕ) × (slice_get (Nothing ∷ es) j ≡ Some (Returned n r))
  later (j, q) = (suc j, q)
returned_somewhere n (Moved ∷ es) r e = later (returned_somewhere n es r e) where
  later : (j : ℕ) × (slice_get es j ≡ Some (Returned n r)) → (j : ℕ) × (slice_get (Moved ∷ es) j ≡ Some (Returned n r))
  later (j, q) = (suc j, q)
returned_somewhere n (Invoked m ∷ es) r e = later (returned_somewhere n es r e) where
  later : (j : ℕ) × (slice_get es j ≡ Some (Returned n r)) → (j : ℕ) × (slice_get (Invoked m ∷ es) j ≡ Some (Returned n r))
  later (j, q) = (suc j, q)
returned_somewhere n (Takes m x ∷ es) r e = later (returned_somewhere n es r e) where
  later : (j : ℕ) × (slice_get es j ≡ Some (Returned n r)) → (j : ℕ) × (slice_get (Takes m x ∷ es) j ≡ Some (Returned n r))
  later (j, q) = (suc j, q)
returned_somewhere n (Returned m x ∷ es) r e = at (eqb m n) refl e (returned_somewhere n es r) where
  at : (b : Bool) → eqb m n ≡ b → cond b (Some x) (returned_reply es n) ≡ Some r → (returned_reply es n ≡ Some r → (j : ℕ) × (slice_get es j ≡ Some (Returned n r)))
      → (j : ℕ) × (slice_get (Returned m x ∷ es) j ≡ Some (Returned n r))
  at true t q rest = (0, let number : m ≡ n = eqb-true m n t in let reply : x ≡ r = cc in cc)
  at false t q rest = later (rest q) where
    later : (j : ℕ) × (slice_get es j ≡ Some (Returned n r)) → (j : ℕ) × (slice_get (Returned m x ∷ es) j ≡ Some (Returned n r))
    later (j, f) = (suc j, f)
