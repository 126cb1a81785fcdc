-- What a plan reaches, and over which items.
use Rattle.std.proofs.Common.{◌≡◌, ℕ, zero, suc, ◌<◌, arith, Bool, true, false, cond, not, nat_eq, List, [], ◌∷◌, ◌++◌, length, get_or, Result, Ok, refl, sym, ◌∙◌, ap, subst, inl, inr}
use Rattle.std.specs.List.{Contains}
use Rattle.std.proofs.lemmas.Bool.Decides.{eqb_tells}
use Rattle.load_plan.specs.declared.graph.Target.{Target}
use Rattle.load_plan.specs.declared.graph.Target.TheVariants.{Slot, Missing}
use Rattle.load_plan.specs.declared.plans.PlanStep.{PlanStep}
use Rattle.load_plan.specs.declared.refusal.PlanRefusal.{PlanRefusal}
use Rattle.load_plan.specs.Graph.{Node, node_at, is_bounded}
use Rattle.load_plan.specs.Walk.{has, hard_walk}
use Rattle.load_plan.specs.Plan.{is_clean, each_soft, is_done, each_hard, visit, marked, plan}
use Rattle.load_plan.specs.Laws.{is_in, IsOrder, Reaches, self, over_hard, over_pre, over_post, slots_in, MarksAreRight}
use Rattle.load_plan.proofs.Lists.{or_comes, has-same, has-last_other, not_true, passes_contained, contains-head, contains-tail}
use Rattle.load_plan.proofs.Orders.{IsWithin, Stands, stands, bind_ok, walk_goes, Through, order_fits}
use Rattle.load_plan.proofs.Clean.{Whole, whole_walk}
use Rattle.load_plan.proofs.VisitLaws.{Visited, visited}

-- each module of the list is reached
abbrev AreReached : List Node → ℕ → List ℕ → Type 0
AreReached w x ms = (q : ℕ) → has ms q ≡ true → (soft : Bool) × Reaches w x soft q

abbrev Reaching : List Node → ℕ → (List ℕ → Target → List ℕ) → Type 0
Reaching w x go = (done : List ℕ) (t : Target) → AreReached w x done → ((d : ℕ) → t ≡ Slot d → (soft : Bool) × Reaches w x soft d) → AreReached w x (go done t)

either : (b : Bool) (w : List Node) (x : ℕ) (ms ns : List ℕ) → AreReached w x ms → AreReached w x ns → AreReached w x (cond b ms ns)
either true w x ms ns h k = h
either false w x ms ns h k = k

-- what the targets of a module reach
abbrev AllReached : List Node → ℕ → List Target → Type 0
AllReached w x ts = (d : ℕ) → Contains ts (Slot d) → (soft : Bool) × Reaches w x soft d

at_head : (w : List Node) (x : ℕ) (t : Target) (ts : List Target) → AllReached w x (t ∷ ts) → (d : ℕ) → t ≡ Slot d → (soft : Bool) × Reaches w x soft d
at_head w x t ts all d e = all d (subst (λ y. Contains (t ∷ ts) y) e (contains-head t ts))

soft_reached : (w : List Node) (x : ℕ) (progress : List ℕ) (go : List ℕ → Target → List ℕ) → Reaching w x go → (ts : List Target) (done : List ℕ) → AreReached w x done → AllReached w x ts → AreReached w x (each_soft w progress go done ts)
soft_reached w x progress go goes [] done h all = h
soft_reached w x progress go goes (t ∷ ts) done h all =
    soft_reached w x progress go goes ts (cond (is_clean w progress done t) (go done t) done)
    (either (is_clean w progress done t) w x (go done t) done (goes done t h (at_head w x t ts all)) h) (λ d c. all d (contains-tail t (Slot d) ts c))

hard_reached : (w : List Node) (x : ℕ) (go : List ℕ → Target → List ℕ) → Reaching w x go → (ts : List Target) (done : List ℕ) → AreReached w x done → AllReached w x ts → AreReached w x (each_hard go done ts)
hard_reached w x go goes [] done h all = h
hard_reached w x go goes (t ∷ ts) done h all =
    hard_reached w x go goes ts (cond (is_done done t) done (go done t))
    (either (is_done done t) w x done (go done t) h (goes done t h (at_head w x t ts all))) (λ d c. all d (contains-tail t (Slot d) ts c))

visit_reached : (w : List Node) (x : ℕ) (n : ℕ) (progress : List ℕ) → Reaching w x (visit w n progress)
visit_reached w x zero progress done t h here = h
visit_reached w x (suc n) progress done (Missing name) h here = h
visit_reached w x (suc n) progress done (Slot m) h here =
    let own : (soft : Bool) × Reaches w x soft m = here m refl in
    let first : List ℕ = each_soft w (m ∷ progress) (visit w n (m ∷ progress)) done (node_at w m).pre in
    let second : List ℕ = each_hard (visit w n (m ∷ progress)) first (node_at w m).hard in
    let a : AreReached w x first = soft_reached w x (m ∷ progress) (visit w n (m ∷ progress)) (visit_reached w x n (m ∷ progress)) (node_at w m).pre done h (λ d i. (true, over_pre own.0 m d own.1 i)) in
    let b : AreReached w x second = hard_reached w x (visit w n (m ∷ progress)) (visit_reached w x n (m ∷ progress)) (node_at w m).hard first a (λ d i. (own.0, over_hard own.0 m d own.1 i)) in
    let c : AreReached w x (second ++ m ∷ []) = λ q g. elim (eqb_tells q m) [ inl t ↦ subst (λ y. (soft : Bool) × Reaches w x soft y) (sym t.1) own | inr t ↦ b q (sym (has-last_other second m q t.0) ∙ g) ] in
    soft_reached w x progress (visit w n progress) (visit_reached w x n progress) (node_at w m).post (second ++ m ∷ []) c (λ d i. (true, over_post own.0 m d own.1 i))

-- an order that has x has what x reaches over hard dependencies alone
hard_closed : (w : List Node) (x : ℕ) (ms : List ℕ) → IsOrder w ms → has ms x ≡ true → (soft : Bool) (q : ℕ) → Reaches w x soft q → soft ≡ false → has ms q ≡ true
hard_closed w x ms order here _ _ self e = here
hard_closed w x ms order here _ _ (over_hard soft m d r i) e =
    let k : has ms m ≡ true = hard_closed w x ms order here soft m r e in
    let s : Stands w ms m = stands w ms m order k in
    s.within d (passes_contained (is_in s.below) (node_at w m).hard (Slot d) s.hard i.0 i.1 i.2)
hard_closed w x ms order here _ _ (over_pre soft m d r i) e = absurd (cc)
hard_closed w x ms order here _ _ (over_post soft m d r i) e = absurd (cc)

over_soft : (w : List Node) (x : ℕ) (ms : List ℕ) → IsOrder w ms → has ms x ≡ true → (q : ℕ) → has ms q ≡ false → (soft : Bool) → Reaches w x soft q → Reaches w x true q
over_soft w x ms order here q off true r = r
over_soft w x ms order here q off false r = let k : has ms q ≡ true = hard_closed w x ms order here false q r refl in absurd (cc)

-- the parts of a plan
pub record Parts (w : List Node) (m : ℕ) (steps : List PlanStep) : Type 0 where
  pub reached : List ℕ
  pub walked : hard_walk w true (Slot m) ≡ Ok reached
  pub steps_are : marked reached (visit w (length w) [] [] (Slot m)) ≡ steps

pub parts_of : (w : List Node) (m : ℕ) (steps : List PlanStep) → plan w (Slot m) ≡ Ok steps → Parts w m steps
parts_of w m steps h =
    let parts : (r : List ℕ) × (hard_walk w true (Slot m) ≡ Ok r) × (Ok (marked r (visit w (length w) [] [] (Slot m))) ≡ Ok steps) =
    bind_ok (hard_walk w true (Slot m)) (λ r. Ok (marked r (visit w (length w) [] [] (Slot m)))) steps h in
    let same : marked parts.0 (visit w (length w) [] [] (Slot m)) ≡ steps = cc in
    record { reached = parts.0; walked = parts.1; steps_are = same }

pub slots-marked : (reached ms : List ℕ) → slots_in (marked reached ms) ≡ ms
slots-marked reached [] = refl
slots-marked reached (m ∷ ms) = ap (λ l. m ∷ l) (slots-marked reached ms)

-- a step of a plan is a module of the list with its mark
pub step_marked : (reached ms : List ℕ) (s : PlanStep) (k : ℕ) → k < length (marked reached ms) → get_or (marked reached ms) k s ≡ s → (has ms s.slot ≡ true) × (s.soft ≡ not (has reached s.slot))
step_marked reached [] s k within e = absurd (omega arith)
step_marked reached (m ∷ ms) s zero within e =
    let slot : m ≡ s.slot = ap (λ (x : PlanStep). x.slot) e in
    let soft : not (has reached m) ≡ s.soft = ap (λ (x : PlanStep). x.soft) e in
    (has-same ms m s.slot (sym slot), sym soft ∙ ap (λ y. not (has reached y)) slot)
step_marked reached (m ∷ ms) s (suc k) within e =
    let later : (has ms s.slot ≡ true) × (s.soft ≡ not (has reached s.slot)) = step_marked reached ms s k (omega arith) e in
    (or_comes (nat_eq s.slot m) (has ms s.slot) later.0, later.1)

-- what the hard walk reaches stands in the plan
reached_stands : (w : List Node) (m : ℕ) (reached : List ℕ) → is_bounded w ≡ true → m < length w → hard_walk w true (Slot m) ≡ Ok reached → IsWithin reached (visit w (length w) [] [] (Slot m))
reached_stands w m reached bounded below walked =
    let v : Visited w m (visit w (length w) [] [] (Slot m)) = visited w m reached bounded below walked in
    let t : Through (visit w (length w) [] [] (Slot m)) [] (hard_walk w true (Slot m)) = walk_goes w (length w) [] (visit w (length w) [] [] (Slot m)) v.order v.entered (λ q on. absurd (cc)) (order_fits w (visit w (length w) [] [] (Slot m)) v.order v.below) [] m v.here in
    let same : t.after ≡ reached = ok_same (hard_walk w true (Slot m)) t.after reached t.is walked in
    λ q g. elim (t.adds q (subst (λ l. has l q ≡ true) (sym same) g)) [ inl a ↦ absurd (cc) | inr b ↦ b ]
  where
    ok_same : (r : Result (List ℕ) PlanRefusal) (a b : List ℕ) → r ≡ Ok a → r ≡ Ok b → a ≡ b
    ok_same r a b h k = cc

pub marks_are_right : MarksAreRight
marks_are_right w m reached steps bounded below walked planned =
    let p : Parts w m steps = parts_of w m steps planned in
    let ms : List ℕ = visit w (length w) [] [] (Slot m) in
    let same : p.reached ≡ reached = ok_same (hard_walk w true (Slot m)) p.reached reached p.walked walked in
    let steps_are : marked reached ms ≡ steps = subst (λ r. marked r ms ≡ steps) same p.steps_are in
    let slots : slots_in steps ≡ ms = ap slots_in (sym steps_are) ∙ slots-marked reached ms in
    let whole : Whole w m reached = whole_walk w m reached bounded below walked in
    record {
      all = λ q g. subst (λ l. has l q ≡ true) (sym slots) (reached_stands w m reached bounded below walked q g);
      marks = λ s c. (step_marked reached ms s c.0 (subst (λ l. c.0 < length l) (sym steps_are) c.1) (subst (λ l. get_or l c.0 s ≡ s) (sym steps_are) c.2)).1;
      soft = λ s c is_soft.
          let here : (has ms s.slot ≡ true) × (s.soft ≡ not (has reached s.slot)) = step_marked reached ms s c.0 (subst (λ l. c.0 < length l) (sym steps_are) c.1) (subst (λ l. get_or l c.0 s ≡ s) (sym steps_are) c.2) in
          let off : has reached s.slot ≡ false = not_true (has reached s.slot) (sym here.1 ∙ is_soft) in
          let some : (b : Bool) × Reaches w m b s.slot = visit_reached w m (length w) [] [] (Slot m) (λ y g. absurd (cc)) (λ d e. (false, (let s2 : m ≡ d = cc in subst (λ y. Reaches w m false y) s2 self))) s.slot here.0 in
          over_soft w m reached whole.order whole.here s.slot off some.0 some.1;
    }
  where
    ok_same : (r : Result (List ℕ) PlanRefusal) (a b : List ℕ) → r ≡ Ok a → r ≡ Ok b → a ≡ b
    ok_same r a b h k = cc

pub plan_order : (w : List Node) (m : ℕ) (steps : List PlanStep) → is_bounded w ≡ true → m < length w → plan w (Slot m) ≡ Ok steps → IsOrder w (slots_in steps) × (has (slots_in steps) m ≡ true)
plan_order w m steps bounded below planned =
    let p : Parts w m steps = parts_of w m steps planned in
    let ms : List ℕ = visit w (length w) [] [] (Slot m) in
    let slots : slots_in steps ≡ ms = ap slots_in (sym p.steps_are) ∙ slots-marked p.reached ms in
    let v : Visited w m ms = visited w m p.reached bounded below p.walked in
    (subst (λ l. IsOrder w l) (sym slots) v.order, subst (λ l. has l m ≡ true) (sym slots) v.here)
