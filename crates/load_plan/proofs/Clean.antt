-- A soft item is clean exactly if a walk goes through that begins with what is in progress as its way and
-- with the list as it is.
use Rattle.std.proofs.Common.{◌≡◌, ℕ, zero, suc, ◌<◌, arith, get_or, nat_lt, lt-ltb, true, false, not, List, [], ◌∷◌, length, Result, Ok, Err, refl, sym, ◌∙◌, ap, ◌⊎◌, inl, inr}
use Rattle.std.specs.List.{list_any}
use Rattle.load_plan.specs.declared.graph.Target.TheVariants.{Slot}
use Rattle.load_plan.specs.declared.refusal.PlanRefusal.{PlanRefusal}
use Rattle.load_plan.specs.declared.walk.Mark.{Mark}
use Rattle.load_plan.specs.declared.walk.Mark.TheVariants.{New, Open, Done}
use Rattle.load_plan.specs.Graph.{Node, node_at, is_bounded}
use Rattle.load_plan.specs.Walk.{has, walk, hard_walk}
use Rattle.load_plan.specs.Plan.{is_free, is_clean}
use Rattle.load_plan.specs.Laws.{IsOrder, start}
use Rattle.load_plan.specs.ForProofs.{AreMarks, IsKept, mark_at, mark_of}
use Rattle.load_plan.proofs.Lists.{either_way, none_passes, none_from, not_true, not_makes, and_true, and_makes}
use Rattle.load_plan.proofs.Orders.{IsApart, Extends, walk_extends, walk_goes, Through, order_fits}
use Rattle.load_plan.proofs.Walking.{mark_new}

pub lt-makes : (a b : ℕ) → a < b → nat_lt a b ≡ true
lt-makes a b h = lt-ltb a b h

pub none_in_progress : (progress reached : List ℕ) (q : ℕ) → is_free progress (Ok reached) ≡ true → has progress q ≡ true → has reached q ≡ false
none_in_progress progress reached q free on =
    elim (either_way (has reached q)) [
      | inl t ↦ (let no : has progress q ≡ false = none_passes (has progress) reached q (not_true (list_any (has progress) reached) free) t in absurd (cc))
      | inr t ↦ t
    ]

pub free_from_apart : (progress reached : List ℕ) → ((q : ℕ) → has reached q ≡ true → has progress q ≡ false) → is_free progress (Ok reached) ≡ true
free_from_apart progress reached h = not_makes (list_any (has progress) reached) (none_from (has progress) reached h)

pub turned : (progress ms : List ℕ) → IsApart progress ms → (q : ℕ) → has ms q ≡ true → has progress q ≡ false
turned progress ms apart q h = elim (either_way (has progress q)) [ inl t ↦ (let no : has ms q ≡ false = apart q t in absurd (cc)) | inr t ↦ t ]

-- what a whole walk from a module gives
pub record Whole (w : List Node) (m : ℕ) (reached : List ℕ) : Type 0 where
  pub order : IsOrder w reached
  pub here : has reached m ≡ true
  pub below : (q : ℕ) → has reached q ≡ true → q < length w
  pub entered : (q : ℕ) → has reached q ≡ true → (node_at w q).installs ≡ false

pub whole_walk : (w : List Node) (m : ℕ) (reached : List ℕ) → is_bounded w ≡ true → m < length w → hard_walk w true (Slot m) ≡ Ok reached → Whole w m reached
whole_walk w m reached bounded below h =
    let x : Extends w true [] [] reached × (has reached m ≡ true) = walk_extends w true bounded (length w) [] [] (Slot m) reached (lt-makes m (length w) below) start (λ q g. refl) h in
    let all : (q : ℕ) → has reached q ≡ true → (q < length w) × ((node_at w q).installs ≡ false) = x.0.entered (λ q g. absurd (cc)) in
    record { order = x.0.order; here = x.1; below = λ q g. (all q g).0; entered = λ q g. (all q g).1 }

-- if the walk of a soft item is free, it goes through from here too
clean_walks : (w : List Node) (progress done : List ℕ) (m : ℕ) (r : Result (List ℕ) PlanRefusal) → IsKept w progress done → m < length w → hard_walk w true (Slot m) ≡ r → is_free progress r ≡ true → (after : List ℕ) × (walk w true (length w) progress done (Slot m) ≡ Ok after)
clean_walks w progress done m (Err e) kept below h free = absurd (cc)
clean_walks w progress done m (Ok reached) kept below h free =
    let x : Whole w m reached = whole_walk w m reached kept.bounded below h in
    let t : Through reached done (walk w true (length w) progress done (Slot m)) =
    walk_goes w (length w) progress reached x.order x.entered (λ q on. none_in_progress progress reached q free on) (order_fits w reached x.order x.below) done m x.here in
    (t.after, t.is)

-- if a walk goes through from here, the walk of the soft item is free
walks_clean : (w : List Node) (progress done : List ℕ) (m : ℕ) (after : List ℕ) → IsKept w progress done → m < length w → walk w true (length w) progress done (Slot m) ≡ Ok after → is_free progress (hard_walk w true (Slot m)) ≡ true
walks_clean w progress done m after kept below h =
    let x : Extends w true progress done after × (has after m ≡ true) = walk_extends w true kept.bounded (length w) progress done (Slot m) after (lt-makes m (length w) below) kept.order kept.off h in
    let all : (q : ℕ) → has after q ≡ true → (q < length w) × ((node_at w q).installs ≡ false) = x.0.entered kept.entered in
    let t : Through after [] (hard_walk w true (Slot m)) =
    walk_goes w (length w) [] after x.0.order (λ q g. (all q g).1) (λ q on. absurd (cc)) (order_fits w after x.0.order (λ q g. (all q g).0)) [] m x.1 in
    let inside : (q : ℕ) → has t.after q ≡ true → has after q ≡ true = λ q g. elim (t.adds q g) [ inl a ↦ absurd (cc) | inr b ↦ b ] in
    ap (is_free progress) t.is ∙ free_from_apart progress t.after (λ q g. turned progress after x.0.apart q (inside q g))

-- the three answers of the test
pub clean-passes : (w : List Node) (marks : List Mark) (progress done : List ℕ) (m : ℕ) (after : List ℕ) → AreMarks (length w) marks progress done → mark_at marks m ≡ New → IsKept w progress done → m < length w → walk w true (length w) progress done (Slot m) ≡ Ok after → is_clean w progress done (Slot m) ≡ true
clean-passes w marks progress done m after marked mark kept below h =
    let new : (has done m ≡ false) × (has progress m ≡ false) = mark_new (has done m) (has progress m) (sym (marked m below) ∙ mark) in
    and_makes (not (has done m)) (is_free progress (hard_walk w true (Slot m))) (not_makes (has done m) new.0) (walks_clean w progress done m after kept below h)

pub clean-stops : (w : List Node) (progress done : List ℕ) (m : ℕ) (e : PlanRefusal) → IsKept w progress done → m < length w → walk w true (length w) progress done (Slot m) ≡ Err e → is_clean w progress done (Slot m) ≡ false
clean-stops w progress done m e kept below h =
    elim (either_way (is_clean w progress done (Slot m))) [
      | inl t ↦ (let parts : (not (has done m) ≡ true) × (is_free progress (hard_walk w true (Slot m)) ≡ true) = and_true (not (has done m)) (is_free progress (hard_walk w true (Slot m))) t in
          let through : (after : List ℕ) × (walk w true (length w) progress done (Slot m) ≡ Ok after) = clean_walks w progress done m (hard_walk w true (Slot m)) kept below refl parts.1 in
          let one = through.1 in absurd (cc))
      | inr t ↦ t
    ]

pub free_new : (w : List Node) (progress : List ℕ) (m : ℕ) (r : Result (List ℕ) PlanRefusal) → is_bounded w ≡ true → m < length w → hard_walk w true (Slot m) ≡ r → is_free progress r ≡ true → has progress m ≡ false
free_new w progress m (Err e) bounded below h free = absurd (cc)
free_new w progress m (Ok reached) bounded below h free =
    let x : Whole w m reached = whole_walk w m reached bounded below h in
    none_passes (has progress) reached m (not_true (list_any (has progress) reached) free) x.here

-- a module that is not new is no clean item
pub clean-new : (w : List Node) (marks : List Mark) (progress done : List ℕ) (m : ℕ) → AreMarks (length w) marks progress done → IsKept w progress done → m < length w → is_clean w progress done (Slot m) ≡ true → mark_at marks m ≡ New
clean-new w marks progress done m marked kept below h =
    let parts : (not (has done m) ≡ true) × (is_free progress (hard_walk w true (Slot m)) ≡ true) = and_true (not (has done m)) (is_free progress (hard_walk w true (Slot m))) h in
    let off : has progress m ≡ false = free_new w progress m (hard_walk w true (Slot m)) kept.bounded below refl parts.1 in
    marked m below ∙ ap (λ b. mark_of b (has progress m)) (not_true (has done m) parts.0) ∙ ap (mark_of false) off

-- the mark of a module of the graph, whatever is said past the end
pub mark_with : (marks : List Mark) (m : ℕ) (d : Mark) → m < length marks → mark_at marks m ≡ get_or marks m d
mark_with [] m d within = absurd (omega arith)
mark_with (x ∷ xs) zero d within = refl
mark_with (x ∷ xs) (suc m) d within = mark_with xs m d (omega arith)

-- a module that is open or done is no clean item
pub clean-late : (w : List Node) (marks : List Mark) (progress done : List ℕ) (m : ℕ) → AreMarks (length w) marks progress done → length marks ≡ length w → (get_or marks m New ≡ Open) ⊎ (get_or marks m New ≡ Done) → IsKept w progress done → m < length w → is_clean w progress done (Slot m) ≡ false
clean-late w marks progress done m marked long late kept below =
    let same : mark_at marks m ≡ get_or marks m New = mark_with marks m New (omega arith) in
    elim (either_way (is_clean w progress done (Slot m))) [
      | inl t ↦ (let new : mark_at marks m ≡ New = clean-new w marks progress done m marked kept below t in elim late [ inl a ↦ absurd (cc) | inr b ↦ absurd (cc) ])
      | inr t ↦ t
    ]
