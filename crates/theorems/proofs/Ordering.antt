-- Orders by places: a module's needs stand before it, and in the reversed list behind it.
use Rattle.std.proofs.Common.{◌≡◌, ℕ, zero, suc, ◌-◌, ◌<◌, ◌≤◌, true, false, nat_eq, ◌⊎◌, inl, inr, List, [], ◌∷◌, ◌++◌, length, reverse, Option, Some, None, Result, Ok, Err, refl, sym, ◌∙◌, ap, subst, arith, get_or}
use Rattle.std.specs.List.{list_all}
use Rattle.std.proofs.lemmas.Bool.{cases_lt, lt-ltb}
use Rattle.std.proofs.lemmas.Bool.Decides.{eqb_tells}
use Rattle.std.proofs.lemmas.List.{length-append, get_or_append_left, get_or-reverse, length-reverse}
use Rattle.std.proofs.Math.Seq.{get_or-append_seam}
use Rattle.text_parts.specs.Text.{normal_form}
use Rattle.dep_index.specs.Catalogue.{Description, slot_named}
use Rattle.dep_index.specs.Dependencies.{Pair}
use Rattle.modprobe_conf.specs.Configuration.{Configuration}
use Rattle.load_plan.specs.declared.items.PlanError.{PlanError}
use Rattle.load_plan.specs.Graph.{Node, node_at, is_bounded, is_within}
use Rattle.load_plan.specs.Walk.{has, hard_walk}
use Rattle.load_plan.specs.Laws.{is_in, IsOrder, start, more}
use Rattle.load_plan.specs.Plan.{removal_plan}
use Rattle.load_plan.specs.Sources.{graph_of, target_at, is_kept}
use Rattle.load_plan.specs.declared.items.PlanError.TheVariants.{Remove}
use Rattle.load_plan.specs.declared.items.Item.{Item}
use Rattle.load_plan.specs.Items.{named, removal_at, removal_plan_of, plan_of, Answers}
use Rattle.load_plan.specs.PlanLaws.{PlansAreLawful, GraphsAreBounded, item_slots}
use Rattle.load_plan.proofs.SourceLemmas.{length-graph_of}
use Rattle.std.specs.Prelude.{IfOk}
use Rattle.std.specs.Str.{bytes_eq}
use Rattle.dep_index.specs.Catalogue.{described}
use Rattle.std.proofs.lemmas.List.Quantifiers.{position-Some}
use Rattle.load_plan.proofs.Lists.{chosen, has-same, has-other, passes_contained}
use Rattle.load_plan.proofs.Orders.{walk_extends, bind_ok}
use Rattle.theorems.specs.Plans.{Needs, EachOnce, NeedsFirst, UsersFirst}

-- the place of a member
abbrev Place : List ℕ → ℕ → Type 0
Place ms q = (j : ℕ) × (j < length ms) × (get_or ms j 0 ≡ q)

later_has : (x : ℕ) (xs : List ℕ) (q : ℕ) → nat_eq q x ≡ false → has (x ∷ xs) q ≡ has xs q
later_has x xs q h = has-other xs x q h

has-place : (ms : List ℕ) (q : ℕ) → has ms q ≡ true → Place ms q
has-place [] q h = absurd (cc)
has-place (x ∷ xs) q h = elim (eqb_tells q x) [
  | inl t ↦ (0, omega arith, sym t.1)
  | inr t ↦ (let p : Place xs q = has-place xs q (sym (later_has x xs q t.0) ∙ h) in (suc p.0, omega (arith, p.1), p.2))
]

place-has : (ms : List ℕ) (j : ℕ) → j < length ms → has ms (get_or ms j 0) ≡ true
place-has [] j below = absurd (omega arith)
place-has (x ∷ xs) zero below = has-same xs x x refl
place-has (x ∷ xs) (suc j) below = elim (eqb_tells (get_or xs j 0) x) [
  | inl t ↦ has-same xs x (get_or xs j 0) t.1
  | inr t ↦ later_has x xs (get_or xs j 0) t.0 ∙ place-has xs j (omega arith)
]

-- a place of the longer list is the last one, or one of the list before
split : (ms : List ℕ) (m i : ℕ) → i < length (ms ++ m ∷ []) → ((i < length ms) × (get_or (ms ++ m ∷ []) i 0 ≡ get_or ms i 0)) ⊎ ((i ≡ length ms) × (get_or (ms ++ m ∷ []) i 0 ≡ m))
split ms m i below = at (cases_lt i (length ms)) where
  at : (i < length ms) ⊎ (length ms ≤ i) → ((i < length ms) × (get_or (ms ++ m ∷ []) i 0 ≡ get_or ms i 0)) ⊎ ((i ≡ length ms) × (get_or (ms ++ m ∷ []) i 0 ≡ m))
  at (inl h) = inl (h, get_or_append_left ms (m ∷ []) 0 i h)
  at (inr h) =
      let e : i ≡ length ms = omega (arith, h, below, length-append ms (m ∷ [])) in
      inr (e, ap (λ k. get_or (ms ++ m ∷ []) k 0) e ∙ get_or-append_seam ms m [] 0)

new_differs : (ms : List ℕ) (m j : ℕ) → has ms m ≡ false → j < length ms → get_or ms j 0 ≡ m → ⊥
new_differs ms m j new below e =
    let yes : has ms m ≡ true = subst (λ q. has ms q ≡ true) e (place-has ms j below) in cc

abbrev Split : List ℕ → ℕ → ℕ → Type 0
Split ms m i = ((i < length ms) × (get_or (ms ++ m ∷ []) i 0 ≡ get_or ms i 0)) ⊎ ((i ≡ length ms) × (get_or (ms ++ m ∷ []) i 0 ≡ m))

once_at : (ms : List ℕ) (m i j : ℕ) → EachOnce ms → has ms m ≡ false → get_or (ms ++ m ∷ []) i 0 ≡ get_or (ms ++ m ∷ []) j 0 → Split ms m i → Split ms m j → i ≡ j
once_at ms m i j once new e (inl a) (inl b) = once i j a.0 b.0 (sym a.1 ∙ e ∙ b.1)
once_at ms m i j once new e (inl a) (inr b) = absurd (new_differs ms m i new a.0 (sym a.1 ∙ e ∙ b.1))
once_at ms m i j once new e (inr a) (inl b) = absurd (new_differs ms m j new b.0 (sym b.1 ∙ sym e ∙ a.1))
once_at ms m i j once new e (inr a) (inr b) = a.0 ∙ sym b.0

pub order-once : (graph : List Node) (ms : List ℕ) → IsOrder graph ms → EachOnce ms
order-once graph _ start i j bi bj e = absurd (omega arith)
order-once graph _ (more ms m order new all) i j bi bj e = once_at ms m i j (order-once graph ms order) new e (split ms m i bi) (split ms m j bj)

needs_at : (graph : List Node) (ms : List ℕ) (m i d : ℕ) → NeedsFirst graph ms → list_all (is_in ms) (node_at graph m).hard ≡ true
    → Needs graph (get_or (ms ++ m ∷ []) i 0) d → Split ms m i → (j : ℕ) × (j < i) × (get_or (ms ++ m ∷ []) j 0 ≡ d)
needs_at graph ms m i d first all need (inl a) =
    let p : (j : ℕ) × (j < i) × (get_or ms j 0 ≡ d) = first i d a.0 (subst (λ x. Needs graph x d) a.1 need) in
    (p.0, p.1, get_or_append_left ms (m ∷ []) 0 p.0 (omega (arith, p.1, a.0)) ∙ p.2)
needs_at graph ms m i d first all need (inr a) =
    let c : Needs graph m d = subst (λ x. Needs graph x d) a.1 need in
    let p : Place ms d = has-place ms d (passes_contained (is_in ms) (node_at graph m).hard (target_at [] (Some d)) all c.0 c.1 c.2) in
    (p.0, omega (arith, p.1, a.0), get_or_append_left ms (m ∷ []) 0 p.0 p.1 ∙ p.2)

pub order-needs : (graph : List Node) (ms : List ℕ) → IsOrder graph ms → NeedsFirst graph ms
order-needs graph _ start i d bi need = absurd (omega arith)
order-needs graph _ (more ms m order new all) i d bi need = needs_at graph ms m i d (order-needs graph ms order) all need (split ms m i bi)

-- the reversed list
module _ (ms : List ℕ) where
  turned : (i : ℕ) → i < length (reverse ms) → get_or (reverse ms) i 0 ≡ get_or ms (length ms - 1 - i) 0
  turned i below = get_or-reverse ms i 0 (omega (arith, below, length-reverse ms))

  pub reversed-once : EachOnce ms → EachOnce (reverse ms)
  reversed-once once i j bi bj e =
      let same : length ms - 1 - i ≡ length ms - 1 - j =
      once (length ms - 1 - i) (length ms - 1 - j) (omega (arith, bi, length-reverse ms)) (omega (arith, bj, length-reverse ms)) (sym (turned i bi) ∙ e ∙ turned j bj) in
      omega (arith, same, bi, bj, length-reverse ms)

  pub reversed-needs : (graph : List Node) → NeedsFirst graph ms → UsersFirst graph (reverse ms)
  reversed-needs graph first i d bi need =
      let p : (j : ℕ) × (j < length ms - 1 - i) × (get_or ms j 0 ≡ d) =
      first (length ms - 1 - i) d (omega (arith, bi, length-reverse ms)) (subst (λ x. Needs graph x d) (turned i bi) need) in
      let within : length ms - 1 - p.0 < length (reverse ms) = omega (arith, p.1, bi, length-reverse ms) in
      let back : length ms - 1 - (length ms - 1 - p.0) ≡ p.0 = omega (arith, p.1) in
      (length ms - 1 - p.0, omega (arith, p.1), within, turned (length ms - 1 - p.0) within ∙ ap (λ k. get_or ms k 0) back ∙ p.2)

-- the order that a removal plan has
abbrev IsTurned : List Node → List ℕ → Type 0
IsTurned graph order = (reached : List ℕ) × IsOrder graph reached × (reverse reached ≡ order)

named_ok : {A B : Type 0} (catalogue : List Description) (view : A → B) (r : Result A _) (y : B) → named catalogue view r ≡ Ok y → (x : A) × (r ≡ Ok x) × (view x ≡ y)
named_ok catalogue view (Ok x) y h = let same : view x ≡ y = cc in (x, refl, same)
named_ok catalogue view (Err e) y h = absurd (cc)

removal-turned : (graph : List Node) (m : ℕ) (order : List ℕ) → is_bounded graph ≡ true → is_within (length graph) (target_at [] (Some m)) ≡ true → removal_plan graph (target_at [] (Some m)) ≡ Ok order → IsTurned graph order
removal-turned graph m order bounded within h =
    let w : (reached : List ℕ) × (hard_walk graph false (target_at [] (Some m)) ≡ Ok reached) × (Ok (reverse reached) ≡ Ok order) = bind_ok (hard_walk graph false (target_at [] (Some m))) (λ r. Ok (reverse r)) order h in
    (w.0, (walk_extends graph false bounded (length graph) [] [] (target_at [] (Some m)) w.0 within start (λ p g. refl) w.1).0.order, cc)

slot_within : (catalogue : List Description) (name : List ℕ) (m : ℕ) → slot_named catalogue name ≡ Some m → m < length catalogue
slot_within catalogue name m found = (position-Some (λ (d : Description). bytes_eq name d.name) catalogue m (described []) found).0

plan-turned : GraphsAreBounded → (catalogue : List Description) (dependencies : List Pair) (configuration : Configuration) (name : List ℕ) (order : List ℕ)
    → removal_plan_of catalogue dependencies configuration name ≡ Ok order → IsTurned (graph_of catalogue dependencies configuration) order
plan-turned bounded catalogue dependencies configuration name order h =
    elim (chosen (is_kept configuration (normal_form name)) (Err (Remove (normal_form name))) (removal_at catalogue dependencies configuration (target_at (normal_form name) (slot_named catalogue (normal_form name)))) (Ok order) h) [
      | inl kept ↦ absurd (refused (Remove (normal_form name)) kept.1)
      | inr free ↦ at (slot_named catalogue (normal_form name)) refl free.1
    ]
  where
    refused : (e : PlanError) → Err e ≡ Ok order → ⊥
    refused e k = cc

    at : (o : Option ℕ) → slot_named catalogue (normal_form name) ≡ o → removal_at catalogue dependencies configuration (target_at (normal_form name) o) ≡ Ok order → IsTurned (graph_of catalogue dependencies configuration) order
    at None found k = absurd (cc)
    at (Some m) found k =
        let s : (o : List ℕ) × (removal_plan (graph_of catalogue dependencies configuration) (target_at [] (Some m)) ≡ Ok o) × (o ≡ order) = named_ok catalogue (λ (o : List ℕ). o) (removal_plan (graph_of catalogue dependencies configuration) (target_at [] (Some m))) order k in
        let below : m < length (graph_of catalogue dependencies configuration) = omega (arith, length-graph_of catalogue dependencies configuration, slot_within catalogue (normal_form name) m found) in
        subst (IsTurned (graph_of catalogue dependencies configuration)) s.2
        (removal-turned (graph_of catalogue dependencies configuration) m s.0 (bounded catalogue dependencies configuration) (lt-ltb m _ below) s.1)

answers_within : {X A : Type 0} (view : X → A) (r : Result X PlanError) (given : Result A PlanError) (P : A → Type 0) → ((a : A) → given ≡ Ok a → P a) → Answers view r given → IfOk r (λ x. P (view x))
answers_within view (Ok x) given P h a = h (view x) a
answers_within view (Err e) given P h a = tt

pub removal-once : {X : Type 0} → GraphsAreBounded → (catalogue : List Description) (dependencies : List Pair) (configuration : Configuration) (name : List ℕ) (view : X → List ℕ) (r : Result X PlanError)
    → Answers view r (removal_plan_of catalogue dependencies configuration name) → IfOk r (λ x. EachOnce (view x))
removal-once bounded catalogue dependencies configuration name view r a =
    answers_within view r (removal_plan_of catalogue dependencies configuration name) EachOnce
    (λ order is.
    let t : IsTurned (graph_of catalogue dependencies configuration) order = plan-turned bounded catalogue dependencies configuration name order is in
    subst EachOnce t.2 (reversed-once t.0 (order-once (graph_of catalogue dependencies configuration) t.0 t.1))) a

pub removal-users : {X : Type 0} → GraphsAreBounded → (catalogue : List Description) (dependencies : List Pair) (configuration : Configuration) (name : List ℕ) (view : X → List ℕ) (r : Result X PlanError)
    → Answers view r (removal_plan_of catalogue dependencies configuration name) → IfOk r (λ x. UsersFirst (graph_of catalogue dependencies configuration) (view x))
removal-users bounded catalogue dependencies configuration name view r a =
    let graph : List Node = graph_of catalogue dependencies configuration in
    answers_within view r (removal_plan_of catalogue dependencies configuration name) (UsersFirst graph)
    (λ order is.
    let t : IsTurned graph order = plan-turned bounded catalogue dependencies configuration name order is in
    subst (UsersFirst graph) t.2 (reversed-needs t.0 graph (order-needs graph t.0 t.1))) a

pub load-once : {X : Type 0} → PlansAreLawful → (catalogue : List Description) (dependencies : List Pair) (configuration : Configuration) (name : List ℕ) (words : List (List ℕ)) (view : X → List Item) (r : Result X PlanError)
    → Answers view r (plan_of catalogue dependencies configuration name words) → IfOk r (λ x. EachOnce (item_slots (view x)))
load-once lawful catalogue dependencies configuration name words view r a =
    answers_within view r (plan_of catalogue dependencies configuration name words) (λ items. EachOnce (item_slots items))
    (λ items is. order-once (graph_of catalogue dependencies configuration) (item_slots items) (lawful catalogue dependencies configuration name words items is).order) a

pub load-needs : {X : Type 0} → PlansAreLawful → (catalogue : List Description) (dependencies : List Pair) (configuration : Configuration) (name : List ℕ) (words : List (List ℕ)) (view : X → List Item) (r : Result X PlanError)
    → Answers view r (plan_of catalogue dependencies configuration name words) → IfOk r (λ x. NeedsFirst (graph_of catalogue dependencies configuration) (item_slots (view x)))
load-needs lawful catalogue dependencies configuration name words view r a =
    let graph : List Node = graph_of catalogue dependencies configuration in
    answers_within view r (plan_of catalogue dependencies configuration name words) (λ items. NeedsFirst graph (item_slots items))
    (λ items is. order-needs graph (item_slots items) (lawful catalogue dependencies configuration name words items is).order) a
