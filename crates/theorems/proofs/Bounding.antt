-- The modules of plans are of the catalogue.
use Rattle.std.proofs.Common.{arith, inl, inr, ◌≡◌, ℕ, ◌-◌, ◌<◌, true, false, nat_eq, List, [], ◌∷◌, map, length, reverse, refl, sym, ap, subst, ◌∙◌, Option, Some, None, Result, Ok, Err}
use Rattle.std.specs.List.{All}
use Rattle.std.specs.Str.{bytes_eq}
use Rattle.std.proofs.lemmas.List.Quantifiers.{position-Some}
use Rattle.std.proofs.lemmas.List.Elements.{All-nil, All-cons, All-get_or, All-from_get_or}
use Rattle.std.proofs.lemmas.List.{length-reverse, get_or-reverse}
use Rattle.text_parts.specs.Text.{normal_form}
use Rattle.dep_index.specs.Catalogue.{Description, described, slot_named}
use Rattle.dep_index.specs.Dependencies.{Pair}
use Rattle.modprobe_conf.specs.Configuration.{Configuration}
use Rattle.load_plan.specs.declared.items.Item.{Item}
use Rattle.load_plan.specs.declared.items.PlanError.{PlanError}
use Rattle.load_plan.specs.declared.items.PlanError.TheVariants.{Remove}
use Rattle.load_plan.specs.Graph.{Node, is_bounded}
use Rattle.load_plan.specs.Walk.{has, hard_walk}
use Rattle.load_plan.specs.Plan.{plan, removal_plan, visit}
use Rattle.load_plan.specs.Laws.{slots_in, start}
use Rattle.load_plan.specs.Sources.{graph_of, target_at, is_kept}
use Rattle.load_plan.specs.Items.{named, item_of, plan_at, plan_of, removal_at, removal_plan_of}
use Rattle.load_plan.proofs.Lists.{has-same, or_comes, chosen}
use Rattle.load_plan.proofs.Clean.{lt-makes}
use Rattle.load_plan.proofs.Orders.{Extends, bind_ok, walk_extends}
use Rattle.load_plan.proofs.Reached.{Parts, parts_of, slots-marked}
use Rattle.load_plan.proofs.VisitLaws.{Visited, visited}
use Rattle.load_plan.proofs.SourceLemmas.{graph_bounded, length-graph_of}

-- each module of the list is below n
abbrev HasBelow : ℕ → List ℕ → Type 0
HasBelow n ms = (q : ℕ) → has ms q ≡ true → q < n

below_tail : (n m : ℕ) (ms : List ℕ) → HasBelow n (m ∷ ms) → HasBelow n ms
below_tail n m ms below q h = below q (or_comes (nat_eq q m) (has ms q) h)

all_below : (n : ℕ) (ms : List ℕ) → HasBelow n ms → All (λ m. m < n) ms
all_below n [] below = All-nil (λ m. m < n)
all_below n (m ∷ ms) below = All-cons (λ x. x < n) m ms (below m (has-same ms m m refl)) (all_below n ms (below_tail n m ms below))

items_below : (n : ℕ) (catalogue : List Description) (configuration : Configuration) (m : ℕ) (words : List (List ℕ)) (steps : List _) → HasBelow n (slots_in steps)
    → All (λ (i : Item). i.slot < n) (map (item_of catalogue configuration m words) steps)
items_below n catalogue configuration m words [] below = All-nil (λ (i : Item). i.slot < n)
items_below n catalogue configuration m words (s ∷ ss) below =
    All-cons (λ (i : Item). i.slot < n) (item_of catalogue configuration m words s) (map (item_of catalogue configuration m words) ss) (below s.slot (has-same (slots_in ss) s.slot s.slot refl))
    (items_below n catalogue configuration m words ss (below_tail n s.slot (slots_in ss) below))

-- the steps of a plan are modules of the graph
steps_below : (graph : List Node) (m : ℕ) (steps : List _) → is_bounded graph ≡ true → m < length graph → plan graph (target_at [] (Some m)) ≡ Ok steps → HasBelow (length graph) (slots_in steps)
steps_below graph m steps bounded below h =
    let p : Parts graph m steps = parts_of graph m steps h in
    let ms : List ℕ = visit graph (length graph) [] [] (target_at [] (Some m)) in
    let v : Visited graph m ms = visited graph m p.reached bounded below p.walked in
    let slots : ms ≡ slots_in steps = sym (slots-marked p.reached ms) ∙ ap slots_in p.steps_are in
    subst (HasBelow (length graph)) slots v.below

named_ok : {A B : Type 0} (catalogue : List Description) (view : A → B) (r : Result A _) (y : B) → named catalogue view r ≡ Ok y → (x : A) × (r ≡ Ok x) × (view x ≡ y)
named_ok catalogue view (Ok x) y h = let same : view x ≡ y = cc in (x, refl, same)
named_ok catalogue view (Err e) y h = absurd (cc)

slot_within : (catalogue : List Description) (name : List ℕ) (m : ℕ) → slot_named catalogue name ≡ Some m → m < length catalogue
slot_within catalogue name m found = (position-Some (λ (d : Description). bytes_eq name d.name) catalogue m (described []) found).0

pub plan_slots : (catalogue : List Description) (dependencies : List Pair) (configuration : Configuration) (name : List ℕ) (words : List (List ℕ)) (items : List Item)
    → plan_of catalogue dependencies configuration name words ≡ Ok items → All (λ (i : Item). i.slot < length catalogue) items
plan_slots catalogue dependencies configuration name words items h = at (slot_named catalogue (normal_form name)) refl h
  where
    at : (o : Option ℕ) → slot_named catalogue (normal_form name) ≡ o → plan_at catalogue dependencies configuration words (target_at (normal_form name) o) ≡ Ok items → All (λ (i : Item). i.slot < length catalogue) items
    at None found k = absurd (cc)
    at (Some m) found k =
        let n : length (graph_of catalogue dependencies configuration) ≡ length catalogue = length-graph_of catalogue dependencies configuration in
        let inside : m < length catalogue = slot_within catalogue (normal_form name) m found in
        let below : m < length (graph_of catalogue dependencies configuration) = omega (arith, n, inside) in
        let s : (steps : List _) × (plan (graph_of catalogue dependencies configuration) (target_at [] (Some m)) ≡ Ok steps) × (map (item_of catalogue configuration m words) steps ≡ items)
        = named_ok catalogue (map (item_of catalogue configuration m words)) (plan (graph_of catalogue dependencies configuration) (target_at [] (Some m))) items k in
        let all : HasBelow (length catalogue) (slots_in s.0) = subst (λ l. HasBelow l (slots_in s.0)) n (steps_below (graph_of catalogue dependencies configuration) m s.0 (graph_bounded catalogue dependencies configuration) below s.1) in
        subst (All (λ (i : Item). i.slot < length catalogue)) s.2 (items_below (length catalogue) catalogue configuration m words s.0 all)

-- what a hard walk finishes are modules of the graph
walk_below : (graph : List Node) (m : ℕ) (reached : List ℕ) → is_bounded graph ≡ true → m < length graph → hard_walk graph false (target_at [] (Some m)) ≡ Ok reached → HasBelow (length graph) reached
walk_below graph m reached bounded below h q stands =
    let e : Extends graph false [] [] reached = (walk_extends graph false bounded (length graph) [] [] (target_at [] (Some m)) reached (lt-makes m (length graph) below) start (λ p g. refl) h).0 in
    (e.entered (λ p g. absurd (cc)) q stands).0

all_reversed : (n : ℕ) (ms : List ℕ) → All (λ m. m < n) ms → All (λ m. m < n) (reverse ms)
all_reversed n ms all =
    All-from_get_or (λ m. m < n) (reverse ms) 0
    (λ i below.
    let inside : i < length ms = omega (arith, below, length-reverse ms) in
    rw (get_or-reverse ms i 0 inside) (All-get_or (λ m. m < n) ms (length ms - 1 - i) 0 (omega arith) all))

removal_at_below : (catalogue : List Description) (dependencies : List Pair) (configuration : Configuration) (m : ℕ) (order : List ℕ) → m < length catalogue
    → removal_at catalogue dependencies configuration (target_at [] (Some m)) ≡ Ok order → All (λ m. m < length catalogue) order
removal_at_below catalogue dependencies configuration m order inside h =
    let n : length (graph_of catalogue dependencies configuration) ≡ length catalogue = length-graph_of catalogue dependencies configuration in
    let below : m < length (graph_of catalogue dependencies configuration) = omega (arith, n, inside) in
    let s : (o : List ℕ) × (removal_plan (graph_of catalogue dependencies configuration) (target_at [] (Some m)) ≡ Ok o) × (o ≡ order) = named_ok catalogue (λ (o : List ℕ). o) (removal_plan (graph_of catalogue dependencies configuration) (target_at [] (Some m))) order h in
    let w : (reached : List ℕ) × (hard_walk (graph_of catalogue dependencies configuration) false (target_at [] (Some m)) ≡ Ok reached) × (Ok (reverse reached) ≡ Ok s.0) = bind_ok (hard_walk (graph_of catalogue dependencies configuration) false (target_at [] (Some m))) (λ r. Ok (reverse r)) s.0 s.1 in
    let reversed : reverse w.0 ≡ s.0 = cc in
    let all : HasBelow (length catalogue) w.0 = subst (λ l. HasBelow l w.0) n (walk_below (graph_of catalogue dependencies configuration) m w.0 (graph_bounded catalogue dependencies configuration) below w.1) in
    subst (All (λ m. m < length catalogue)) (reversed ∙ s.2) (all_reversed (length catalogue) w.0 (all_below (length catalogue) w.0 all))

pub removal_slots : (catalogue : List Description) (dependencies : List Pair) (configuration : Configuration) (name : List ℕ) (order : List ℕ)
    → removal_plan_of catalogue dependencies configuration name ≡ Ok order → All (λ m. m < length catalogue) order
removal_slots catalogue dependencies configuration name order h =
    elim (chosen (is_kept configuration (normal_form name)) (Err (Remove (normal_form name))) (removal_at catalogue dependencies configuration (target_at (normal_form name) (slot_named catalogue (normal_form name)))) (Ok order) h) [
      | inl kept ↦ absurd (refused (Remove (normal_form name)) kept.1)
      | inr free ↦ at (slot_named catalogue (normal_form name)) refl free.1
    ]
  where
    refused : (e : PlanError) → Err e ≡ Ok order → ⊥
    refused e k = cc

    at : (o : Option ℕ) → slot_named catalogue (normal_form name) ≡ o → removal_at catalogue dependencies configuration (target_at (normal_form name) o) ≡ Ok order → All (λ m. m < length catalogue) order
    at None found k = absurd (cc)
    at (Some m) found k = removal_at_below catalogue dependencies configuration m order (slot_within catalogue (normal_form name) m found) k
