-- Every plan of texts is lawful.
use Rattle.std.proofs.Common.{◌≡◌, ◌≢◌, ℕ, zero, suc, ◌<◌, arith, true, cond, not, List, [], ◌∷◌, ◌++◌, map, length, get_or, append-nil, Option, Some, None, Result, Ok, Err, refl, sym, ◌∙◌, ap, subst, eq-eqb, inl, inr}
use Rattle.std.specs.List.{Contains}
use Rattle.std.proofs.lemmas.Bool.Decides.{eqb_tells}
use Rattle.std.proofs.lemmas.List.Quantifiers.{position-Some}
use Rattle.std.specs.Str.{bytes_eq}
use Rattle.text_parts.specs.Text.{normal_form}
use Rattle.dep_index.specs.Catalogue.{Description, described, slot_named}
use Rattle.dep_index.specs.Dependencies.{Pair}
use Rattle.modprobe_conf.specs.Configuration.{Configuration, options_of}
use Rattle.load_plan.specs.declared.graph.Target.TheVariants.{Slot}
use Rattle.load_plan.specs.declared.items.Item.{Item}
use Rattle.load_plan.specs.declared.refusal.PlanRefusal.{PlanRefusal}
use Rattle.load_plan.specs.declared.plans.PlanStep.{PlanStep}
use Rattle.load_plan.specs.Graph.{Node, is_bounded}
use Rattle.load_plan.specs.Walk.{has}
use Rattle.load_plan.specs.Plan.{plan}
use Rattle.load_plan.specs.Laws.{IsOrder, Reaches, slots_in, HasRightMarks}
use Rattle.load_plan.specs.Sources.{graph_of, target_at}
use Rattle.load_plan.specs.Items.{name_at, named, item_of, plan_at, plan_of}
use Rattle.load_plan.specs.PlanLaws.{item_slots, IsLawful}
use Rattle.load_plan.proofs.Reached.{Parts, parts_of, plan_order, marks_are_right}
use Rattle.load_plan.proofs.SourceLemmas.{graph_bounded, length-graph_of}

-- the steps from which the items of a plan are made
named_ok : {A B : Type 0} (catalogue : List Description) (view : A → B) (r : Result A PlanRefusal) (y : B) → named catalogue view r ≡ Ok y → (x : A) × (r ≡ Ok x) × (view x ≡ y)
named_ok catalogue view (Ok x) y h = let same : view x ≡ y = cc in (x, refl, same)
named_ok catalogue view (Err e) y h = absurd (cc)

slots-items : (catalogue : List Description) (configuration : Configuration) (m : ℕ) (words : List (List ℕ)) (steps : List PlanStep) → item_slots (map (item_of catalogue configuration m words) steps) ≡ slots_in steps
slots-items catalogue configuration m words [] = refl
slots-items catalogue configuration m words (s ∷ ss) = ap (λ l. s.slot ∷ l) (slots-items catalogue configuration m words ss)

-- an item of a plan comes from a step
from_step : {A B : Type 0} (f : A → B) (xs : List A) (y : B) (k : ℕ) → k < length (map f xs) → get_or (map f xs) k y ≡ y → (x : A) × Contains xs x × (f x ≡ y)
from_step f [] y k within e = absurd (omega arith)
from_step f (x ∷ xs) y zero within e = (x, (0, omega arith, refl), e)
from_step f (x ∷ xs) y (suc k) within e =
    let later : (z : _) × Contains xs z × (f z ≡ y) = from_step f xs y k (omega arith) e in
    (later.0, (suc later.1.0, omega (arith, later.1.1), later.1.2), later.2)

lawful_at : (catalogue : List Description) (dependencies : List Pair) (configuration : Configuration) (name : List ℕ) (words : List (List ℕ)) (items : List Item) (m : ℕ) → slot_named catalogue (normal_form name) ≡ Some m → plan_at catalogue dependencies configuration words (Slot m) ≡ Ok items → IsLawful catalogue dependencies configuration name words items
lawful_at catalogue dependencies configuration name words items m found h =
    let graph : List Node = graph_of catalogue dependencies configuration in
    let view : PlanStep → Item = item_of catalogue configuration m words in
    let s : (steps : List PlanStep) × (plan graph (Slot m) ≡ Ok steps) × (map view steps ≡ items) = named_ok catalogue (map view) (plan graph (Slot m)) items h in
    let bounded : is_bounded graph ≡ true = graph_bounded catalogue dependencies configuration in
    let place : m < length catalogue = (position-Some (λ (x : Description). bytes_eq (normal_form name) x.name) catalogue m (described []) found).0 in
    let below : m < length graph = omega (arith, length-graph_of catalogue dependencies configuration) in
    let p : Parts graph m s.0 = parts_of graph m s.0 s.1 in
    let order : IsOrder graph (slots_in s.0) × (has (slots_in s.0) m ≡ true) = plan_order graph m s.0 bounded below s.1 in
    let marks : HasRightMarks graph m p.reached s.0 = marks_are_right graph m p.reached s.0 bounded below p.walked s.1 in
    let slots : slots_in s.0 ≡ item_slots items = sym (slots-items catalogue configuration m words s.0) ∙ ap item_slots s.2 in
    let step : (i : Item) → Contains items i → (x : PlanStep) × Contains s.0 x × (view x ≡ i) = λ i c. from_step view s.0 i c.0 (subst (λ l. c.0 < length l) (sym s.2) c.1) (subst (λ l. get_or l c.0 i ≡ i) (sym s.2) c.2) in
    record {
      target = m;
      named = found;
      order = subst (IsOrder graph) slots order.0;
      here = subst (λ l. has l m ≡ true) slots order.1;
      reached = p.reached;
      walked = p.walked;
      all = λ q g. subst (λ l. has l q ≡ true) slots (marks.all q g);
      marks = λ i c.
          let x : (x : PlanStep) × Contains s.0 x × (view x ≡ i) = step i c in
          subst (λ (y : Item). y.soft ≡ not (has p.reached y.slot)) x.2 (marks.marks x.0 x.1);
      soft = λ i c is_soft.
          let x : (x : PlanStep) × Contains s.0 x × (view x ≡ i) = step i c in
          subst (λ (y : Item). Reaches graph m true y.slot) x.2 (marks.soft x.0 x.1 (ap (λ (y : Item). y.soft) x.2 ∙ is_soft));
      with_words = λ i c same.
          let x : (x : PlanStep) × Contains s.0 x × (view x ≡ i) = step i c in
          let slot : x.0.slot ≡ m = ap (λ (y : Item). y.slot) x.2 ∙ same in
          sym (ap (λ (y : Item). y.options) x.2) ∙ at_target x.0 slot ∙ ap (λ (y : Item). options_of configuration (name_at catalogue y.slot) ++ words) x.2;
      without_words = λ i c other.
          let x : (x : PlanStep) × Contains s.0 x × (view x ≡ i) = step i c in
          sym (ap (λ (y : Item). y.options) x.2) ∙ elsewhere x.0 (λ e. other (sym (ap (λ (y : Item). y.slot) x.2) ∙ e)) ∙ ap (λ (y : Item). options_of configuration (name_at catalogue y.slot)) x.2;
    }
  where
    at_target : (x : PlanStep) → x.slot ≡ m → (item_of catalogue configuration m words x).options ≡ options_of configuration (name_at catalogue x.slot) ++ words
    at_target x e = elim (eqb_tells x.slot m) [
      | inl t ↦ ap (λ b. options_of configuration (name_at catalogue x.slot) ++ cond b words []) (eq-eqb x.slot m e)
      | inr t ↦ absurd (t.1 e)
    ]

    elsewhere : (x : PlanStep) → x.slot ≢ m → (item_of catalogue configuration m words x).options ≡ options_of configuration (name_at catalogue x.slot)
    elsewhere x other = elim (eqb_tells x.slot m) [
      | inl t ↦ absurd (other t.1)
      | inr t ↦ ap (λ b. options_of configuration (name_at catalogue x.slot) ++ cond b words []) t.0 ∙ append-nil (options_of configuration (name_at catalogue x.slot))
    ]

pub plans_are_lawful : (catalogue : List Description) (dependencies : List Pair) (configuration : Configuration) (name : List ℕ) (words : List (List ℕ)) (items : List Item) → plan_of catalogue dependencies configuration name words ≡ Ok items → IsLawful catalogue dependencies configuration name words items
plans_are_lawful catalogue dependencies configuration name words items h = at (slot_named catalogue (normal_form name)) refl h
  where
    at : (o : Option ℕ) → slot_named catalogue (normal_form name) ≡ o → plan_at catalogue dependencies configuration words (target_at (normal_form name) o) ≡ Ok items → IsLawful catalogue dependencies configuration name words items
    at None found k = absurd (cc)
    at (Some m) found k = lawful_at catalogue dependencies configuration name words items m found k
