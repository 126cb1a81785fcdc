-- A plan has only modules that its module reaches: of a closed part all are settled.
use Rattle.std.proofs.Common.{◌≡◌, ℕ, zero, suc, Bool, true, false, cond, List, [], ◌∷◌, ◌++◌, map, length, Some, Result, Ok, Err, refl, sym, ◌∙◌, ap}
use Rattle.std.specs.List.{All, list_all}
use Rattle.std.proofs.lemmas.List.Elements.{All-nil, All-cons, All-map}
use Rattle.text_parts.specs.Text.{normal_form}
use Rattle.dep_index.specs.Catalogue.{slot_named}
use Rattle.load_plan.specs.declared.graph.Target.{Target}
use Rattle.load_plan.specs.declared.graph.Target.TheVariants.{Slot, Missing}
use Rattle.load_plan.specs.declared.items.Item.{Item}
use Rattle.load_plan.specs.declared.items.PlanError.{PlanError}
use Rattle.load_plan.specs.declared.items.PlanError.TheVariants as error
use Rattle.load_plan.specs.declared.plans.PlanStep.{PlanStep}
use Rattle.load_plan.specs.declared.reach.Part.{Part}
use Rattle.load_plan.specs.declared.refusal.PlanRefusal.{PlanRefusal}
use Rattle.load_plan.specs.declared.sources.Sources.{Sources}
use Rattle.load_plan.specs.Graph.{Node, node_at}
use Rattle.load_plan.specs.Items.{FailsAs, error_of, item_of, named, plan_at, plan_from}
use Rattle.load_plan.specs.Outlook.{Outlook, settled_at, IsSettled, IsOutlook}
use Rattle.load_plan.specs.Parts.{is_target_in, names_in, known_at}
use Rattle.load_plan.specs.Plan.{is_clean, each_soft, is_done, each_hard, visit, marked, plan}
use Rattle.load_plan.specs.Sources.{graph_from, target_at}
use Rattle.load_plan.specs.Walk.{◌>>=◌, hard_walk}
use Rattle.load_plan.proofs.Lists.{and_true, all-append, and_makes}
use Rattle.load_plan.proofs.Parts.{hard_in, pre_in, post_in, hard_walk-part, plan-part}

abbrev AllIn : (ℕ → Bool) → List ℕ → Type 0
AllIn p ms = list_all p ms ≡ true

-- a step that takes members to members
abbrev StaysIn : (ℕ → Bool) → (List ℕ → Target → List ℕ) → Type 0
StaysIn p go = (done : List ℕ) (t : Target) → AllIn p done → is_target_in p t ≡ true → AllIn p (go done t)

either_in : (b : Bool) (p : ℕ → Bool) (xs ys : List ℕ) → AllIn p xs → AllIn p ys → AllIn p (cond b xs ys)
either_in true p xs ys h k = h
either_in false p xs ys h k = k

soft_in : (w : List Node) (p : ℕ → Bool) (progress : List ℕ) (go : List ℕ → Target → List ℕ) → StaysIn p go → (ts : List Target) (done : List ℕ) → AllIn p done → list_all (is_target_in p) ts ≡ true → AllIn p (each_soft w progress go done ts)
soft_in w p progress go goes [] done h all = h
soft_in w p progress go goes (t ∷ ts) done h all =
    let both : (is_target_in p t ≡ true) × (list_all (is_target_in p) ts ≡ true) = and_true (is_target_in p t) (list_all (is_target_in p) ts) all in
    soft_in w p progress go goes ts (cond (is_clean w progress done t) (go done t) done) (either_in (is_clean w progress done t) p (go done t) done (goes done t h both.0) h) both.1

hards_in : (p : ℕ → Bool) (go : List ℕ → Target → List ℕ) → StaysIn p go → (ts : List Target) (done : List ℕ) → AllIn p done → list_all (is_target_in p) ts ≡ true → AllIn p (each_hard go done ts)
hards_in p go goes [] done h all = h
hards_in p go goes (t ∷ ts) done h all =
    let both : (is_target_in p t ≡ true) × (list_all (is_target_in p) ts ≡ true) = and_true (is_target_in p t) (list_all (is_target_in p) ts) all in
    hards_in p go goes ts (cond (is_done done t) done (go done t)) (either_in (is_done done t) p done (go done t) h (goes done t h both.0)) both.1

-- a visit stays in a part that names none but itself
visit_in : (w : List Node) (p : ℕ → Bool) → ((m : ℕ) → p m ≡ true → names_in p (node_at w m) ≡ true) → (n : ℕ) (progress : List ℕ) → StaysIn p (visit w n progress)
visit_in w p closed zero progress done t h here = h
visit_in w p closed (suc n) progress done (Missing name) h here = h
visit_in w p closed (suc n) progress done (Slot m) h here =
    let node : Node = node_at w m in
    let all : names_in p node ≡ true = closed m here in
    let first : List ℕ = each_soft w (m ∷ progress) (visit w n (m ∷ progress)) done node.pre in
    let second : List ℕ = each_hard (visit w n (m ∷ progress)) first node.hard in
    let a : AllIn p first = soft_in w p (m ∷ progress) (visit w n (m ∷ progress)) (visit_in w p closed n (m ∷ progress)) node.pre done h (pre_in p node all) in
    let b : AllIn p second = hards_in p (visit w n (m ∷ progress)) (visit_in w p closed n (m ∷ progress)) node.hard first a (hard_in p node all) in
    soft_in w p progress (visit w n progress) (visit_in w p closed n progress) node.post (second ++ m ∷ [])
    (all-append p second (m ∷ []) b (and_makes (p m) true here refl)) (post_in p node all)

all_from : (p q : ℕ → Bool) → ((m : ℕ) → p m ≡ true → q m ≡ true) → (ms : List ℕ) → AllIn p ms → All (λ m. q m ≡ true) ms
all_from p q goes [] h = All-nil (λ m. q m ≡ true)
all_from p q goes (x ∷ xs) h =
    let both : (p x ≡ true) × (list_all p xs ≡ true) = and_true (p x) (list_all p xs) h in
    All-cons (λ m. q m ≡ true) x xs (goes x both.0) (all_from p q goes xs both.1)

-- the plan of a closed module that was read and whose hard walk has no fault
pub settled_plan : (o : Outlook) (part : Part) (closed : List Bool) (name : List ℕ) (slot : ℕ) (reached : List ℕ) → IsOutlook o.sources part o.settled closed → slot_named o.sources.catalogue.now (normal_form name) ≡ Some slot → known_at part.known.items slot ≡ true → known_at closed slot ≡ true → hard_walk part.graph true (Slot slot) ≡ Ok reached → (words : List (List ℕ)) → IsSettled o name words
settled_plan o part closed name slot reached is found known here walked words =
    let s : Sources = o.sources in
    let v : List Node = part.graph in
    let ms : List ℕ = visit v (length v) [] [] (Slot slot) in
    let steps : List PlanStep = marked reached ms in
    let item : PlanStep → Item = item_of s.catalogue.now s.configuration.now slot words in
    let planned : plan v (Slot slot) ≡ Ok steps = ap (λ r. r >>= λ reached. Ok (marked reached ms)) walked in
    let same : plan (graph_from s) (Slot slot) ≡ Ok steps = sym (plan-part (graph_from s) v (known_at part.known.items) slot is.read.graph known) ∙ planned in
    let inside : AllIn (known_at closed) ms = visit_in v (known_at closed) is.closed.names (length v) [] [] (Slot slot) refl here in
    let all : All (λ m. settled_at o.settled m ≡ true) ms = all_from (known_at closed) (settled_at o.settled) is.closed.settled ms inside in (
      map item steps,
      ap (λ f. plan_at s.catalogue.now s.dependencies.now s.configuration.now words (target_at (normal_form name) f)) found
          ∙ ap (named s.catalogue.now (map item)) same,
      All-map (λ (i : Item). settled_at o.settled i.slot ≡ true) item steps (All-map (λ (x : PlanStep). settled_at o.settled x.slot ≡ true) _ ms all),
    )

pub fails_as : {A : Type 0} (e : PlanError) (given : Result A PlanError) → given ≡ Err e → FailsAs e given
fails_as (error.Cycle name) given h = h
fails_as (error.Install name) given h = h
fails_as (error.Unknown name) given h = h
fails_as error.Memory given h = tt
fails_as (error.Remove name) given h = h

-- the refusal of a module that was read
pub settled_refusal : (s : Sources) (part : Part) (settled closed : List Bool) (name : List ℕ) (slot : ℕ) (refusal : PlanRefusal) (e : PlanError) → IsOutlook s part settled closed → slot_named s.catalogue.now (normal_form name) ≡ Some slot → known_at part.known.items slot ≡ true → hard_walk part.graph true (Slot slot) ≡ Err refusal → e ≡ error_of s.catalogue.now refusal → (words : List (List ℕ)) → FailsAs e (plan_from s name words)
settled_refusal s part settled closed name slot refusal e is found known walked same words =
    fails_as e (plan_from s name words)
    (ap (λ f. plan_at s.catalogue.now s.dependencies.now s.configuration.now words (target_at (normal_form name) f)) found
    ∙ ap (named s.catalogue.now (map (item_of s.catalogue.now s.configuration.now slot words))) (ap (λ r. r >>= λ reached. Ok (marked reached (visit (graph_from s) (length (graph_from s)) [] [] (Slot slot)))) (sym (hard_walk-part (graph_from s) part.graph (known_at part.known.items) is.read.graph true (Slot slot) known) ∙ walked))
    ∙ ap Err (sym same))
