-- The laws of plans.
use Rattle.std.specs.Prelude.{◌≡◌, ◌≤◌, ◌<◌, ℕ, Bool, true, false, not, List, [], ◌∷◌, ◌++◌, map, length, Ok, Contains}
use Rattle.std.specs.List.{list_all}
use Rattle.load_plan.specs.declared.graph.Target.{Target}
use Rattle.load_plan.specs.declared.graph.Target.TheVariants.{Slot, Missing}
use Rattle.load_plan.specs.declared.plans.PlanStep.{PlanStep}
use Rattle.load_plan.specs.Graph.{Node, node_at, is_bounded}
use Rattle.load_plan.specs.Walk.{has, walk, hard_walk}
use Rattle.load_plan.specs.Plan.{visit, plan}

-- a target that stands in a list
abbrev pub is_in : List ℕ → Target → Bool
is_in ms (Slot m) = has ms m
is_in ms (Missing name) = false

-- No module stands twice, and each hard dependency stands before its user.
pub data IsOrder (graph : List Node) : List ℕ → Type 0 where
  start : IsOrder graph []
  more : (ms : List ℕ) (m : ℕ) → IsOrder graph ms → has ms m ≡ false → list_all (is_in ms) (node_at graph m).hard ≡ true → IsOrder graph (ms ++ m ∷ [])

-- A module that is reached from x, and whether over a soft item.
pub data Reaches (graph : List Node) (x : ℕ) : Bool → ℕ → Type 0 where
  self : Reaches graph x false x
  over_hard : (soft : Bool) (m d : ℕ) → Reaches graph x soft m → Contains (node_at graph m).hard (Slot d) → Reaches graph x soft d
  over_pre : (soft : Bool) (m d : ℕ) → Reaches graph x soft m → Contains (node_at graph m).pre (Slot d) → Reaches graph x true d
  over_post : (soft : Bool) (m d : ℕ) → Reaches graph x soft m → Contains (node_at graph m).post (Slot d) → Reaches graph x true d

abbrev pub slots_in : List PlanStep → List ℕ
slots_in steps = map (λ (s : PlanStep). s.slot) steps

-- No module stands twice in a plan, each hard dependency stands before its user, and the module itself is there.
abbrev pub PlansAreOrders : Type 0
PlansAreOrders =
    (graph : List Node) (m : ℕ) (steps : List PlanStep)
    → is_bounded graph ≡ true → m < length graph → plan graph (Slot m) ≡ Ok steps
    → IsOrder graph (slots_in steps) × (has (slots_in steps) m ≡ true)

-- What is hard and what is soft in the plan of m, if the hard walk from m reaches these modules.
pub record HasRightMarks (graph : List Node) (m : ℕ) (reached : List ℕ) (steps : List PlanStep) : Type 0 where
  pub all : (q : ℕ) → has reached q ≡ true → has (slots_in steps) q ≡ true
  pub marks : (step : PlanStep) → Contains steps step → step.soft ≡ not (has reached step.slot)
  pub soft : (step : PlanStep) → Contains steps step → step.soft ≡ true → Reaches graph m true step.slot

-- All that the hard walk reaches stands in the plan, marked hard; all else in it is marked soft and is reached
-- over at least one soft item.
abbrev pub MarksAreRight : Type 0
MarksAreRight =
    (graph : List Node) (m : ℕ) (reached : List ℕ) (steps : List PlanStep)
    → is_bounded graph ≡ true → m < length graph → hard_walk graph true (Slot m) ≡ Ok reached → plan graph (Slot m) ≡ Ok steps
    → HasRightMarks graph m reached steps

-- More fuel than there are modules changes no walk, and no visit of a module whose hard walk has no fault.
pub record FuelIsEnoughIn (graph : List Node) (m more : ℕ) : Type 0 where
  pub walks : (tests : Bool) → walk graph tests more [] [] (Slot m) ≡ hard_walk graph tests (Slot m)
  pub visits : (reached : List ℕ) → hard_walk graph true (Slot m) ≡ Ok reached → visit graph more [] [] (Slot m) ≡ visit graph (length graph) [] [] (Slot m)

abbrev pub FuelIsEnough : Type 0
FuelIsEnough =
    (graph : List Node) (m more : ℕ)
    → is_bounded graph ≡ true → m < length graph → length graph ≤ more → FuelIsEnoughIn graph m more
