-- The hard walk: a module and all that it stands on, depth first, each dependency before its user.
use Rattle.std.specs.Prelude.{ℕ, zero, suc, Bool, if◌then◌else◌, ◌&&◌, List, [], ◌∷◌, ◌++◌, length, Result, Ok, Err, nat_eq}
use Rattle.std.specs.List.{list_any}
use Rattle.load_plan.specs.declared.graph.Target.{Target}
use Rattle.load_plan.specs.declared.graph.Target.TheVariants.{Slot, Missing}
use Rattle.load_plan.specs.declared.refusal.PlanRefusal.{PlanRefusal}
use Rattle.load_plan.specs.declared.refusal.PlanRefusal.TheVariants.{Cycle, Install, Unknown}
use Rattle.load_plan.specs.Graph.{Node, node_at}

-- what comes next of a result, unless it is a refusal
infixl 10 ◌>>=◌
abbrev pub ◌>>=◌ : {A B : Type 0} → Result A PlanRefusal → (A → Result B PlanRefusal) → Result B PlanRefusal
(Ok x) >>= next = next x
(Err e) >>= next = Err e

abbrev pub has : List ℕ → ℕ → Bool
has ms m = list_any (nat_eq m) ms

-- a step for each target in order, each on the list that the one before it left
abbrev pub walk_each : (List ℕ → Target → Result (List ℕ) PlanRefusal) → List ℕ → List Target → Result (List ℕ) PlanRefusal
walk_each go done [] = Ok done
walk_each go done (t ∷ ts) = go done t >>= λ d. walk_each go d ts

-- The walk from a target: the modules in the order in which it finishes them, after those that were finished
-- before. The way leads from the first module to here. The fuel is the number of modules that may still come
-- onto the way; no walk needs more than there are modules. The install lines are tested or not.
abbrev pub walk : List Node → Bool → ℕ → List ℕ → List ℕ → Target → Result (List ℕ) PlanRefusal
walk graph tests zero way done (Missing name) = Err (Unknown name)
walk graph tests zero way done (Slot m) = if has done m then Ok done else Err (Cycle m)
walk graph tests (suc n) way done (Missing name) = Err (Unknown name)
walk graph tests (suc n) way done (Slot m) =
    if has done m then Ok done
    else (if has way m then Err (Cycle m)
    else (if tests && (node_at graph m).installs then Err (Install m)
    else (walk_each (walk graph tests n (m ∷ way)) done (node_at graph m).hard >>= λ d. Ok (d ++ m ∷ []))))

-- the whole hard walk from a target
abbrev pub hard_walk : List Node → Bool → Target → Result (List ℕ) PlanRefusal
hard_walk graph tests target = walk graph tests (length graph) [] [] target
