-- Which modules are loaded for one, in which order, and which are removed with it.
-- From modprobe.d(5) come only that pre items go before, that post items go after, and that both are optional.
use Rattle.std.specs.Prelude.{ℕ, zero, suc, Bool, true, false, not, if◌then◌else◌, ◌&&◌, List, [], ◌∷◌, ◌++◌, map, length, reverse, Result, Ok, Err}
use Rattle.std.specs.List.{list_any}
use Rattle.load_plan.specs.declared.graph.Target.{Target}
use Rattle.load_plan.specs.declared.graph.Target.TheVariants.{Slot, Missing}
use Rattle.load_plan.specs.declared.plans.PlanStep.{PlanStep}
use Rattle.load_plan.specs.declared.refusal.PlanRefusal.{PlanRefusal}
use Rattle.load_plan.specs.Graph.{Node, node_at}
use Rattle.load_plan.specs.Walk.{◌>>=◌, has, hard_walk}

-- whether a walk has no fault and reaches no module in progress
abbrev pub is_free : List ℕ → Result (List ℕ) PlanRefusal → Bool
is_free progress (Err e) = false
is_free progress (Ok reached) = not (list_any (has progress) reached)

-- A soft item is clean when it is not in the list yet and its hard walk is free.
abbrev pub is_clean : List Node → List ℕ → List ℕ → Target → Bool
is_clean graph progress done (Missing name) = false
is_clean graph progress done (Slot m) = not (has done m) && is_free progress (hard_walk graph true (Slot m))

-- a step for each soft item that is clean, in order
abbrev pub each_soft : List Node → List ℕ → (List ℕ → Target → List ℕ) → List ℕ → List Target → List ℕ
each_soft graph progress go done [] = done
each_soft graph progress go done (t ∷ ts) =
    each_soft graph progress go (if is_clean graph progress done t then go done t else done) ts

abbrev pub is_done : List ℕ → Target → Bool
is_done done (Missing name) = true
is_done done (Slot m) = has done m

-- a step for each hard dependency that is not in the list yet, in order
abbrev pub each_hard : (List ℕ → Target → List ℕ) → List ℕ → List Target → List ℕ
each_hard go done [] = done
each_hard go done (t ∷ ts) = each_hard go (if is_done done t then done else go done t) ts

-- The list after the visit of a target: its clean pre items, its hard dependencies, itself, its clean post
-- items. In progress are the modules whose visit has begun and that are not in the list yet. The fuel is the
-- number of modules that are neither in progress nor in the list.
abbrev pub visit : List Node → ℕ → List ℕ → List ℕ → Target → List ℕ
visit graph zero progress done target = done
visit graph (suc n) progress done (Missing name) = done
visit graph (suc n) progress done (Slot m) =
    each_soft graph progress (visit graph n progress)
    (each_hard (visit graph n (m ∷ progress))
    (each_soft graph (m ∷ progress) (visit graph n (m ∷ progress)) done (node_at graph m).pre)
    (node_at graph m).hard ++ m ∷ [])
    (node_at graph m).post

-- each module with whether it is soft: whether the hard walk does not reach it
abbrev pub marked : List ℕ → List ℕ → List PlanStep
marked reached ms = map (λ m. record { slot = m; soft = not (has reached m) }) ms

-- The plan of a module: refused as its hard walk is, else its visit.
abbrev pub plan : List Node → Target → Result (List PlanStep) PlanRefusal
plan graph target = hard_walk graph true target >>= λ reached. Ok (marked reached (visit graph (length graph) [] [] target))

-- The removal plan of a module: its hard walk without the test for install lines, reversed.
abbrev pub removal_plan : List Node → Target → Result (List ℕ) PlanRefusal
removal_plan graph target = hard_walk graph false target >>= λ reached. Ok (reverse reached)
