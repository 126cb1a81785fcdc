use Rattle.std.proofs.Common.{◌≡◌, ◌++◌, List, length, take, true}
use Rattle.std.specs.List.{list_all}
use Rattle.load_plan.specs.ForProofs.{InVisit}
use Rattle.load_plan.specs.Graph.{Node}
use Rattle.load_plan.specs.Laws.{is_in}
use Rattle.load_plan.specs.Learnt.{Knows}
use Rattle.load_plan.proofs.learnt.Learnt.are_free.Given as goal

abbrev pub invariant-loop-target : goal.invariant-loop-target
invariant-loop-target l =
    (graph : List Node) → length graph ≡ length l.marks → InVisit graph l.marks (λ progress done.
    Knows graph progress done l.self → list_all (is_in (done ++ l.self.order.items)) (take l.target-index l.targets) ≡ true)
