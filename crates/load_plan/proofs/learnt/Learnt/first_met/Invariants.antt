use Rattle.std.proofs.Common.{◌≡◌, List, length, IfSome}
use Rattle.load_plan.specs.ForProofs.{InVisit}
use Rattle.load_plan.specs.Graph.{Node}
use Rattle.load_plan.specs.Learnt.{IsMet, Knows}
use Rattle.load_plan.proofs.learnt.Learnt.first_met.Given as goal

abbrev pub invariant-loop-target : goal.invariant-loop-target
invariant-loop-target l = (graph : List Node) → length graph ≡ length l.marks → InVisit graph l.marks (λ progress done. Knows graph progress done l.self → IfSome l.first (IsMet graph progress l.targets))
