use Rattle.std.proofs.Common.{length, arith, refl, []}
use Rattle.load_plan.specs.declared.graph.Target.TheVariants.{Slot}
use Rattle.load_plan.proofs.Lists.{nothing_apart}
use Rattle.load_plan.proofs.Walking.{walk_same}
use Rattle.load_plan.proofs.Clean.{lt-makes}
use Rattle.load_plan.proofs.VisitLaws.{visit_same, planned_start, free_start}
use Rattle.load_plan.proofs.laws.fuel_is_enough.Goals as goal

pub returns : goal.returns
returns c graph m more bounded below enough = record {
  walks = λ tests. walk_same graph tests bounded more (length graph) [] [] (Slot m) nothing_apart (λ q h. absurd (cc)) (omega arith) (omega arith) (lt-makes m (length graph) below);
  visits = λ reached walked. visit_same graph bounded more (length graph) [] [] m (planned_start graph more enough) (planned_start graph (length graph) (omega arith)) below (free_start graph m reached bounded below walked) refl;
}
