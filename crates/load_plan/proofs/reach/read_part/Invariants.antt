use Rattle.std.proofs.Common.{◌≡◌, ℕ, true, false, length}
use Rattle.load_plan.specs.Cuts.{nodes_in, AllFit}
use Rattle.load_plan.specs.OptionWords.{AreBare}
use Rattle.load_plan.specs.SoftModules.{HasNoSoftModules}
use Rattle.load_plan.specs.Sources.{graph_from}
use Rattle.load_plan.specs.Parts.{cost, known_at}
use Rattle.load_plan.proofs.Reaching.{Reaching}
use Rattle.load_plan.proofs.reach.read_part.Given as goal

abbrev pub invariant-modules : goal.invariant-modules
invariant-modules l = record {
  reaching : Reaching (graph_from l.sources) (nodes_in l.targets.items l.rows) l.reach.known.items l.reach.left.items;
  grows : (m : ℕ) → known_at l.fn.reach.known.items m ≡ true → known_at l.reach.known.items m ≡ true;
  fit : AllFit (length l.targets.items) l.rows;
  plain : l.has_soft ≡ false → HasNoSoftModules (nodes_in l.targets.items l.rows);
  bare : AreBare l.sources l.bare.items;
  bare_long : length l.bare.items ≡ length l.sources.catalogue.now;
}

abbrev pub decreases-modules : goal.decreases-modules
decreases-modules l = cost l.reach.known.items l.reach.left.items
