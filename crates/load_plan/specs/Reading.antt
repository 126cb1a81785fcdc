-- Serves proofs alone: what was read for plans.
use Rattle.std.specs.Prelude.{◌≡◌, length}
use Rattle.load_plan.specs.declared.reach.Part.{Part}
use Rattle.load_plan.specs.declared.sources.Sources.{Sources}
use Rattle.load_plan.specs.OptionWords.{AreBare}
use Rattle.load_plan.specs.Parts.{IsPart, known_at}
use Rattle.load_plan.specs.Sources.{graph_from}

-- the graph of the known modules, and which have no options
pub record IsRead (s : Sources) (part : Part) : Type 0 where
  pub graph : IsPart (graph_from s) part.graph (known_at part.known.items)
  pub long : length part.known.items ≡ length s.catalogue.now
  pub wide : length part.graph ≡ length s.catalogue.now
  pub bare : AreBare s part.bare.items
