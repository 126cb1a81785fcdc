-- Which dependency graph a catalogue, a modules.dep text and a configuration are.
use Rattle.std.specs.Prelude.{ℕ, suc, Bool, not, ◌&&◌, List, [], ◌∷◌, map, Option, Some, None, is_some}
use Rattle.dep_index.specs.Catalogue.{Description, description_at, needs_of, slot_named}
use Rattle.dep_index.specs.Dependencies.{Pair, deps}
use Rattle.modprobe_conf.specs.Configuration.{Configuration, SoftItems, softdep_of, options_of, has_install_line, has_remove_line}
use Rattle.load_plan.specs.declared.sources.Sources.{Sources}
use Rattle.load_plan.specs.declared.graph.Target.{Target}
use Rattle.load_plan.specs.declared.graph.Target.TheVariants.{Slot, Missing}
use Rattle.load_plan.specs.Graph.{Node}

abbrev pub target_at : List ℕ → Option ℕ → Target
target_at name None = Missing name
target_at name (Some m) = Slot m

-- the module of a name
abbrev pub target_of : List Description → List ℕ → Target
target_of catalogue name = target_at name (slot_named catalogue name)

-- the hard dependencies of a slot: those of its name's line in modules.dep, and if it has none its needs
abbrev pub hard_of : List Description → ℕ → Option (List (List ℕ)) → List Target
hard_of catalogue m (Some names) = map (target_of catalogue) names
hard_of catalogue m None = map Slot (needs_of catalogue m)

-- the pre items: those of the softdep line, and if there is none the softneeds of the catalogue
abbrev pub pre_of : Description → Option SoftItems → List (List ℕ)
pre_of m (Some items) = items.pre
pre_of m None = m.softneeds

abbrev pub post_of : Option SoftItems → List (List ℕ)
post_of (Some items) = items.post
post_of None = []

-- an install line counts if there is no softdep line
abbrev pub is_stopped : Configuration → List ℕ → Bool
is_stopped configuration name = has_install_line configuration name && not (is_some (softdep_of configuration name))

-- so does a remove line
abbrev pub is_kept : Configuration → List ℕ → Bool
is_kept configuration name = has_remove_line configuration name && not (is_some (softdep_of configuration name))

abbrev pub node_of : List Description → List Pair → Configuration → ℕ → Description → Node
node_of catalogue dependencies configuration m description =
    record {
      hard = hard_of catalogue m (deps dependencies description.name);
      pre = map (target_of catalogue) (pre_of description (softdep_of configuration description.name));
      post = map (target_of catalogue) (post_of (softdep_of configuration description.name));
      installs = is_stopped configuration description.name;
    }

abbrev pub nodes_from : List Description → List Pair → Configuration → ℕ → List Description → List Node
nodes_from catalogue dependencies configuration m [] = []
nodes_from catalogue dependencies configuration m (description ∷ later) =
    node_of catalogue dependencies configuration m description ∷ nodes_from catalogue dependencies configuration (suc m) later

abbrev pub graph_of : List Description → List Pair → Configuration → List Node
graph_of catalogue dependencies configuration = nodes_from catalogue dependencies configuration 0 catalogue

-- the graph that plans are made from, and what it asks of a slot
abbrev pub graph_from : Sources → List Node
graph_from s = graph_of s.catalogue.now s.dependencies.now s.configuration.now

abbrev pub node_from : Sources → ℕ → Node
node_from s slot =
    node_of s.catalogue.now s.dependencies.now s.configuration.now slot (description_at s.catalogue.now slot)

-- the words of the options lines of a slot's name
abbrev pub options_from : Sources → ℕ → List (List ℕ)
options_from s slot = options_of s.configuration.now (description_at s.catalogue.now slot).name
