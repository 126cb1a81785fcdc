-- Serves proofs alone: which modules have no options, and an item for a command.
use Rattle.std.specs.Prelude.{◌≡◌, ℕ, Bool, true, false, List, [], Result, slice_index_or}
use Rattle.text_parts.specs.Text.{texts_of}
use Rattle.load_plan.specs.declared.items.Asked.{Asked}
use Rattle.load_plan.specs.declared.graph.Target.TheVariants.{Slot}
use Rattle.load_plan.specs.declared.items.Item.{Item}
use Rattle.load_plan.specs.declared.items.PlanError.{PlanError}
use Rattle.load_plan.specs.declared.plans.PlanStep.{PlanStep}
use Rattle.load_plan.specs.declared.sources.Sources.{Sources}
use Rattle.load_plan.specs.Items.{item_of, plan_at, removal_at}
use Rattle.load_plan.specs.Sources.{options_from}

-- a module's flag says that the configuration has no options of its name
abbrev pub AreBare : Sources → List Bool → Type 0
AreBare s bare = (slot : ℕ) → slice_index_or bare slot false ≡ true → options_from s slot ≡ []

abbrev pub item_for : Sources → Asked → PlanStep → Item
item_for s asked step = item_of s.catalogue.now s.configuration.now asked.slot (texts_of asked.words.now) step

-- the plan of a slot for a command
abbrev pub plan_for : Sources → Asked → Result (List Item) PlanError
plan_for s asked = plan_at s.catalogue.now s.dependencies.now s.configuration.now (texts_of asked.words.now) (Slot asked.slot)

abbrev pub removal_for : Sources → ℕ → Result (List ℕ) PlanError
removal_for s slot = removal_at s.catalogue.now s.dependencies.now s.configuration.now (Slot slot)
