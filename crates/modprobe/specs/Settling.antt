-- Serves proofs alone: which plans of a name need not be loaded.
use Rattle.std.specs.Prelude.{◌≡◌, ◌<◌, ◌⊎◌, ℕ, Bool, true, false, List, [], length, All, None, Result, Ok, Err}
use Rattle.std.specs.List.{list_all}
use Rattle.dep_index.specs.Table.{Table, state_of, is_absent, is_live}
use Rattle.dep_index.specs.Catalogue.{description_at, needs_of, has_unknown_symbol}
use Rattle.load_plan.specs.declared.items.Item.{Item}
use Rattle.load_plan.specs.declared.items.PlanError.{PlanError}
use Rattle.load_plan.specs.Items.{FailsAs}
use Rattle.load_plan.specs.Outlook.{Outlook, settled_at}
use Rattle.load_plan.specs.Parameters.{are_valid}
use Rattle.modprobe.specs.Loads.{loads}
use Rattle.modprobe.specs.Plans.{items_of_plans}
use Rattle.modprobe.specs.Setup.{Setup}

-- items whose loads come to the same as those of the items that are given, or the refusal that is given
abbrev pub LoadsAs : {X : Type 0} → Setup → Table → (X → List Item) → Result X PlanError → Result (List Item) PlanError → Type 0
LoadsAs s t view (Ok x) given = (whole : List Item) × (given ≡ Ok whole) × (loads s (view x) t ≡ loads s whole t)
LoadsAs s t view (Err e) given = FailsAs e given

-- plans are made of the setup's texts
pub record PlansFor (s : Setup) (o : Outlook) : Type 0 where
  pub catalogue : o.sources.catalogue.now ≡ s.catalogue
  pub dependencies : o.sources.dependencies.now ≡ s.dependencies
  pub configuration : o.sources.configuration.now ≡ s.configuration
  pub long : length o.settled ≡ length s.catalogue

-- the items are of modules of the catalogue
abbrev pub AreIn : Setup → List Item → Type 0
AreIn s items = All (λ (item : Item). item.slot < length s.catalogue) items

-- the module of an item is absent, and nothing stands in the way of its load if the settled modules are live by then
pub record IsLoadable (s : Setup) (t : Table) (settled : List Bool) (item : Item) : Type 0 where
  pub absent : is_absent (state_of t.book item.slot) ≡ true
  pub known : has_unknown_symbol s.catalogue item.slot ≡ false
  pub needs : list_all (settled_at settled) (needs_of s.catalogue item.slot) ≡ true
  pub valid : are_valid (description_at s.catalogue item.slot) item.options ≡ true

abbrev pub IsSure : Setup → Table → List Bool → Item → Type 0
IsSure s t settled item = (is_live (state_of t.book item.slot) ≡ true) ⊎ IsLoadable s t settled item

-- after these loads, unless one was refused, the settled modules are live
abbrev pub AreSure : Setup → Table → List Item → List Bool → Type 0
AreSure s t items settled =
    (m : ℕ) → settled_at settled m ≡ true → (loads s items t).0 ≡ None → is_live (state_of (loads s items t).1.book m) ≡ true

-- what was made of some targets, and what is left
pub record Settling (s : Setup) (t : Table) (words targets later : List (List ℕ)) (settled : List Bool) (items : List Item) : Type 0 where
  pub whole : List Item
  pub left : items_of_plans s words whole later ≡ items_of_plans s words [] targets
  pub same : loads s items t ≡ loads s whole t
  pub sure : AreSure s t items settled
  pub within : AreIn s items
