-- The laws of the plans of texts.
use Rattle.std.specs.Prelude.{◌≡◌, ◌≢◌, ℕ, true, not, List, ◌++◌, map, Some, Ok, Contains}
use Rattle.text_parts.specs.Text.{normal_form}
use Rattle.dep_index.specs.Catalogue.{Description, slot_named}
use Rattle.dep_index.specs.Dependencies.{Pair}
use Rattle.modprobe_conf.specs.Configuration.{Configuration, options_of}
use Rattle.load_plan.specs.declared.graph.Target.TheVariants.{Slot}
use Rattle.load_plan.specs.declared.items.Item.{Item}
use Rattle.load_plan.specs.Graph.{is_bounded}
use Rattle.load_plan.specs.Walk.{has, hard_walk}
use Rattle.load_plan.specs.Laws.{IsOrder, Reaches}
use Rattle.load_plan.specs.Sources.{graph_of}
use Rattle.load_plan.specs.Items.{name_at, plan_of}

abbrev pub item_slots : List Item → List ℕ
item_slots items = map (λ (i : Item). i.slot) items

-- The plan of a name: no module stands twice and each hard dependency before its user; all that the hard walk
-- from its module reaches stands in it, marked hard; all else is marked soft and is reached over at least one
-- soft item; the words of the command stand at its module alone.
pub record IsLawful
    (catalogue : List Description) (dependencies : List Pair) (configuration : Configuration)
    (name : List ℕ) (words : List (List ℕ)) (items : List Item) : Type 0 where
  pub target : ℕ
  pub named : slot_named catalogue (normal_form name) ≡ Some target
  pub order : IsOrder (graph_of catalogue dependencies configuration) (item_slots items)
  pub here : has (item_slots items) target ≡ true
  pub reached : List ℕ
  pub walked : hard_walk (graph_of catalogue dependencies configuration) true (Slot target) ≡ Ok reached
  pub all : (q : ℕ) → has reached q ≡ true → has (item_slots items) q ≡ true
  pub marks : (item : Item) → Contains items item → item.soft ≡ not (has reached item.slot)
  pub soft : (item : Item) → Contains items item → item.soft ≡ true → Reaches (graph_of catalogue dependencies configuration) target true item.slot
  pub with_words : (item : Item) → Contains items item → item.slot ≡ target → item.options ≡ options_of configuration (name_at catalogue item.slot) ++ words
  pub without_words : (item : Item) → Contains items item → item.slot ≢ target → item.options ≡ options_of configuration (name_at catalogue item.slot)

-- Every plan is lawful.
abbrev pub PlansAreLawful : Type 0
PlansAreLawful =
    (catalogue : List Description) (dependencies : List Pair) (configuration : Configuration) (name : List ℕ) (words : List (List ℕ)) (items : List Item)
    → plan_of catalogue dependencies configuration name words ≡ Ok items
    → IsLawful catalogue dependencies configuration name words items

-- No module of a catalogue's graph names a slot outside.
abbrev pub GraphsAreBounded : Type 0
GraphsAreBounded =
    (catalogue : List Description) (dependencies : List Pair) (configuration : Configuration)
    → is_bounded (graph_of catalogue dependencies configuration) ≡ true
