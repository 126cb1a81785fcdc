-- What plans of several names are made from, and which modules are settled: their loads need not be planned again.
use Rattle.std.specs.Prelude.{◌≡◌, ℕ, Bool, true, false, List, length, slice_index_or, Ok, All}
use Rattle.load_plan.specs.declared.items.Item.{Item}
use Rattle.load_plan.specs.declared.reach.Part.{Part}
use Rattle.load_plan.specs.declared.sources.Sources.{Sources}
use Rattle.load_plan.specs.Items.{plan_from}
use Rattle.load_plan.specs.Parts.{AreClosed}
use Rattle.load_plan.specs.Reading.{IsRead}

pub record Outlook : Type 0 where
  pub sources : Sources
  pub settled : List Bool

abbrev pub settled_at : List Bool → ℕ → Bool
settled_at settled m = slice_index_or settled m false

-- there is a plan of the name, and each of its modules is settled
abbrev pub IsSettled : Outlook → List ℕ → List (List ℕ) → Type 0
IsSettled o name words =
    (items : List Item) × (plan_from o.sources name words ≡ Ok items) × All (λ (item : Item). settled_at o.settled item.slot ≡ true) items

-- serves proofs alone: what was read, and that settled modules which are closed name none but themselves
pub record IsOutlook (s : Sources) (part : Part) (settled shut : List Bool) : Type 0 where
  pub read : IsRead s part
  pub long : length settled ≡ length s.catalogue.now
  pub closed : AreClosed part.graph settled shut
