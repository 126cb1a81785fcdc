-- What modprobe(8) loads and removes, by its plans.
use Rattle.std.specs.Prelude.{ℕ, Bool, false, not, if◌then◌else◌, List, [], ◌∷◌, ◌++◌, filter, Option, Some, None, Result, Ok, Err}
use Rattle.dep_index.specs.Table.{Table, state_of, is_live, is_absent}
use Rattle.dep_index.specs.Catalogue.{slot_named}
use Rattle.load_plan.specs.declared.items.Item.{Item}
use Rattle.load_plan.specs.declared.items.PlanError.{PlanError}
use Rattle.load_plan.specs.Sources.{is_kept}
use Rattle.load_plan.specs.Items.{removal_plan_of}
use Rattle.dep_index.specs.declared.table.states.ModuleState.{ModuleState}
use Rattle.modprobe.specs.declared.request.Aim.{Aim}
use Rattle.modprobe.specs.declared.request.Aim.TheVariants.{Live, Absent}
use Rattle.modprobe.specs.Setup.{Setup, name_at}
use Rattle.modprobe.specs.Refusals.{plan_refusal}
use Rattle.modprobe.specs.Changes.{Change, ◌then◌, one_load, one_removal}
use Rattle.modprobe.specs.Plans.{◌>>=◌, targets_of, items_of_plans}

-- the state is what modprobe makes of a module
abbrev pub has_reached : Aim → ModuleState → Bool
has_reached Live state = is_live state
has_reached Absent state = is_absent state

abbrev pub is_there_at : Aim → Table → Option ℕ → Bool
is_there_at aim t None = false
is_there_at aim t (Some slot) = has_reached aim (state_of t.book slot)

-- the module of a name is live, or absent, as is aimed at; one outside the catalogue is not
abbrev pub is_there : Aim → Setup → Table → List ℕ → Bool
is_there aim s t name = is_there_at aim t (slot_named s.catalogue name)

-- the same change; without its refusal
abbrev pub without_refusal : Change → Change
without_refusal change = (None, change.1)

-- one item of a plan: a live one is skipped, and so is the refusal of a soft one
abbrev pub item_load : Setup → Item → Table → Change
item_load s item t =
    if is_live (state_of t.book item.slot) then (None, t)
    else (if item.soft then without_refusal (one_load s item.slot item.options t) else one_load s item.slot item.options t)

-- the items in order, up to the first that is refused; what was loaded stays
abbrev pub loads : Setup → List Item → Table → Change
loads s [] t = (None, t)
loads s (item ∷ items) t = item_load s item t then (λ u. loads s items u)

-- what is planned for a name and words: for each module that is found and not live
abbrev pub load_plan : Setup → List ℕ → List (List ℕ) → Table → Result (List Item) PlanError
load_plan s name words t =
    targets_of s name >>= λ targets. items_of_plans s words [] (filter (λ target. not (is_there Live s t target)) targets)

-- all is planned before the first change
abbrev pub by_plan : {A : Type 0} → (A → Table → Change) → Result A PlanError → Table → Change
by_plan go (Err e) t = (Some (plan_refusal e), t)
by_plan go (Ok plan) t = go plan t

-- what modprobe loads for a name
abbrev pub modprobe : Setup → List ℕ → List (List ℕ) → Table → Change
modprobe s name words t = by_plan (loads s) (load_plan s name words t) t

-- one module of the rest of a removal plan: one that a remove line keeps is skipped, and so is a refusal
abbrev pub rest_removal : Setup → ℕ → Table → Table
rest_removal s slot t = if is_kept s.configuration (name_at s slot) then t else (one_removal s slot t).1

abbrev pub rest_removals : Setup → List ℕ → Table → Table
rest_removals s [] t = t
rest_removals s (slot ∷ slots) t = rest_removals s slots (rest_removal s slot t)

-- one removal plan: its module, and then the rest; if the module is absent by now there is nothing to do
abbrev pub plan_removal : Setup → List ℕ → Table → Change
plan_removal s [] t = (None, t)
plan_removal s (slot ∷ rest) t =
    if is_absent (state_of t.book slot) then (None, t)
    else (one_removal s slot t then (λ u. (None, rest_removals s rest u)))

-- the removal plans in order, up to the first of which the module is refused
abbrev pub removals : Setup → List (List ℕ) → Table → Change
removals s [] t = (None, t)
removals s (plan ∷ plans) t = plan_removal s plan t then (λ u. removals s plans u)

-- the removal plans of these modules, in order, after those that stand there, or the first refusal
abbrev pub removal_plans_of : Setup → List (List ℕ) → List (List ℕ) → Result (List (List ℕ)) PlanError
removal_plans_of s plans [] = Ok plans
removal_plans_of s plans (target ∷ targets) =
    removal_plan_of s.catalogue s.dependencies s.configuration target >>= λ plan. removal_plans_of s (plans ++ plan ∷ []) targets

-- the removal plans for a name: of each module that is found and not absent
abbrev pub removal_plans : Setup → List ℕ → Table → Result (List (List ℕ)) PlanError
removal_plans s name t =
    targets_of s name >>= λ targets. removal_plans_of s [] (filter (λ target. not (is_there Absent s t target)) targets)

-- what modprobe removes for a name
abbrev pub modprobe_remove : Setup → List ℕ → Table → Change
modprobe_remove s name t = by_plan (removals s) (removal_plans s name t) t
