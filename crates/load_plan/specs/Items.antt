-- What a command loads for a name, and what it removes.
use Rattle.std.specs.Prelude.{◌≡◌, ℕ, ◌==◌, if◌then◌else◌, List, [], ◌++◌, map, Result, Ok, Err}
use Rattle.text_parts.specs.Text.{normal_form}
use Rattle.dep_index.specs.Catalogue.{Description, description_at}
use Rattle.dep_index.specs.Dependencies.{Pair}
use Rattle.modprobe_conf.specs.Configuration.{Configuration, options_of}
use Rattle.load_plan.specs.declared.sources.Sources.{Sources}
use Rattle.load_plan.specs.declared.graph.Target.{Target}
use Rattle.load_plan.specs.declared.graph.Target.TheVariants.{Slot, Missing}
use Rattle.load_plan.specs.declared.items.Item.{Item}
use Rattle.load_plan.specs.declared.items.PlanError.{PlanError}
use Rattle.load_plan.specs.declared.items.PlanError.TheVariants as error
use Rattle.load_plan.specs.declared.plans.PlanStep.{PlanStep}
use Rattle.load_plan.specs.declared.refusal.PlanRefusal.{PlanRefusal}
use Rattle.load_plan.specs.declared.refusal.PlanRefusal.TheVariants.{Cycle, Install, Unknown}
use Rattle.load_plan.specs.Plan.{plan, removal_plan}
use Rattle.load_plan.specs.Sources.{graph_of, target_of, is_kept}

abbrev pub name_at : List Description → ℕ → List ℕ
name_at catalogue m = (description_at catalogue m).name

-- a refusal with the name of its module, in normal form
abbrev pub error_of : List Description → PlanRefusal → PlanError
error_of catalogue (Cycle m) = error.Cycle (normal_form (name_at catalogue m))
error_of catalogue (Install m) = error.Install (normal_form (name_at catalogue m))
error_of catalogue (Unknown name) = error.Unknown name

abbrev pub named : {A B : Type 0} → List Description → (A → B) → Result A PlanRefusal → Result B PlanError
named catalogue view (Ok x) = Ok (view x)
named catalogue view (Err refusal) = Err (error_of catalogue refusal)

-- an item of a plan: the words of the options lines of its name, and for the target the words of the command after them
abbrev pub item_of : List Description → Configuration → ℕ → List (List ℕ) → PlanStep → Item
item_of catalogue configuration target words step =
    record {
      slot = step.slot;
      soft = step.soft;
      options = options_of configuration (name_at catalogue step.slot) ++ (if step.slot == target then words else []);
    }

abbrev pub plan_at : List Description → List Pair → Configuration → List (List ℕ) → Target → Result (List Item) PlanError
plan_at catalogue dependencies configuration words (Missing name) = Err (error.Unknown name)
plan_at catalogue dependencies configuration words (Slot m) =
    named catalogue (map (item_of catalogue configuration m words)) (plan (graph_of catalogue dependencies configuration) (Slot m))

-- what a command loads for a name with words
abbrev pub plan_of : List Description → List Pair → Configuration → List ℕ → List (List ℕ) → Result (List Item) PlanError
plan_of catalogue dependencies configuration name words =
    plan_at catalogue dependencies configuration words (target_of catalogue (normal_form name))

abbrev pub removal_at : List Description → List Pair → Configuration → Target → Result (List ℕ) PlanError
removal_at catalogue dependencies configuration (Missing name) = Err (error.Unknown name)
removal_at catalogue dependencies configuration (Slot m) =
    named catalogue (λ order. order) (removal_plan (graph_of catalogue dependencies configuration) (Slot m))

-- what a command removes for a name; a remove line is looked for by the name, before the module
abbrev pub removal_plan_of : List Description → List Pair → Configuration → List ℕ → Result (List ℕ) PlanError
removal_plan_of catalogue dependencies configuration name =
    if is_kept configuration (normal_form name)
    then Err (error.Remove (normal_form name))
    else removal_at catalogue dependencies configuration (target_of catalogue (normal_form name))

-- both, of what plans are made from
abbrev pub plan_from : Sources → List ℕ → List (List ℕ) → Result (List Item) PlanError
plan_from s name words = plan_of s.catalogue.now s.dependencies.now s.configuration.now name words

abbrev pub removal_plan_from : Sources → List ℕ → Result (List ℕ) PlanError
removal_plan_from s name = removal_plan_of s.catalogue.now s.dependencies.now s.configuration.now name

-- The answer of a call is what the definition gives, unless memory ran out.
abbrev pub FailsAs : {A : Type 0} → PlanError → Result A PlanError → Type 0
FailsAs error.Memory given = Unit {0}
FailsAs e given = given ≡ Err e

abbrev pub Answers : {X A : Type 0} → (X → A) → Result X PlanError → Result A PlanError → Type 0
Answers view (Ok x) given = given ≡ Ok (view x)
Answers view (Err e) given = FailsAs e given
