-- What modprobe(8) plans for a name.
use Rattle.std.specs.Prelude.{ℕ, Bool, true, false, List, [], ◌∷◌, ◌++◌, flat_map, codes, Result, Ok, Err}
use Rattle.load_plan.specs.declared.items.Item.{Item}
use Rattle.load_plan.specs.declared.items.PlanError.{PlanError}
use Rattle.load_plan.specs.declared.items.PlanError.TheVariants.{Unknown}
use Rattle.load_plan.specs.LookUp.{found}
use Rattle.load_plan.specs.Items.{plan_of}
use Rattle.modprobe.specs.Setup.{Setup, name_at}
use Rattle.modprobe.specs.Refusals.{plan_refusal}
use Rattle.modprobe.specs.Outcomes.{Outcome, says, refuses}

-- what comes next of a plan, unless it is refused
infixl 10 ◌>>=◌
abbrev pub ◌>>=◌ : {A B : Type 0} → Result A PlanError → (A → Result B PlanError) → Result B PlanError
(Ok x) >>= next = next x
(Err e) >>= next = Err e

abbrev pub if_some : List ℕ → List (List ℕ) → Result (List (List ℕ)) PlanError
if_some name [] = Err (Unknown name)
if_some name (target ∷ targets) = Ok (target ∷ targets)

-- the modules that are found for a name; a name for which none is found is unknown
abbrev pub targets_of : Setup → List ℕ → Result (List (List ℕ)) PlanError
targets_of s name = if_some name (found s.catalogue s.configuration s.aliases.entries name)

-- the items of the plans of these modules, in order, after those that stand there, or the first refusal
abbrev pub items_of_plans : Setup → List (List ℕ) → List Item → List (List ℕ) → Result (List Item) PlanError
items_of_plans s words items [] = Ok items
items_of_plans s words items (target ∷ targets) =
    plan_of s.catalogue s.dependencies s.configuration target words >>= λ more. items_of_plans s words (items ++ more) targets

-- all that is planned for a name without words
abbrev pub whole_plan : Setup → List ℕ → Result (List Item) PlanError
whole_plan s name = targets_of s name >>= λ targets. items_of_plans s [] [] targets

abbrev pub mark_text : Bool → List ℕ
mark_text true = codes "soft"
mark_text false = codes "hard"

-- a space before each word
abbrev pub words_text : List (List ℕ) → List ℕ
words_text words = flat_map (λ word. codes " " ++ word) words

-- the line of an item: its module, whether it is hard or soft, and its words
abbrev pub item_text : Setup → Item → List ℕ
item_text s item =
    codes "load " ++ name_at s item.slot ++ codes " " ++ mark_text item.soft ++ words_text item.options ++ codes "\n"

-- what is answered of a plan: a line for each item, or why there is none
abbrev pub plan_outcome : Setup → Result (List Item) PlanError → Outcome
plan_outcome s (Ok items) = says (flat_map (item_text s) items)
plan_outcome s (Err e) = refuses (plan_refusal e)
