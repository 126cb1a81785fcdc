-- The modules that are found for the words of a line.
use Rattle.std.specs.Prelude.{◌≡◌, ℕ, ◌==◌, if◌then◌else◌, List, [], ◌∷◌, ◌++◌, ⊤, Option, Some, None, Result, Ok, Err}
use Rattle.std.specs.List.{list_any}
use Rattle.text_parts.specs.Text.{normal_form}
use Rattle.dep_index.specs.Catalogue.{slot_named}
use Rattle.load_plan.specs.LookUp.{found}
use Rattle.modprobe.specs.Setup.{Setup}
use Rattle.held_lines.specs.declared.found.FoundError.{FoundError}
use Rattle.held_lines.specs.declared.found.FoundError.TheVariants.{Unknown, Memory}

-- the slots of modules, or the name for which there is none
abbrev pub Found : Type 0
Found = Result (List ℕ) (List ℕ)

-- what comes next, unless a name was unknown
infixl 10 ◌>>=◌
abbrev pub ◌>>=◌ : Found → (List ℕ → Found) → Found
(Ok slots) >>= next = next slots
(Err name) >>= next = Err name

-- a slot after others, unless it stands there already
abbrev pub with_slot : List ℕ → ℕ → List ℕ
with_slot slots slot = if list_any (λ other. other == slot) slots then slots else slots ++ slot ∷ []

abbrev pub add_slot : List ℕ → List ℕ → Option ℕ → Found
add_slot slots target None = Err target
add_slot slots target (Some slot) = Ok (with_slot slots slot)

-- the slots of targets after others, or the first target that the catalogue has not
abbrev pub add_targets : Setup → List ℕ → List (List ℕ) → Found
add_targets s slots [] = Ok slots
add_targets s slots (target ∷ targets) = add_slot slots target (slot_named s.catalogue target) >>= λ more. add_targets s more targets

abbrev pub add_found : Setup → List ℕ → List ℕ → List (List ℕ) → Found
add_found s slots name [] = Err name
add_found s slots name (target ∷ targets) = add_targets s slots (target ∷ targets)

-- the slots of the modules that are found for a word, after others
abbrev pub add_word : Setup → List ℕ → List ℕ → Found
add_word s slots word = add_found s slots (normal_form word) (found s.catalogue s.configuration s.aliases.entries (normal_form word))

abbrev pub add_words : Setup → List ℕ → List (List ℕ) → Found
add_words s slots [] = Ok slots
add_words s slots (word ∷ words) = add_word s slots word >>= λ more. add_words s more words

-- the slots of the modules that are found for words, in the order of the words, each once
abbrev pub found_for : Setup → List (List ℕ) → Found
found_for s words = add_words s [] words

-- why nothing was found, unless memory ran out
abbrev pub FailsAs : FoundError → Found → Type 0
FailsAs (Unknown name) given = given ≡ Err name
FailsAs Memory given = ⊤
