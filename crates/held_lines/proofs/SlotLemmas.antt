-- A table has a slot for each module of its catalogue.
use Rattle.std.proofs.Common.{arith, ◌≡◌, ℕ, ◌<◌, List, length}
use Rattle.std.proofs.lemmas.List.Elements.{All-weaker}
use Rattle.std.specs.List.{All}
use Rattle.dep_index.proofs.SlotLemmas.{length-modules_of}
use Rattle.dep_index.specs.Catalogue.{Description, modules_of}

pub modules_of_length : (modules : List Description) → length (modules_of modules) ≡ length modules
modules_of_length modules = length-modules_of modules

-- slots of the catalogue are slots of the table
pub all_below : (modules : List Description) (slots : List ℕ) → All (λ (m : ℕ). m < length modules) slots → All (λ (m : ℕ). m < length (modules_of modules)) slots
all_below modules slots all = All-weaker (λ (m : ℕ). m < length modules) (λ (m : ℕ). m < length (modules_of modules)) (λ m below. omega (arith, modules_of_length modules)) slots all
