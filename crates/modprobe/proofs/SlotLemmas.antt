-- A slot that a name has is a slot of the table's catalogue.
use Rattle.std.proofs.Common.{arith, ◌≡◌, ℕ, ◌<◌, List, [], length, Some}
use Rattle.std.proofs.lemmas.List.Quantifiers.{position-Some}
use Rattle.std.specs.Str.{bytes_eq}
use Rattle.dep_index.proofs.SlotLemmas.{length-modules_of}
use Rattle.dep_index.specs.Catalogue.{Description, described, slot_named, modules_of}

pub named_below : (modules : List Description) (name : List ℕ) (m : ℕ) → slot_named modules name ≡ Some m → m < length modules
named_below modules name m found = (position-Some (λ (d : Description). bytes_eq name d.name) modules m (described []) found).0

-- A table has a slot for each module of its catalogue.
pub modules_of_length : (modules : List Description) → length (modules_of modules) ≡ length modules
modules_of_length modules = length-modules_of modules

pub known_below : (modules : List Description) (m : ℕ) → m < length modules → m < length (modules_of modules)
known_below modules m below = omega (arith, below, modules_of_length modules)

pub slot_below : (modules : List Description) (name : List ℕ) (m : ℕ) → slot_named modules name ≡ Some m → m < length (modules_of modules)
slot_below modules name m found = known_below modules m (named_below modules name m found)
