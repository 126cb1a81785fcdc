-- The slots of a catalogue are those of the table over it.
use Rattle.std.proofs.Common.{◌≡◌, ℕ, ◌<◌, List, [], length, All, Some, arith}
use Rattle.std.proofs.lemmas.List.Quantifiers.{position-Some}
use Rattle.std.specs.Str.{bytes_eq}
use Rattle.dep_index.specs.Catalogue.{Description, described, slot_named, modules_of}
use Rattle.dep_index.proofs.SlotLemmas.{length-modules_of}

pub known_below : (catalogue : List Description) (m : ℕ) → m < length catalogue → m < length (modules_of catalogue)
known_below catalogue m below = omega (arith, below, length-modules_of catalogue)

pub named_below : (catalogue : List Description) (name : List ℕ) (m : ℕ) → slot_named catalogue name ≡ Some m → m < length catalogue
named_below catalogue name m found = (position-Some (λ (d : Description). bytes_eq name d.name) catalogue m (described []) found).0

pub all_below : (catalogue : List Description) (slots : List ℕ) → All (λ m. m < length (modules_of catalogue)) slots → All (λ m. m < length catalogue) slots
all_below catalogue slots known k d below = omega (arith, known k d below, length-modules_of catalogue)
