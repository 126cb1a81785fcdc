-- Hashed states answer as a walk over their pairs does.
use Rattle.std.proofs.Common.{◌≡◌, ℕ, List, [], ◌∷◌, Bool, true, false, cond, map, Some, Vec, refl, ap}
use Rattle.std.specs.Global.{Global}
use Rattle.std.specs.Str.{bytes_eq}
use Rattle.std.specs.Map.{lookup}
use Rattle.indexmap.specs.IndexMap.{insert_entry}
use Rattle.kmod_query.specs.declared.states.ModuleStatus.{ModuleStatus}
use Rattle.kmod_query.specs.States.{status_in, with_status}

abbrev pub Pair : Type 0
Pair = Vec ℕ Global × ModuleStatus

abbrev pub pair_of : Pair → List ℕ × ModuleStatus
pair_of entry = (entry.0.items, entry.1)

pub status_in-pairs : (entries : List Pair) (name : List ℕ) → lookup (λ k. bytes_eq name k.items) entries ≡ status_in (map pair_of entries) name
status_in-pairs [] name = refl
status_in-pairs (entry ∷ entries) name = next (bytes_eq name entry.0.items) (status_in-pairs entries name)
  where
    next : (is_own : Bool) → lookup (λ k. bytes_eq name k.items) entries ≡ status_in (map pair_of entries) name → cond is_own (Some entry.1) (lookup (λ k. bytes_eq name k.items) entries) ≡ cond is_own (Some entry.1) (status_in (map pair_of entries) name)
    next true h = refl
    next false h = h

pub with_status-pairs : (entries : List Pair) (key : Vec ℕ Global) (status : ModuleStatus) → map pair_of (insert_entry (λ a b. bytes_eq a.items b.items) entries key status) ≡ with_status (map pair_of entries) key.items status
with_status-pairs [] key status = refl
with_status-pairs (entry ∷ entries) key status = next (bytes_eq key.items entry.0.items) (with_status-pairs entries key status)
  where
    next : (is_own : Bool)
        → map pair_of (insert_entry (λ a b. bytes_eq a.items b.items) entries key status) ≡ with_status (map pair_of entries) key.items status
        → map pair_of (cond is_own ((entry.0, status) ∷ entries) (entry ∷ insert_entry (λ a b. bytes_eq a.items b.items) entries key status))
        ≡ cond is_own ((entry.0.items, status) ∷ map pair_of entries) (pair_of entry ∷ with_status (map pair_of entries) key.items status)
    next true h = refl
    next false h = ap (λ l. pair_of entry ∷ l) h
