-- A catalogue's slots as the list of their modules, and who needs each.
use Rattle.std.specs.Prelude.{ℕ, ◌≡◌, ◌==◌, ◌≤◌, Bool, true, List, [], map, length, slice_index_or}
use Rattle.std.specs.Global.{Vec}
use Rattle.std.specs.List.{list_any}
use Rattle.dep_index.specs.declared.table.slots.Slot.{Slot}
use Rattle.dep_index.specs.Table.{Module, needs_slot}

-- a slot of the program, as a module
abbrev pub module_in : Slot → Module
module_in s = record { needs = s.needs.items; unknown_symbol = s.unknown_symbol; permanent = s.permanent }

-- all slots, as modules
abbrev pub modules_in : List Slot → List Module
modules_in slots = map module_in slots

-- the rows of the program, as lists
abbrev pub rows_in : List (Vec ℕ) → List (List ℕ)
rows_in rows = map (λ r. r.items) rows

-- slot u is noted in the row of slot m
abbrev pub is_noted : List (List ℕ) → ℕ → ℕ → Bool
is_noted rows m u = list_any (λ s. s == u) (slice_index_or rows m [])

-- whoever needs a slot is noted in its row
abbrev pub AreNoted : List Module → List (List ℕ) → Type 0
AreNoted modules rows = (m u : ℕ) → needs_slot modules m u ≡ true → is_noted rows m u ≡ true

-- what was noted still is
abbrev pub AreKept : List (List ℕ) → List (List ℕ) → Type 0
AreKept old new = (m u : ℕ) → is_noted old m u ≡ true → is_noted new m u ≡ true

-- slot u is noted in the rows of its needs
abbrev pub AreNotedFor : List ℕ → List (List ℕ) → ℕ → Type 0
AreNotedFor needs rows u = (m : ℕ) → list_any (λ n. n == m) needs ≡ true → is_noted rows m u ≡ true

-- what holds of the slots and the rows of their users
pub record IsIndexed (slots : List Slot) (users : List (Vec ℕ)) : Type 0 where
  pub few : length slots ≤ 65535
  pub noted : AreNoted (modules_in slots) (rows_in users)
