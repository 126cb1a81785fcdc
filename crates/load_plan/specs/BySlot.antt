-- Serves proofs alone: values by slot, of which few differ from the usual one.
use Rattle.std.specs.Prelude.{ℕ, zero, suc, ◌≤◌, List, length, map, slice_index_or}

-- the value of a place: the usual one at 0, else one of the others
abbrev pub value_at : {A : Type 0} → A → List A → ℕ → A
value_at usual own zero = usual
value_at usual own (suc p) = slice_index_or own p usual

abbrev pub values_of : {A : Type 0} → A → List A → List ℕ → List A
values_of usual own places = map (value_at usual own) places

-- each place is one of those
abbrev pub ArePlaces : {A : Type 0} → List A → List ℕ → Type 0
ArePlaces own places = (m : ℕ) → slice_index_or places m 0 ≤ length own
