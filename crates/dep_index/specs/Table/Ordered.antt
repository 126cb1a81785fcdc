-- What an order of loading keeps. It serves proofs alone.
use Rattle.std.specs.Prelude.{ℕ, ◌≡◌, ◌≢◌, ◌==◌, ◌*◌, ◌<◌, ◌≤◌, Bool, true, not, List, length, take, drop, filter, count_by, slice_index}
use Rattle.std.specs.Global.{Vec}
use Rattle.std.specs.Vec.{vec_capacity}

-- the slots in their order, and how many there can be
pub record Ordered : Type 0 where
  pub slots : List ℕ
  pub room : ℕ

-- the entry is a slot, and no gap
abbrev pub is_slot : ℕ → Bool
is_slot entry = not (entry == 65535)

-- the entries without the gaps
abbrev pub slots_in : List ℕ → List ℕ
slots_in entries = filter is_slot entries

-- the slots have numbers below this
abbrev pub AreWithin : ℕ → List ℕ → Type 0
AreWithin room entries = (i : ℕ) → i < length entries → is_slot (slice_index entries i) ≡ true → slice_index entries i < room

-- a slot of the entries stands at the place that is written down for it alone, unless it is marked as repeated
abbrev pub IsPlaced : List ℕ → List ℕ → Type 0
IsPlaced places entries =
    (i : ℕ) → i < length entries → is_slot (slice_index entries i) ≡ true
    → slice_index places (slice_index entries i) ≢ 4294967295 → slice_index places (slice_index entries i) ≡ i

-- a count for each block of 256 entries: how many of them are slots
abbrev pub IsCounted : List ℕ → List ℕ → Type 0
IsCounted counts entries = (block : ℕ) → slice_index counts block ≡ count_by is_slot (take 256 (drop (block * 256) entries))

-- what places and counts say of the entries
pub record IsSound (entries places counts : List ℕ) : Type 0 where
  pub within : AreWithin (length places) entries
  pub placed : IsPlaced places entries
  pub counted : IsCounted counts entries

-- what holds of the vectors of an order
pub record IsKept (entries spare : Vec ℕ) (places counts : List ℕ) : Type 0 where
  pub sound : IsSound entries.items places counts
  pub few : length places ≤ 65535
  pub room : 2 * length places ≤ vec_capacity entries
  pub spare_room : 2 * length places ≤ vec_capacity spare
  pub blocks : 2 * length places ≤ 256 * length counts
  pub used : length entries.items ≤ 2 * length places

-- what holds of an order
pub record IsOrder (entries spare : Vec ℕ) (places counts : List ℕ) (len : ℕ) : Type 0 where
  pub kept : IsKept entries spare places counts
  pub len_is : len ≡ length (slots_in entries.items)
