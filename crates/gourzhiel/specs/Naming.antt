-- What the calls on a catalogue tell.
use Rattle.std.specs.Prelude.{◌≡◌, ℕ, ◌<◌, ◌≤◌, ◌==◌, ◌&&◌, nat_lt, Bool, true, List, length, take, drop, slice_index, Result, Ok, Err, Option, MatchOption, MatchBool}
use Rattle.dep_index.specs.Catalogue.{Description, Refusal, description_at, needs_of}
use Rattle.gourzhiel.specs.Numbers.{fault_at, out_of_memory, out_of_range, unknown_name, too_short}

-- why a text was not read: there was no memory, and no line is told; or the text has this fault first, at this line
abbrev pub FaultTold : ℕ → ℕ → ℕ → Result (List Description) (Refusal × ℕ) → Type 0
FaultTold number was line read =
    MatchBool (number == out_of_memory) (line ≡ was) (MatchOption (fault_at number) ⊥ (λ fault. read ≡ Err (fault, line)))

-- the handle after a text was read: it is full and holds what the text says, or it is as full as it was
abbrev pub ReadInto : Result (List Description) (Refusal × ℕ) → Bool → ℕ → ℕ → ℕ → Bool → List Description → Type 0
ReadInto read was_full number was line full held =
    MatchBool (number == 0) ((full ≡ true) × (read ≡ Ok held) × (line ≡ was)) ((full ≡ was_full) × FaultTold number was line read)

-- the slot that was found; or none was, and what was there stays
abbrev pub SlotFound : Option ℕ → ℕ → ℕ → ℕ → Type 0
SlotFound found was number slot = MatchOption found ((number ≡ unknown_name) × (slot ≡ was)) (λ s. (number ≡ 0) × (slot ≡ s))

-- the same of a name, for whose normal form there may have been no memory
abbrev pub SlotTold : Option ℕ → ℕ → ℕ → ℕ → Type 0
SlotTold found was number slot = MatchBool (number == out_of_memory) (slot ≡ was) (SlotFound found was number slot)

-- the need at a place of a slot's needs, or what was there
abbrev pub NeedTold : List Description → ℕ → ℕ → ℕ → ℕ → ℕ → Type 0
NeedTold held slot place was number need =
    MatchBool (nat_lt slot (length held) && nat_lt place (length (needs_of held slot)))
    ((number ≡ 0) × (need ≡ slice_index (needs_of held slot) place)) ((number ≡ out_of_range) × (need ≡ was))

-- the name is written to the front of the buffer, and its length is told
pub record IsNamed (name was buffer : List ℕ) (long : ℕ) : Type 0 where
  pub room : length name ≤ length was
  pub written : take long buffer ≡ name
  pub rest : drop long buffer ≡ drop long was

-- the buffer is too short: the length is told
pub record IsShort (name was buffer : List ℕ) (long : ℕ) : Type 0 where
  pub short : length was < length name
  pub told : long ≡ length name
  pub same : buffer ≡ was

-- the name of a slot
abbrev pub NameTold : List Description → ℕ → List ℕ → ℕ → ℕ → List ℕ → ℕ → Type 0
NameTold held slot was was_long number buffer long =
    MatchBool (number == out_of_range) ((length held ≤ slot) × (buffer ≡ was) × (long ≡ was_long))
    ((slot < length held)
    × MatchBool (number == too_short) (IsShort (description_at held slot).name was buffer long)
    ((number ≡ 0) × IsNamed (description_at held slot).name was buffer long))
