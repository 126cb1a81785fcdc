-- Users of modules, found for all modules at once. This file serves proofs alone.
use Rattle.std.specs.Prelude.{◌≡◌, ℕ, ◌<◌, ◌≤◌, ◌==◌, Bool, true, false, List, [], ◌∷◌, ◌++◌, length, take, slice_index, slice_index_or, slice_set, filter, All}
use Rattle.std.specs.List.{list_any}
use Rattle.dep_index.specs.Catalogue.{Description, modules_of}
use Rattle.dep_index.specs.Table.{Table, needs_slot}
use Rattle.proc_modules.specs.Listings.{newest_users}

-- each element stands once
abbrev pub EachOnce : List ℕ → Type 0
EachOnce xs = (j : ℕ) → j < length xs → list_any (λ n. n == slice_index xs j) (take j xs) ≡ false

-- a user, if it is one
abbrev pub if_user : Bool → ℕ → List ℕ
if_user true user = user ∷ []
if_user false user = []

-- the user stands at the end of the row of a slot
abbrev pub with_user_at : List (List ℕ) → ℕ → ℕ → List (List ℕ)
with_user_at rows slot user = slice_set rows slot (slice_index_or rows slot [] ++ user ∷ [])

-- the user stands at the end of the rows of its needs
abbrev pub WithUser : List (List ℕ) → List (List ℕ) → List ℕ → ℕ → Type 0
WithUser old new needs user =
    (slot : ℕ) → slot < length old → slice_index_or new slot [] ≡ slice_index_or old slot [] ++ if_user (list_any (λ n. n == slot) needs) user

-- the row of each slot has those of the modules that need it, in their order
abbrev pub HaveUsers : List Description → List ℕ → List (List ℕ) → Type 0
HaveUsers catalogue modules rows =
    (slot : ℕ) → slot < length catalogue → slice_index_or rows slot [] ≡ filter (needs_slot (modules_of catalogue) slot) modules

-- these are the users of a module, the newest first
pub record IsListed (catalogue : List Description) (table : Table) (slot : ℕ) (users : List ℕ) : Type 0 where
  pub inside : slot < length catalogue
  pub known : slot < length (modules_of catalogue)
  pub newest : users ≡ newest_users catalogue table slot
  pub slots : All (λ u. u < length catalogue) users
  pub few : length users ≤ 65535

-- the rows have the users of each of these modules
abbrev pub AllListed : List Description → Table → List ℕ → List (List ℕ) → Type 0
AllListed catalogue table modules rows =
    (i : ℕ) → i < length modules
    → (slice_index modules i < length rows)
    × IsListed catalogue table (slice_index modules i) (slice_index_or rows (slice_index modules i) [])
