-- Serves proofs alone: lines of an index, parted by a byte of their keys.
use Rattle.std.specs.Prelude.{◌≡◌, ℕ, suc, ◌+◌, ◌-◌, ◌*◌, ◌<◌, ◌==◌, nat_lt, List, [], ◌∷◌, ◌++◌, filter, length, reverse, slice_get, Option, Some, None}
use Rattle.std.specs.List.{AllByRecursion, flat_map}
use Rattle.kmod_index.specs.ForProofs.{pointed}
use Rattle.kmod_index.specs.Lines.{Keyed}
use Rattle.kmod_query.specs.declared.key_order.Group.{Group}
use Rattle.kmod_query.specs.declared.key_order.Parts.{Parts}
use Rattle.kmod_query.specs.Shown.{shown_index}

-- a number for a byte, 0 for none
abbrev pub code_by : Option ℕ → ℕ
code_by None = 0
code_by (Some byte) = suc byte

abbrev pub code_at : List ℕ → ℕ → ℕ
code_at key place = code_by (slice_get key place)

-- a key begins with a text
abbrev pub HasFront : List ℕ → Keyed → Type 0
HasFront front own = (rest : List ℕ) × (own.key ≡ front ++ rest)

-- keys begin with the same bytes, as many as this number
pub record AreAlike (depth : ℕ) (lines : List Keyed) : Type 0 where
  pub front : List ℕ
  pub long : length front ≡ depth
  pub each : AllByRecursion (HasFront front) lines

abbrev pub lines_of : Group → List Keyed
lines_of group = pointed group.lines.items

abbrev pub IsAlike : Group → Type 0
IsAlike group = AreAlike group.depth (lines_of group)

-- lines by the number of the byte at a place: those with a lesser one, with this one, and with a greater one
abbrev pub less_than : ℕ → ℕ → List Keyed → List Keyed
less_than place code lines = filter (λ own. nat_lt (code_at own.key place) code) lines

abbrev pub same_as : ℕ → ℕ → List Keyed → List Keyed
same_as place code lines = filter (λ own. code_at own.key place == code) lines

abbrev pub greater_than : ℕ → ℕ → List Keyed → List Keyed
greater_than place code lines = filter (λ own. nat_lt code (code_at own.key place)) lines

pub record ArePartsOf (lines : List Keyed) (place code : ℕ) (parts : Parts) : Type 0 where
  pub less : pointed parts.less.items ≡ less_than place code lines
  pub same : pointed parts.same.items ≡ same_as place code lines
  pub greater : pointed parts.greater.items ≡ greater_than place code lines

-- what groups show, the last group first
abbrev pub shown_groups : List Group → List ℕ
shown_groups groups = flat_map (λ group. shown_index (lines_of group)) (reverse groups)

-- a measure of the bytes that are not yet compared
abbrev pub weight : ℕ → List Keyed → ℕ
weight depth [] = 1
weight depth (own ∷ lines) = (length own.key + 1 - depth) * 3 + weight depth lines

abbrev pub weights : List Group → ℕ
weights [] = 0
weights (group ∷ groups) = weight group.depth (lines_of group) + weights groups

-- lines were shown, or stand parted in groups after the older ones
pub record Shows (depth : ℕ) (lines : List Keyed) (before now : List ℕ) (old new : List Group) : Type 0 where
  pub shown : now ++ shown_groups new ≡ before ++ (shown_index lines ++ shown_groups old)
  pub alike : AllByRecursion IsAlike old → AllByRecursion IsAlike new
  pub lighter : weights new < weight depth lines + weights old
