-- Where a path leads below a root, as a change of root has it (path_resolution(7), chroot(2)).
use Rattle.std.specs.Prelude.{◌≡◌, ℕ, zero, suc, ◌-◌, ◌<◌, ◌==◌, ◌&&◌, ◌||◌, not, Bool, true, if◌then◌else◌, nat_lt, nat_eq, List, [], ◌∷◌, ◌++◌, length, take, codes, Option, Some}
use Rattle.std.specs.List.{list_all, list_any, slice_split, starts_with}
use Rattle.std.specs.Str.{bytes_eq}

-- what a name of a folder leads to: nothing, a folder, a link with its text, or another file
pub data Entry : Type 0 where
  nothing : Entry
  folder : Entry
  link : List ℕ → Entry
  file : Entry

-- what stands at each place; a place is the names that lead to it from the root
abbrev pub Entries : Type 0
Entries = List (List ℕ) → Entry

abbrev pub is_slash : ℕ → Bool
is_slash byte = byte == 47

-- what stands before, between and behind slashes
abbrev pub parts_of : List ℕ → List (List ℕ)
parts_of path = slice_split is_slash path

-- a part that stays where it is
abbrev pub is_here : List ℕ → Bool
is_here part = not (nat_lt 0 (length part)) || bytes_eq part (codes ".")

-- a part that leads to the folder above
abbrev pub is_up : List ℕ → Bool
is_up part = bytes_eq part (codes "..")

-- a part has no slash
abbrev pub is_part : List ℕ → Bool
is_part part = not (list_any is_slash part)

-- a part that is the name of an entry: not empty, neither `.` nor `..`, and without a slash
abbrev pub is_name : List ℕ → Bool
is_name part = not (is_here part) && not (is_up part) && is_part part

-- the folder that holds a place; above the root is the root
abbrev pub above : List (List ℕ) → List (List ℕ)
above place = take (length place - 1) place

-- one part more: where it leads to, and what stands there
pub record Step : Type 0 where
  pub place : List (List ℕ)
  pub entry : Entry

unfoldable pub step_by : Entries → List (List ℕ) → List ℕ → Step
step_by entries place part =
    if is_here part then record { place = place; entry = folder }
    else (if is_up part then record { place = above place; entry = folder }
    else record { place = place ++ part ∷ []; entry = entries (place ++ part ∷ []) })

-- where a walk stops: at a place, at a link, from where these parts are left, where nothing is, or behind what is no folder
pub data Stop : Type 0 where
  at : List (List ℕ) → Stop
  linked : List (List ℕ) → List (List ℕ) → Stop
  missing : Stop
  no_folder : Stop

-- an absolute link begins at the root, and another one in the folder that holds it
abbrev pub start_of : List ℕ → List (List ℕ) → List (List ℕ)
start_of target place = if starts_with nat_eq target (codes "/") then [] else above place

-- what a step leads to, before what is left of a path
abbrev pub stepped : Entry → List (List ℕ) → List (List ℕ) → Stop → Stop
stepped nothing place rest later = missing
stepped folder place rest later = later
stepped (link target) place rest later = linked (start_of target place) (parts_of target ++ rest)
stepped file place [] later = at place
stepped file place (part ∷ rest) later = no_folder

-- the parts of a path, one after another, as far as the first link
abbrev pub walk : Entries → List (List ℕ) → List (List ℕ) → Stop
walk entries place [] = at place
walk entries place (part ∷ rest) =
    stepped (step_by entries place part).entry (step_by entries place part).place rest
    (walk entries (step_by entries place part).place rest)

-- what a path leads to: a place, nothing, or an error (path_resolution(7))
pub data Resolved : Type 0 where
  found : List (List ℕ) → Resolved
  lost : Resolved
  behind_file : Resolved
  too_many_links : Resolved

abbrev pub gone_on : Stop → (List (List ℕ) → List (List ℕ) → Resolved) → Resolved
gone_on (at place) later = found place
gone_on (linked place parts) later = later place parts
gone_on missing later = lost
gone_on no_folder later = behind_file

-- parts from a place on, in this many walks
unfoldable pub resolved_from : Entries → ℕ → List (List ℕ) → List (List ℕ) → Resolved
resolved_from entries zero place parts = too_many_links
resolved_from entries (suc walks) place parts = gone_on (walk entries place parts) (resolved_from entries walks)

-- a path from the root on, over 40 links at most
abbrev pub resolved : Entries → List ℕ → Resolved
resolved entries path = resolved_from entries 41 [] (parts_of path)

-- up to this many names, each way is a folder and no link, as far as is known what stands there
abbrev pub ArePassed : Option Entries → List (List ℕ) → ℕ → Type 0
ArePassed told place count =
    (entries : Entries) → told ≡ Some entries → (k : ℕ) → 0 < k → k < count → entries (take k place) ≡ folder

-- a place within the root: each of its names is one of an entry, and what leads to it are folders and no links
pub record IsInside (told : Option Entries) (place : List (List ℕ)) : Type 0 where
  pub names : list_all is_name place ≡ true
  pub way : ArePassed told place (length place)

-- such a place that is a folder itself
pub record IsReached (told : Option Entries) (place : List (List ℕ)) : Type 0 where
  pub names : list_all is_name place ≡ true
  pub way : ArePassed told place (suc (length place))
