-- How contracts see places and what stands there.
use Rattle.std.specs.Prelude.{◌≡◌, ℕ, nat_lt, Bool, true, false, List, [], ◌∷◌, ◌++◌, length, Option}
use Rattle.std.specs.List.{list_all}
use Rattle.modprobe_files.specs.declared.system.Entry.{Entry as CodeEntry}
use Rattle.modprobe_files.specs.declared.system.Entry.TheVariants as code_entry
use Rattle.modprobe_files.specs.declared.system.Place.{Place}
use Rattle.modprobe_files.specs.declared.system.Place.TheVariants as code_place
use Rattle.modprobe_files.specs.declared.walk.Stop.{Stop as CodeStop}
use Rattle.modprobe_files.specs.declared.walk.Stop.TheVariants as code_stop
use Rattle.modprobe_files.specs.declared.walk.Resolved.{Resolved as CodeResolved}
use Rattle.modprobe_files.specs.declared.walk.Resolved.TheVariants as code_resolved
use Rattle.modprobe_words.specs.Variable.{bytes_of}
use Rattle.modprobe_files.specs.Rooted.{Entries, Entry, nothing, folder, link, file, IsInside, IsReached, Resolved, is_part, found, lost, behind_file, too_many_links, Stop, at, linked, missing, no_folder}

abbrev pub entry_of : CodeEntry → Entry
entry_of code_entry.Nothing = nothing
entry_of code_entry.Folder = folder
entry_of (code_entry.Link text) = link text.items
entry_of code_entry.File = file

-- without a root a path is taken as it stands; with one, a place lies within it
abbrev pub IsAllowed : Bool → Option Entries → Place → Type 0
IsAllowed is_rooted told (code_place.AsGiven path) = is_rooted ≡ false
IsAllowed is_rooted told (code_place.Below names) = IsInside told (bytes_of names.items)

-- an empty root is none
abbrev pub has_root : List ℕ → Bool
has_root root = nat_lt 0 (length root)

-- the path of a place below a root: a slash before each name
abbrev pub path_below : List ℕ → List (List ℕ) → List ℕ
path_below root [] = root
path_below root (name ∷ names) = path_below (root ++ 47 ∷ name) names

-- how the code's stops stand, with the place where a walk is
abbrev pub stop_of : CodeStop → List (List ℕ) → Stop
stop_of code_stop.At place = at place
stop_of (code_stop.Linked parts) place = linked place (bytes_of parts.items)
stop_of code_stop.Missing place = missing
stop_of code_stop.NoFolder place = no_folder

-- the place where a walk stops lies within the root; after a link it is a folder, and parts are left
abbrev pub IsStopped : Option Entries → CodeStop → List (List ℕ) → Type 0
IsStopped told code_stop.At place = IsInside told place
IsStopped told (code_stop.Linked parts) place = IsReached told place × (list_all is_part (bytes_of parts.items) ≡ true)
IsStopped told code_stop.Missing place = IsInside told place
IsStopped told code_stop.NoFolder place = IsInside told place

abbrev pub resolved_of : CodeResolved → Resolved
resolved_of (code_resolved.Found place) = found (bytes_of place.items)
resolved_of code_resolved.Missing = lost
resolved_of code_resolved.NoFolder = behind_file
resolved_of code_resolved.TooManyLinks = too_many_links

-- a place that was found lies within the root
abbrev pub IsFoundInside : Option Entries → CodeResolved → Type 0
IsFoundInside told (code_resolved.Found place) = IsInside told (bytes_of place.items)
IsFoundInside told code_resolved.Missing = Unit {0}
IsFoundInside told code_resolved.NoFolder = Unit {0}
IsFoundInside told code_resolved.TooManyLinks = Unit {0}
