-- Who has the lock of a file, by /proc/locks (proc(5)).
use Rattle.std.specs.Prelude.{ℕ, ◌&&◌, if◌then◌else◌, List, ◌∷◌, codes, Option, Some, None}
use Rattle.std.specs.List.{filter_map}
use Rattle.std.specs.Str.{bytes_eq}
use Rattle.std.specs.Str.Lines.{lines}
use Rattle.text_parts.specs.Text.{words}

-- the process that the words of a line name, if it has this file by flock(2); of one that waits, `->` stands before FLOCK
abbrev pub locker_of : List ℕ → List (List ℕ) → Option (List ℕ)
locker_of file (number ∷ kind ∷ advice ∷ access ∷ process ∷ place ∷ range) =
    if bytes_eq kind (codes "FLOCK") && bytes_eq place file then Some process else None
locker_of file _ = None

-- the processes that the lines of a text name so, in their order
abbrev pub lockers_in : List ℕ → List ℕ → List (List ℕ)
lockers_in file text = filter_map (λ line. locker_of file (words line)) (lines text)
