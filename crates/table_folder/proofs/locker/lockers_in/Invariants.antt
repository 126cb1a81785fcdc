use Rattle.std.proofs.Common.{◌≡◌, ◌++◌, length}
use Rattle.std.specs.List.{filter_map}
use Rattle.text_parts.specs.Text.{texts_of, words}
use Rattle.table_folder.specs.Locks.{locker_of, lockers_in}
use Rattle.table_folder.proofs.locker.lockers_in.Given as goal

-- the processes of the lines that are left follow those that were found
abbrev pub invariant-lines : goal.invariant-lines
invariant-lines l =
    texts_of l.found.items ++ filter_map (λ line. locker_of l.file (words line)) l.lines ≡ lockers_in l.file l.fn.text

abbrev pub decreases-lines : goal.decreases-lines
decreases-lines l = length l.lines
