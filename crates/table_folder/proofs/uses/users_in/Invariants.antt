use Rattle.std.proofs.Common.{◌≡◌, ◌++◌, length}
use Rattle.std.specs.List.{flat_map}
use Rattle.text_parts.specs.Text.{texts_of, words}
use Rattle.table_folder.specs.Uses.{users_in, users_of}
use Rattle.table_folder.proofs.uses.users_in.Given as goal

-- the modules of the lines that are left follow those that were found
abbrev pub invariant-lines : goal.invariant-lines
invariant-lines l =
    texts_of l.found.items ++ flat_map (λ line. users_of l.name (words line)) l.lines ≡ users_in l.name l.fn.text

abbrev pub decreases-lines : goal.decreases-lines
decreases-lines l = length l.lines
