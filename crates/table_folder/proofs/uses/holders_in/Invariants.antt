use Rattle.std.proofs.Common.{◌≡◌, ◌++◌, length, map}
use Rattle.text_parts.specs.Text.{texts_of}
use Rattle.table_folder.specs.Uses.{first_word, holders_in}
use Rattle.table_folder.proofs.uses.holders_in.Given as goal

-- the holders of the lines that are left follow those that were found
abbrev pub invariant-lines : goal.invariant-lines
invariant-lines l = texts_of l.found.items ++ map first_word l.lines ≡ holders_in l.fn.text

abbrev pub decreases-lines : goal.decreases-lines
decreases-lines l = length l.lines
