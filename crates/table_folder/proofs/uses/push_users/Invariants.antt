use Rattle.std.proofs.Common.{◌≡◌, ◌++◌, filter, take}
use Rattle.text_parts.specs.Text.{texts_of}
use Rattle.table_folder.specs.Uses.{is_user}
use Rattle.table_folder.proofs.uses.push_users.Given as goal

-- the modules of the parts so far stand behind what was there
abbrev pub invariant-loop-part : goal.invariant-loop-part
invariant-loop-part l = texts_of l.found.items ≡ texts_of l.fn.found.items ++ filter is_user (texts_of (take l.part-index l.parts))
