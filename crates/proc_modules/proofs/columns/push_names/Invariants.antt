use Rattle.std.proofs.Common.{◌≡◌, ◌++◌, take}
use Rattle.std.specs.List.{join_with_byte}
use Rattle.proc_modules.specs.Listings.{names_of}
use Rattle.proc_modules.proofs.columns.push_names.Given as goal

abbrev pub invariant-loop-i : goal.invariant-loop-i
invariant-loop-i l = l.text.items ≡ l.initial.text.items ++ join_with_byte 44 (names_of l.catalogue (take l.i l.slots))
