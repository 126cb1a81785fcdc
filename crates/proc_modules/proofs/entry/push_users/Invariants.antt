use Rattle.std.proofs.Common.{◌≡◌, ◌++◌, take, flat_map}
use Rattle.proc_modules.specs.LineText.{with_comma}
use Rattle.proc_modules.specs.Listings.{names_of}
use Rattle.proc_modules.proofs.entry.push_users.Given as goal

abbrev pub invariant-loop-user : goal.invariant-loop-user
invariant-loop-user l = l.text.items ≡ l.initial.text.items ++ flat_map with_comma (names_of l.catalogue (take l.user-index l.users))
