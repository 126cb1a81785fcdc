use Rattle.std.proofs.Common.{◌≡◌, ◌++◌, take, flat_map}
use Rattle.proc_modules.specs.Listings.{lsmod_line}
use Rattle.proc_modules.proofs.listing.lsmod_text.Given as goal

abbrev pub invariant-loop-slot : goal.invariant-loop-slot
invariant-loop-slot g l =
    l.text.items ≡ l.initial.text.items ++ flat_map (lsmod_line l.catalogue (g.M.Modules.table l.table)) (take l.slot-index l.slot-items)
