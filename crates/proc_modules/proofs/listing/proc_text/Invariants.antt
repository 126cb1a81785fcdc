use Rattle.std.proofs.Common.{◌≡◌, take, flat_map}
use Rattle.proc_modules.specs.LineText.{line_text}
use Rattle.proc_modules.specs.Listings.{line_at}
use Rattle.proc_modules.proofs.listing.proc_text.Given as goal

abbrev pub invariant-loop-slot : goal.invariant-loop-slot
invariant-loop-slot g l =
    l.text.items ≡ flat_map (λ slot. line_text (line_at l.catalogue (g.M.Modules.table l.table) slot)) (take l.slot-index l.slot-items)
