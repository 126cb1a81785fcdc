use Rattle.std.proofs.Common.{◌≡◌, filter, take}
use Rattle.kmod_index.specs.Needs.{is_nearest}
use Rattle.kmod_index.proofs.index.Index.nearest.Given as goal

abbrev pub invariant-carriers : goal.invariant-carriers
invariant-carriers l = l.found.items ≡ filter (is_nearest l.self.dependencies l.own-items) (take l.own-index l.own-items)
