use Rattle.std.proofs.Common.{◌≡◌, filter, take}
use Rattle.kmod_index.specs.Needs.{has_need}
use Rattle.kmod_index.proofs.index.Index.carriers.Given as goal

abbrev pub invariant-modules : goal.invariant-modules
invariant-modules l = l.found.items ≡ filter (λ own. has_need l.self.dependencies own l.need) (take l.own-index l.modules)
