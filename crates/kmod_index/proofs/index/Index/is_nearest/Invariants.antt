use Rattle.std.proofs.Common.{◌≡◌, drop}
use Rattle.std.specs.List.{list_any}
use Rattle.kmod_index.specs.Needs.{has_need}
use Rattle.kmod_index.proofs.index.Index.is_nearest.Given as goal

abbrev pub invariant-others : goal.invariant-others
invariant-others l =
    list_any (has_need l.self.dependencies l.name) (drop l.other-index l.others)
    ≡ list_any (has_need l.self.dependencies l.name) l.others
