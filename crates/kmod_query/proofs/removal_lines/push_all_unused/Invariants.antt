use Rattle.std.proofs.Common.{◌≡◌, ◌++◌, take}
use Rattle.std.specs.List.{flat_map}
use Rattle.kmod_query.specs.Removal.{unused_line}
use Rattle.kmod_query.specs.World.{facts_of}
use Rattle.kmod_query.proofs.removal_lines.push_all_unused.Given as goal

abbrev pub invariant-names : goal.invariant-names
invariant-names l = l.lines.items ≡ l.initial.lines.items ++ flat_map (λ name. unused_line (facts_of l.world) name.items) (take l.name-index l.names)
