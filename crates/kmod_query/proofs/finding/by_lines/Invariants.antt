use Rattle.std.proofs.Common.{◌≡◌, map, take}
use Rattle.kmod_query.specs.LookUp.{by_one_alias}
use Rattle.kmod_query.specs.Objects.{objects_of}
use Rattle.kmod_query.proofs.finding.by_lines.Given as goal

abbrev pub invariant-lines : goal.invariant-lines
invariant-lines l = objects_of l.found.items ≡ map (λ line. by_one_alias l.alias l.builtin line.name) (take l.line-index l.lines)
