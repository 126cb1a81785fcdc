use Rattle.std.proofs.Common.{◌≡◌, map, take, false}
use Rattle.kmod_query.specs.LookUp.{by_one_alias}
use Rattle.kmod_query.specs.Objects.{objects_of}
use Rattle.kmod_query.proofs.finding.by_entries.Given as goal

abbrev pub invariant-entries : goal.invariant-entries
invariant-entries l = objects_of l.found.items ≡ map (λ entry. by_one_alias entry.now.pattern false entry.now.target) (take l.entry-index l.entries)
