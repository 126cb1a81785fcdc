use Rattle.std.proofs.Common.{◌≡◌, ◌++◌, map, vec_len}
use Rattle.kmod_query.specs.Facts.{Facts}
use Rattle.kmod_query.specs.Objects.{by_name, names_of}
use Rattle.kmod_query.specs.Probes.{fill}
use Rattle.kmod_query.specs.Stacks.{stack_of}
use Rattle.kmod_query.proofs.probes.push_fills.Given as goal

abbrev pub invariant-names : goal.invariant-names
invariant-names l =
    (facts : Facts) → map (λ name. fill (by_name name)) (names_of l.names.items) ++ stack_of facts l.stack.items
    ≡ map (λ name. fill (by_name name)) (names_of l.initial.names.items) ++ stack_of facts l.initial.stack.items

abbrev pub decreases-names : goal.decreases-names
decreases-names l = vec_len l.names
