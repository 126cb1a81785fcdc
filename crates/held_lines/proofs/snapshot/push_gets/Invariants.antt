use Rattle.std.proofs.Common.{◌≡◌, ◌++◌}
use Rattle.std.specs.Prelude.{replicate}
use Rattle.held_lines.specs.Snapshots.{texts_in, get_line}
use Rattle.held_lines.proofs.snapshot.push_gets.Given as goal

abbrev pub invariant-loop : goal.invariant-loop
invariant-loop l = texts_in l.lines.items ≡ texts_in l.initial.lines.items ++ replicate l.counter (get_line l.holder l.name)
