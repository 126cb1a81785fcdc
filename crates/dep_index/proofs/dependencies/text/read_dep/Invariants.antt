use Rattle.std.proofs.Common.{◌≡◌, ◌≤◌, ◌+◌, length}
use Rattle.dep_index.specs.Dependencies.{dep_lines, dependencies_of}
use Rattle.dep_index.specs.Dependencies.Pairs.{pairs_in}
use Rattle.dep_index.proofs.dependencies.text.read_dep.Given as goal

-- the lines that are left go on from the pairs
abbrev pub invariant-loop-line : goal.invariant-loop-line
invariant-loop-line l = record {
  same : dep_lines l.number (pairs_in l.index.entries) l.lines ≡ dependencies_of l.fn.text;
  few : l.number + length l.lines ≤ length l.fn.text + 1;
}

abbrev pub decreases-loop-line : goal.decreases-loop-line
decreases-loop-line l = length l.lines
