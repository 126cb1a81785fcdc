use Rattle.std.proofs.Common.{◌≡◌, ◌≤◌, ◌+◌, ◌++◌, length}
use Rattle.std.specs.List.{enumerate_from, filter_map}
use Rattle.kmod_index.specs.Dependencies.{dependencies_of, dependencies_of_line}
use Rattle.kmod_index.proofs.dep_scan.dep_lines.Given as goal

abbrev pub invariant-lines : goal.invariant-lines
invariant-lines l =
    record {
      said : l.found.items ++ filter_map dependencies_of_line (enumerate_from l.number l.lines) ≡ dependencies_of l.fn.text;
      few : l.number + length l.lines ≤ length l.fn.text + 1;
    }

abbrev pub decreases-lines : goal.decreases-lines
decreases-lines l = length l.lines
