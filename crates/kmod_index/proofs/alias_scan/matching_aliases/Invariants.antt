use Rattle.std.proofs.Common.{◌≡◌, ◌≤◌, ◌+◌, ◌++◌, length}
use Rattle.std.specs.List.{enumerate_from, filter_map}
use Rattle.std.specs.Str.Lines.{lines}
use Rattle.kmod_index.specs.Aliases.{aliases_of, alias_of_line}
use Rattle.kmod_index.specs.Tries.{matching_lines}
use Rattle.kmod_index.proofs.alias_scan.matching_aliases.Given as goal

abbrev pub invariant-lines : goal.invariant-lines
invariant-lines l =
    record {
      said : l.found.items ++ matching_lines (filter_map alias_of_line (enumerate_from l.number (lines l.rest))) l.name ≡ matching_lines (aliases_of l.fn.text) l.name;
      few : l.number + length l.rest ≤ length l.fn.text + 1;
    }

abbrev pub decreases-lines : goal.decreases-lines
decreases-lines l = length l.rest
