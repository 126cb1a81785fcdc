use Rattle.std.proofs.Common.{◌≡◌, ◌≤◌, ◌+◌, ◌++◌, length}
use Rattle.std.specs.List.{enumerate_from, filter_map}
use Rattle.kmod_index.specs.Lines.{keyed_lines, keyed_of_line, lines_of_key}
use Rattle.kmod_index.proofs.symbol_scan.symbols_of_key.Given as goal

abbrev pub invariant-lines : goal.invariant-lines
invariant-lines l =
    record {
      said : l.found.items ++ lines_of_key (filter_map keyed_of_line (enumerate_from l.number l.lines)) l.key ≡ lines_of_key (keyed_lines l.fn.text) l.key;
      few : l.number + length l.lines ≤ length l.fn.text + 1;
    }

abbrev pub decreases-lines : goal.decreases-lines
decreases-lines l = length l.lines
