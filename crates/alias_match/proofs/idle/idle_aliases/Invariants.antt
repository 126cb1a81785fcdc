use Rattle.std.proofs.Common.{◌≡◌, ◌≤◌, ◌+◌, ◌++◌, length}
use Rattle.std.specs.List.{enumerate_from}
use Rattle.alias_match.specs.Aliases.{alias_of}
use Rattle.alias_match.specs.Idle.{idle_aliases, idle_lines, why_no_alias}
use Rattle.alias_match.proofs.idle.idle_aliases.Given as goal

abbrev pub invariant-lines : goal.invariant-lines
invariant-lines l =
    record {
      said : l.idle.items ++ idle_lines alias_of why_no_alias (enumerate_from l.number l.lines) ≡ idle_aliases l.fn.text;
      few : l.number + length l.lines ≤ length l.fn.text + 1;
    }

abbrev pub decreases-lines : goal.decreases-lines
decreases-lines l = length l.lines
