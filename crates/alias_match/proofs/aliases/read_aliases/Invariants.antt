use Rattle.std.proofs.Common.{◌≡◌, ◌≤◌, ◌+◌, length}
use Rattle.std.specs.List.{enumerate_from}
use Rattle.alias_match.specs.Aliases.{entries_of, alias_of, aliases_of}
use Rattle.alias_match.specs.ForProofs.{followed_by}
use Rattle.alias_match.proofs.aliases.read_aliases.Given as goal

abbrev pub invariant-lines : goal.invariant-lines
invariant-lines l =
    record {
      said : followed_by l.aliases (entries_of alias_of (enumerate_from l.number l.lines)) ≡ aliases_of l.fn.text;
      few : l.number + length l.lines ≤ length l.fn.text + 1;
    }

abbrev pub decreases-lines : goal.decreases-lines
decreases-lines l = length l.lines
