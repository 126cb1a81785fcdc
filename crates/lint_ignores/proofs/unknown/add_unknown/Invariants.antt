use Rattle.std.proofs.Common.{◌≡◌, ◌≤◌, ◌+◌, ◌++◌, length}
use Rattle.std.specs.List.{enumerate_from, flat_map}
use Rattle.lint_ignores.specs.Ignores.{comment_unknown, text_unknown}
use Rattle.lint_ignores.proofs.unknown.add_unknown.Given as goal

abbrev pub invariant-lines : goal.invariant-lines
invariant-lines l =
    record {
      said : l.notes.items ++ flat_map (comment_unknown l.source) (enumerate_from l.number l.lines) ≡ l.initial.notes.items ++ text_unknown l.source l.fn.text;
      few : l.number + length l.lines ≤ length l.fn.text + 1;
    }

abbrev pub decreases-lines : goal.decreases-lines
decreases-lines l = length l.lines
