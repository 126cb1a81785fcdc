use Rattle.std.proofs.Common.{◌≡◌, ◌≤◌, ◌+◌, ◌++◌, length}
use Rattle.std.specs.List.{enumerate_from, flat_map}
use Rattle.lint_ignores.specs.Ignores.{comment_ignores, text_ignores}
use Rattle.lint_ignores.proofs.comments.add_comments.Given as goal

abbrev pub invariant-lines : goal.invariant-lines
invariant-lines l =
    record {
      said : l.ignores.items ++ flat_map (comment_ignores l.source) (enumerate_from l.behind l.lines) ≡ l.initial.ignores.items ++ text_ignores l.source l.fn.text;
      few : l.behind + length l.lines ≤ length l.fn.text + 2;
    }

abbrev pub decreases-lines : goal.decreases-lines
decreases-lines l = length l.lines
