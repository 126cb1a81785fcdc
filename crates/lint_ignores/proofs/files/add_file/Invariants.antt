use Rattle.std.proofs.Common.{◌≡◌, ◌++◌, length}
use Rattle.std.specs.List.{filter_map}
use Rattle.lint_ignores.specs.Ignores.{file_ignores, line_ignore}
use Rattle.lint_ignores.proofs.files.add_file.Given as goal

abbrev pub invariant-lines : goal.invariant-lines
invariant-lines l =
    l.ignores.items ++ filter_map line_ignore l.lines ≡ l.initial.ignores.items ++ file_ignores l.fn.text

abbrev pub decreases-lines : goal.decreases-lines
decreases-lines l = length l.lines
