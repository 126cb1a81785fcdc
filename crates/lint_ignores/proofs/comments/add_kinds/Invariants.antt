use Rattle.std.proofs.Common.{◌≡◌, ◌++◌, map, take}
use Rattle.text_parts.specs.Text.{texts_of}
use Rattle.lint_ignores.specs.Ignores.{ignore_at}
use Rattle.lint_ignores.proofs.comments.add_kinds.Given as goal

abbrev pub invariant-loop-kind : goal.invariant-loop-kind
invariant-loop-kind l = l.ignores.items ≡ l.initial.ignores.items ++ map (ignore_at l.source l.number) (texts_of (take l.kind-index l.kinds))
