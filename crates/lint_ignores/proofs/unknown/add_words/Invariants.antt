use Rattle.std.proofs.Common.{◌≡◌, ◌++◌, filter, map, take}
use Rattle.text_parts.specs.Text.{texts_of}
use Rattle.lint_ignores.specs.Ignores.{is_no_kind, unknown_at}
use Rattle.lint_ignores.proofs.unknown.add_words.Given as goal

abbrev pub invariant-loop-word : goal.invariant-loop-word
invariant-loop-word l =
    l.notes.items ≡ l.initial.notes.items ++ map (unknown_at l.source l.number) (filter is_no_kind (texts_of (take l.word-index l.words)))
