use Rattle.std.proofs.Common.{◌≡◌, ◌++◌, drop}
use Rattle.text_parts.specs.Text.{texts_of}
use Rattle.conf_lint.specs.Notes.{pattern_notes}
use Rattle.conf_lint.proofs.words.note_patterns.Given as goal

abbrev pub invariant-loop-word : goal.invariant-loop-word
invariant-loop-word l =
    l.notes.items ++ pattern_notes l.number (texts_of (drop l.word-index l.words))
    ≡ l.initial.notes.items ++ pattern_notes l.number (texts_of l.words)
