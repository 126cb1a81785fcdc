use Rattle.std.proofs.Common.{◌≡◌, ◌++◌, drop}
use Rattle.text_parts.specs.Text.{texts_of}
use Rattle.dep_index.specs.Catalogue.{description_at}
use Rattle.conf_lint.specs.Notes.{value_notes}
use Rattle.conf_lint.proofs.words.note_values.Given as goal

abbrev pub invariant-loop-word : goal.invariant-loop-word
invariant-loop-word l =
    l.notes.items ++ value_notes l.number (description_at l.catalogue l.slot).params (texts_of (drop l.word-index l.words))
    ≡ l.initial.notes.items ++ value_notes l.number (description_at l.catalogue l.slot).params (texts_of l.words)
