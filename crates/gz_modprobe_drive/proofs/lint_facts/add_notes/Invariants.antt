use Rattle.std.proofs.Common.{◌≡◌, ◌++◌, map, take}
use Rattle.answer_facts.specs.Facts.{pieces_of_facts}
use Rattle.gz_modprobe_drive.specs.LintFacts.{pieces_of_note}
use Rattle.gz_modprobe_drive.proofs.lint_facts.add_notes.Given as goal

abbrev pub invariant-notes : goal.invariant-notes
invariant-notes l =
    pieces_of_facts l.facts.items
    ≡ pieces_of_facts l.initial.facts.items ++ map (pieces_of_note l.texts) (take l.note-index l.notes)
