use Rattle.std.proofs.Common.{◌≡◌, ◌++◌, take}
use Rattle.answer_facts.specs.Facts.{pieces_of_facts}
use Rattle.text_parts.specs.Text.{texts_of}
use Rattle.gz_modprobe_drive.specs.Changes.{added_pieces}
use Rattle.gz_modprobe_drive.proofs.changes.push_added.Given as goal

abbrev pub invariant-loop-line : goal.invariant-loop-line
invariant-loop-line l =
    pieces_of_facts l.facts.items
    ≡ pieces_of_facts l.initial.facts.items ++ added_pieces l.origin l.name (texts_of (take l.line-index l.lines))
