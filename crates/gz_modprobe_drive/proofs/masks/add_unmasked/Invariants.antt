use Rattle.std.proofs.Common.{◌≡◌, ◌++◌, take}
use Rattle.std.specs.List.{flat_map}
use Rattle.answer_facts.specs.Facts.{pieces_of_facts}
use Rattle.gz_modprobe_drive.specs.Masks.{hidden_note}
use Rattle.gz_modprobe_drive.proofs.masks.add_unmasked.Given as goal

abbrev pub invariant-loop-file : goal.invariant-loop-file
invariant-loop-file l =
    pieces_of_facts l.facts.items
    ≡ pieces_of_facts l.initial.facts.items ++ flat_map (hidden_note l.texts.files.items l.ignores) (take l.file-index l.hidden)
