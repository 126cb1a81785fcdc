use Rattle.std.proofs.Common.{◌≡◌, take}
use Rattle.answer_diff.specs.Differences.{differences_of}
use Rattle.answer_facts.specs.Facts.{pieces_of_facts}
use Rattle.gz_modprobe_drive.specs.Changes.{changes}
use Rattle.gz_modprobe_drive.proofs.changes.changes.Given as goal

abbrev pub invariant-loop-difference : goal.invariant-loop-difference
invariant-loop-difference l =
    pieces_of_facts l.facts.items ≡ changes l.one l.other (differences_of (take l.difference-index l.all))
