use Rattle.std.proofs.Common.{◌≡◌, take}
use Rattle.text_parts.specs.Text.{texts_of}
use Rattle.answer_diff.specs.Differences.{differences, differences_of}
use Rattle.answer_diff.proofs.comparing.differences.Given as goal

abbrev pub invariant-loop-name : goal.invariant-loop-name
invariant-loop-name l =
    differences_of l.all.items ≡ differences l.one l.other l.query (texts_of (take l.name-index l.names))
