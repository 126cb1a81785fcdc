use Rattle.std.proofs.Common.{◌≡◌, ◌++◌, map, take}
use Rattle.answer_facts.specs.Facts.{pieces_of_facts}
use Rattle.answer_reasons.specs.FileFacts.{hidden_file}
use Rattle.answer_reasons.proofs.file_facts.add_hidden.Given as goal

abbrev pub invariant-loop-file : goal.invariant-loop-file
invariant-loop-file l =
    pieces_of_facts l.facts.items ≡ pieces_of_facts l.initial.facts.items ++ map hidden_file (take l.file-index l.hidden)
