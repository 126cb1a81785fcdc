use Rattle.std.proofs.Common.{◌≡◌, ◌++◌, take}
use Rattle.std.specs.List.{flat_map}
use Rattle.answer_facts.specs.Pieces.{comma_name, names_of}
use Rattle.answer_facts.proofs.piece.push_names.Given as goal

abbrev pub invariant-loop-name : goal.invariant-loop-name
invariant-loop-name l = l.text.items ≡ l.initial.text.items ++ flat_map comma_name (names_of (take l.name-index l.names))
