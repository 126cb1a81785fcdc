use Rattle.std.proofs.Common.{◌≡◌, ◌++◌, take}
use Rattle.std.specs.List.{flat_map}
use Rattle.answer_facts.specs.Pieces.{json_piece, pieces_of}
use Rattle.answer_facts.proofs.piece.push_json.Given as goal

abbrev pub invariant-loop-piece : goal.invariant-loop-piece
invariant-loop-piece l =
    l.text.items ≡ l.initial.text.items ++ flat_map json_piece (pieces_of (take l.piece-index l.pieces))
