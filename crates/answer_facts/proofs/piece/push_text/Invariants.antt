use Rattle.std.proofs.Common.{◌≡◌, ◌++◌, take}
use Rattle.answer_facts.specs.Pieces.{pieces_of, text_of}
use Rattle.answer_facts.proofs.piece.push_text.Given as goal

abbrev pub invariant-loop-piece : goal.invariant-loop-piece
invariant-loop-piece l = l.text.items ≡ l.initial.text.items ++ text_of (pieces_of (take l.piece-index l.pieces))
