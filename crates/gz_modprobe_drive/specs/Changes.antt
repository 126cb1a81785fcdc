-- What tells the answers of two machines apart, as parts of lines.
use Rattle.std.specs.Prelude.{ℕ, List, [], ◌++◌, codes, map}
use Rattle.std.specs.List.{flat_map}
use Rattle.answer_diff.specs.Differences.{Difference}
use Rattle.answer_diff.specs.Lines.{added_lines, taken_lines}
use Rattle.answer_facts.specs.declared.origin.Origin.{Origin}
use Rattle.answer_facts.specs.Facts.{change_pieces}
use Rattle.answer_facts.specs.Pieces.{Piece}

-- a line that the first machine alone answers to a name; it stands in no file
abbrev pub taken_piece : Origin → List ℕ → List ℕ → List Piece
taken_piece origin name line = change_pieces (codes "taken") (codes "- ") name line origin ++ []

abbrev pub taken_pieces : Origin → List ℕ → List (List ℕ) → List (List Piece)
taken_pieces origin name lines = map (taken_piece origin name) lines

-- one that the second alone answers
abbrev pub added_piece : Origin → List ℕ → List ℕ → List Piece
added_piece origin name line = change_pieces (codes "added") (codes "+ ") name line origin ++ []

abbrev pub added_pieces : Origin → List ℕ → List (List ℕ) → List (List Piece)
added_pieces origin name lines = map (added_piece origin name) lines

-- of a name: what is taken away, and then what is added
abbrev pub changes_of : Origin → Origin → Difference → List (List Piece)
changes_of one other d = taken_pieces one d.name (taken_lines d) ++ added_pieces other d.name (added_lines d)

-- of each name that differs
abbrev pub changes : Origin → Origin → List Difference → List (List Piece)
changes one other all = flat_map (changes_of one other) all
