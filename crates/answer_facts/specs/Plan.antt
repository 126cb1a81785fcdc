-- An answer in JSON: each line of it is one object, in order, and no other.
use Rattle.std.specs.Prelude.{ℕ, ◌==◌, if◌then◌else◌, List, [], ◌∷◌, ◌++◌, length, codes}
use Rattle.std.specs.List.{flat_map, slice_split}
use Rattle.answer_facts.specs.declared.fact.Fact.{Fact}
use Rattle.answer_facts.specs.declared.origin.Origin.{Origin}
use Rattle.answer_facts.specs.Facts.{pieces_of_fact}
use Rattle.answer_facts.specs.Pieces.{Piece, field, json_of, tag}
use Rattle.answer_facts.specs.Shown.{shown_line}
use Rattle.answer_facts.specs.Steps.{step_pieces}

-- of which machine something is said; no root is the machine itself
abbrev pub origin_pieces : Origin → List Piece
origin_pieces origin = field (codes "release") origin.release.now ∷ tag (codes "root") origin.root.now ∷ []

-- the lines of a text; what stands behind the last line feed is an empty one
abbrev pub parts_of : List ℕ → List (List ℕ)
parts_of text = slice_split (λ byte. byte == 10) text

-- a line as an object; an empty one is none
abbrev pub plan_line : Origin → List ℕ → List ℕ
plan_line origin line =
    if length line == 0 then [] else shown_line (json_of (step_pieces line ++ origin_pieces origin))

-- the lines of an answer
abbrev pub plan_lines : Origin → List ℕ → List ℕ
plan_lines origin output = flat_map (plan_line origin) (parts_of output)

-- facts, with the machine of which they are said
abbrev pub origin_line : Origin → Fact → List ℕ
origin_line origin fact = shown_line (json_of (pieces_of_fact fact ++ origin_pieces origin))

abbrev pub origin_lines : Origin → List Fact → List ℕ
origin_lines origin facts = flat_map (origin_line origin) facts
