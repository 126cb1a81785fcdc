-- What of an answer's lines another answer has not.
use Rattle.std.specs.Prelude.{ℕ, Bool, not, ◌==◌, ◌&&◌, if◌then◌else◌, List, [], ◌∷◌, ◌++◌, length, filter, codes}
use Rattle.std.specs.List.{list_any, slice_split}
use Rattle.std.specs.Str.{bytes_eq}
use Rattle.kmod_query.specs.Answers.{Answer}
use Rattle.answer_diff.specs.Differences.{Difference}

abbrev pub is_line : List ℕ → Bool
is_line part = not (length part == 0)

-- the lines of a text
abbrev pub text_lines : List ℕ → List (List ℕ)
text_lines text = filter is_line (slice_split (λ byte. byte == 10) text)

-- the lines that an answer prints; one that failed has a line more that says so
abbrev pub lines_of : Answer → List (List ℕ)
lines_of answer = text_lines answer.output ++ (if answer.failed then codes "not found" ∷ [] else [])

abbrev pub has_not : List (List ℕ) → List ℕ → Bool
has_not lines line = not (list_any (bytes_eq line) lines)

-- the lines that others are not
abbrev pub own_lines : List (List ℕ) → List (List ℕ) → List (List ℕ)
own_lines lines others = filter (has_not others) lines

-- neither has a line that the other has not: they stand in another order, or another number of times
abbrev pub are_alike : List (List ℕ) → List (List ℕ) → Bool
are_alike lines others = (length (own_lines lines others) == 0) && (length (own_lines others lines) == 0)

-- the lines that tell two answers apart: those of the first that the second has not, or all of it if they are alike
abbrev pub telling_lines : List (List ℕ) → List (List ℕ) → List (List ℕ)
telling_lines lines others = if are_alike lines others then lines else own_lines lines others

-- what is taken away
abbrev pub taken_lines : Difference → List (List ℕ)
taken_lines d = telling_lines (lines_of d.before) (lines_of d.after)

-- what is added
abbrev pub added_lines : Difference → List (List ℕ)
added_lines d = telling_lines (lines_of d.after) (lines_of d.before)
