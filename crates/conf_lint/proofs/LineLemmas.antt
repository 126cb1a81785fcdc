-- The notes of lines are those of each line.
use Rattle.std.proofs.Common.{ℕ, List, [], ◌∷◌, ◌++◌, Contains, ◌⊎◌, inl, inr, refl, sym, ap, subst, arith}
use Rattle.std.proofs.lemmas.List.Elements.{Contains-append_left, Contains-append_right, Contains-append_cases}
use Rattle.std.specs.Str.Lines.{lines}
use Rattle.modprobe_conf.specs.Configuration.{joined_lines}
use Rattle.conf_lint.specs.declared.known.Known.{Known}
use Rattle.conf_lint.specs.declared.note.Note.{Note}
use Rattle.conf_lint.specs.Notes.{line_notes, notes_from, with_line}
use Rattle.conf_lint.specs.Laws.{softdeps_after, IsOfLine, NotesAreOfLines}

told_is_of_line : (known : Known) (slots : List ℕ) (ls : List (ℕ × List ℕ)) (told : Note) → Contains (notes_from known slots ls) told → IsOfLine known slots ls told
told_is_of_line known slots [] told h = let none = h.1 in absurd (omega arith)
told_is_of_line known slots (line ∷ later) told h =
    by (Contains-append_cases (line_notes known slots line) (notes_from known (with_line known slots line) later) told h)
    (told_is_of_line known (with_line known slots line) later told)
  where
    by : Contains (line_notes known slots line) told ⊎ Contains (notes_from known (with_line known slots line) later) told
        → (Contains (notes_from known (with_line known slots line) later) told → IsOfLine known (with_line known slots line) later told)
        → IsOfLine known slots (line ∷ later) told
    by (inl own) go = ([], line, later, refl, own)
    by (inr rest) go = let found = go rest in (line ∷ found.0, found.1, found.2, ap (λ l. line ∷ l) found.3, found.4)

line_is_told : (known : Known) (slots : List ℕ) (earlier : List (ℕ × List ℕ)) (line : ℕ × List ℕ) (later : List (ℕ × List ℕ)) (told : Note) → Contains (line_notes known (softdeps_after known slots earlier) line) told → Contains (notes_from known slots (earlier ++ line ∷ later)) told
line_is_told known slots [] line later told h =
    Contains-append_left (line_notes known slots line) (notes_from known (with_line known slots line) later) told h
line_is_told known slots (first ∷ earlier) line later told h =
    Contains-append_right (line_notes known slots first) (notes_from known (with_line known slots first) (earlier ++ line ∷ later)) told
    (line_is_told known (with_line known slots first) earlier line later told h)

pub notes_are_of_lines : NotesAreOfLines
notes_are_of_lines known text told = (
  told_is_of_line known [] (joined_lines 1 (lines text)) told,
  λ h. subst (λ ls. Contains (notes_from known [] ls) told) (sym h.3) (line_is_told known [] h.0 h.1 h.2 told h.4),
)
