-- One line more of a file that is read.
use Rattle.std.proofs.Common.{◌≡◌, ℕ, ◌+◌, ◌-◌, ◌≤◌, List, [], ◌∷◌, ◌++◌, length, take, drop, Vec, sym, ◌∙◌, ap, subst, arith, append_assoc, length-drop}
use Rattle.std.proofs.lemmas.List.{append-nil, drop-drop, take_rest, length-take-le, map_push}
use Rattle.std.specs.declared.alloc.Global.{Global}
use Rattle.line_journal.specs.Lines.{lines_of, open_text, bytes_of, IsLine}
use Rattle.line_journal.proofs.LineLemmas.{lines_of-line, length-open_text_push}

-- at this place stands a line of this length
pub record StandsAt (file : List ℕ) (at len : ℕ) : Type 0 where
  pub line : IsLine (take len (drop (at + 1) file))
  pub is : drop at file ≡ 43 ∷ take len (drop (at + 1) file) ++ 10 ∷ drop (at + (len + 2)) file
  pub within : at + len + 2 ≤ length file

pub stands_at : (file : List ℕ) (at len : ℕ) → at ≤ length file
    → IsLine (take len (drop 1 (take (length file - at) (drop at file))))
    × (take (length file - at) (drop at file) ≡ 43 ∷ take len (drop 1 (take (length file - at) (drop at file))) ++ 10 ∷ drop (len + 2) (take (length file - at) (drop at file)))
    → len + 2 ≤ length (take (length file - at) (drop at file)) → StandsAt file at len
stands_at file at len le is within =
    let whole = take_rest file at in
    let behind = λ (m : ℕ). ap (λ (l : List ℕ). drop m l) whole ∙ drop-drop m at file in
    record {
      line = subst (λ (l : List ℕ). IsLine (take len l)) (behind 1) is.0;
      is = sym whole ∙ is.1 ∙ ap (λ (l : List ℕ). 43 ∷ take len l ++ 10 ∷ drop (len + 2) (take (length file - at) (drop at file))) (behind 1)
          ∙ ap (λ (l : List ℕ). 43 ∷ take len (drop (at + 1) file) ++ 10 ∷ l) (behind (len + 2));
      within = omega (arith, within, ap length whole, length-drop at file);
    }

module _ (lines : List (Vec ℕ Global)) (line : Vec ℕ Global) (file : List ℕ) (at len : ℕ) (stands : StandsAt file at len) (is : line.items ≡ take len (drop (at + 1) file)) where
  pub read_more : bytes_of lines ++ lines_of (drop at file) ≡ lines_of file → bytes_of (lines ++ line ∷ []) ++ lines_of (drop (at + (len + 2)) file) ≡ lines_of file
  read_more so_far =
      let rest = lines_of (drop (at + (len + 2)) file) in
      let one : lines_of (drop at file) ≡ line.items ∷ rest =
      ap lines_of stands.is ∙ lines_of-line (take len (drop (at + 1) file)) (drop (at + (len + 2)) file) stands.line ∙ ap (λ (l : List ℕ). l ∷ rest) (sym is) in
      ap (λ (ls : List (List ℕ)). ls ++ rest) (map_push (λ (v : Vec ℕ Global). v.items) lines line)
      ∙ append_assoc (bytes_of lines) (line.items ∷ []) rest
      ∙ ap (λ (ls : List (List ℕ)). bytes_of lines ++ ls) (sym one)
      ∙ so_far

  pub size_more : at ≡ length (open_text (bytes_of lines)) → at + (len + 2) ≡ length (open_text (bytes_of (lines ++ line ∷ [])))
  size_more so_far =
      let long : length line.items ≡ len = ap length is ∙ length-take-le len (drop (at + 1) file) (omega (arith, length-drop (at + 1) file, stands.within)) in
      let more = ap (λ (ls : List (List ℕ)). length (open_text ls)) (map_push (λ (v : Vec ℕ Global). v.items) lines line) in
      omega (arith, so_far, long, more, length-open_text_push (bytes_of lines) line.items)

-- at the end stands no line
pub read_all : (lines : List (List ℕ)) (file : List ℕ) (at : ℕ) → lines_of (take (length file - at) (drop at file)) ≡ [] → lines ++ lines_of (drop at file) ≡ lines_of file → lines ≡ lines_of file
read_all lines file at none so_far =
    let none_there : lines_of (drop at file) ≡ [] = ap lines_of (sym (take_rest file at)) ∙ none in
    sym (append-nil lines) ∙ ap (λ (ls : List (List ℕ)). lines ++ ls) (sym none_there) ∙ so_far
