-- The lines that `bstr` gives are those of std.
use Rattle.std.proofs.Common.{◌≡◌, ◌⊎◌, inl, inr, ℕ, suc, ◌-◌, ◌<◌, ◌≤◌, Bool, true, false, cond, List, [], ◌∷◌, ◌++◌, length, take, drop, map, refl, sym, ap, subst, ◌∙◌, arith, zero, take_all}
use Rattle.std.proofs.Math.Seq.{drop-length}
use Rattle.std.specs.Prelude.{◌==◌, ◌&&◌, nat_lt, slice_index}
use Rattle.std.specs.List.{AllByRecursion}
use Rattle.std.specs.Str.Lines.{lines, strip_carriage_return}
use Rattle.std.proofs.lemmas.Bool.{cond-true, cond-false, eq-eqb, lt-ltb}
use Rattle.std.proofs.lemmas.List.{length-append, take_at, drop_at, append_assoc}
use Rattle.std.proofs.Math.Seq.{get_or-append_seam}
use Rattle.std.proofs.lemmas.Bool.{eqb-true}
use Rattle.std.proofs.lemmas.List.Elements.{All-from_recursion}
use Rattle.bstr.specs.Text.{line_len, lines_of as bstr_lines, no_cr, without_terminator}
use Rattle.bstr.proofs.lemmas.LineLemmas.{lines-step, lines-nil}
use Rattle.text_parts.proofs.LineLemmas.{HasNoFeed, lines-ended, lines-last}

abbrev NoFeed : List ℕ → Type 0
NoFeed bytes = AllByRecursion (λ byte. (byte == 10) ≡ false) bytes

none_of : (bytes : List ℕ) → NoFeed bytes → HasNoFeed bytes
none_of bytes none = All-from_recursion (λ byte. (byte == 10) ≡ false) bytes none

line_len-ended : (line rest : List ℕ) → NoFeed line → line_len (line ++ 10 ∷ rest) ≡ suc (length line)
unfolding line_len
line_len-ended [] rest none = refl
line_len-ended (b ∷ bs) rest none = cond-false _ _ _ none.0 ∙ ap suc (line_len-ended bs rest none.1)

line_len-last : (line : List ℕ) → NoFeed line → line_len line ≡ length line
unfolding line_len
line_len-last [] none = refl
line_len-last (b ∷ bs) none = cond-false _ _ _ none.0 ∙ ap suc (line_len-last bs none.1)

-- A text has no line feed, or a first one.
abbrev FirstFeed : List ℕ → Type 0
FirstFeed text = NoFeed text ⊎ ((line : List ℕ) × (rest : List ℕ) × (text ≡ line ++ 10 ∷ rest) × NoFeed line)

first_feed_at : (b : ℕ) (bs : List ℕ) (t : Bool) → (b == 10) ≡ t → FirstFeed bs → FirstFeed (b ∷ bs)
first_feed_at b bs true e later = inr ([], bs, ap (λ x. x ∷ bs) (eqb-true b 10 e), tt)
first_feed_at b bs false e later = elim later [
  | inl none ↦ inl (e, none)
  | inr cut ↦ inr (b ∷ cut.0, cut.1, ap (λ l. b ∷ l) cut.2, (e, cut.3))
]

first_feed : (text : List ℕ) → FirstFeed text
first_feed [] = inl tt
first_feed (b ∷ bs) = first_feed_at b bs (b == 10) refl (first_feed bs)

both : (p q : Bool) → p ≡ true → q ≡ true → (p && q) ≡ true
both p q is is' = rw (is, is') refl

not_second : (p q : Bool) → q ≡ false → (p && q) ≡ false
not_second true q is = is
not_second false q is = refl

no_cr-strip : (line : List ℕ) → no_cr line ≡ strip_carriage_return line
no_cr-strip [] = refl
no_cr-strip (b ∷ bs) =
    ap (λ t. cond (t && slice_index (b ∷ bs) (length (b ∷ bs) - 1) == 13) (take (length (b ∷ bs) - 1) (b ∷ bs)) (b ∷ bs)) (lt-ltb 0 (length (b ∷ bs)) (omega arith))

-- A line with its line feed, and one without.
without_terminator-ended : (line : List ℕ) → without_terminator (line ++ 10 ∷ []) ≡ strip_carriage_return line
without_terminator-ended line =
    let whole = line ++ 10 ∷ [] in
    let last : length whole - 1 ≡ length line = omega (arith, length-append line (10 ∷ [])) in
    let feed : slice_index whole (length whole - 1) ≡ 10 = ap (slice_index whole) last ∙ get_or-append_seam line 10 [] 0 in
    let some : nat_lt 0 (length whole) ≡ true = lt-ltb 0 (length whole) (omega (arith, length-append line (10 ∷ []))) in
    let front : take (length whole - 1) whole ≡ line = ap (λ n. take n whole) last ∙ take_at line (10 ∷ []) (length line) refl in
    cond-true _ _ _ (both _ _ some (eq-eqb _ 10 feed)) ∙ ap no_cr front ∙ no_cr-strip line

without_terminator-last : (line : List ℕ) → HasNoFeed line → 0 < length line → without_terminator line ≡ line
without_terminator-last line none some = cond-false _ _ _ (not_second (nat_lt 0 (length line)) (slice_index line (length line - 1) == 10) (none (length line - 1) 0 (omega arith)))

same_last : (text : List ℕ) → NoFeed text → 0 < length text → map without_terminator (bstr_lines text) ≡ lines text
same_last text none some =
    let all : line_len text ≡ length text = line_len-last text none in
    let alone : without_terminator text ≡ text = without_terminator-last text (none_of text none) some in
    ap (map without_terminator) (lines-step text some)
    ∙ ap (λ n. without_terminator (take n text) ∷ map without_terminator (bstr_lines (drop n text))) all
    ∙ ap (λ l. without_terminator l ∷ map without_terminator (bstr_lines (drop (length text) text))) (take_all (length text) text (omega arith))
    ∙ ap (λ l. without_terminator text ∷ map without_terminator (bstr_lines l)) (drop-length text)
    ∙ ap (λ l. without_terminator text ∷ map without_terminator l) lines-nil
    ∙ ap (λ l. l ∷ []) alone ∙ sym (lines-last text (none_of text none) some)

same_ended : (line rest : List ℕ) → NoFeed line → map without_terminator (bstr_lines rest) ≡ lines rest
    → map without_terminator (bstr_lines (line ++ 10 ∷ rest)) ≡ lines (line ++ 10 ∷ rest)
same_ended line rest none later =
    let text = line ++ 10 ∷ rest in
    let joined : (line ++ 10 ∷ []) ++ rest ≡ text = append_assoc line (10 ∷ []) rest in
    let len : length (line ++ 10 ∷ []) ≡ suc (length line) = omega (arith, length-append line (10 ∷ [])) in
    let front : take (suc (length line)) text ≡ line ++ 10 ∷ [] = ap (take (suc (length line))) (sym joined) ∙ take_at (line ++ 10 ∷ []) rest (suc (length line)) len in
    let back : drop (suc (length line)) text ≡ rest = ap (drop (suc (length line))) (sym joined) ∙ drop_at (line ++ 10 ∷ []) rest (suc (length line)) len in
    ap (map without_terminator) (lines-step text (omega (arith, length-append line (10 ∷ rest))))
    ∙ ap (λ n. without_terminator (take n text) ∷ map without_terminator (bstr_lines (drop n text))) (line_len-ended line rest none)
    ∙ ap (λ l. without_terminator l ∷ map without_terminator (bstr_lines (drop (suc (length line)) text))) front
    ∙ ap (λ l. without_terminator (line ++ 10 ∷ []) ∷ map without_terminator (bstr_lines l)) back
    ∙ ap (λ l. l ∷ map without_terminator (bstr_lines rest)) (without_terminator-ended line)
    ∙ ap (λ l. strip_carriage_return line ∷ l) later
    ∙ sym (lines-ended line rest (none_of line none))

same_at : (text : List ℕ) → 0 < length text → FirstFeed text → ((rest : List ℕ) → length rest < length text → map without_terminator (bstr_lines rest) ≡ lines rest)
    → map without_terminator (bstr_lines text) ≡ lines text
same_at text some first later = elim first [
  | inl none ↦ same_last text none some
  | inr cut ↦
      let P : List ℕ → Type 0 = λ t. map without_terminator (bstr_lines t) ≡ lines t in
      let shorter : length cut.1 < length text = rw cut.2 (omega (arith, length-append cut.0 (10 ∷ cut.1))) in
      subst P (sym cut.2) (same_ended cut.0 cut.1 cut.3 (later cut.1 shorter))
]

same_lines : (fuel : ℕ) (text : List ℕ) → length text ≤ fuel → map without_terminator (bstr_lines text) ≡ lines text
same_lines fuel [] few = ap (map without_terminator) lines-nil
same_lines zero (b ∷ bs) few = absurd (omega arith)
same_lines (suc fuel) (b ∷ bs) few = same_at (b ∷ bs) (omega arith) (first_feed (b ∷ bs)) (λ rest shorter. same_lines fuel rest (omega arith))

pub same_as_bstr : (text : List ℕ) → map without_terminator (bstr_lines text) ≡ lines text
same_as_bstr text = same_lines (length text) text (omega arith)
