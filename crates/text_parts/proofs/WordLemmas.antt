-- The words of a line, part by part.
use Rattle.std.proofs.Common.{◌≡◌, ℕ, ◌+◌, ◌-◌, ◌<◌, ◌≤◌, true, false, not, suc, cond, nat_lt, List, [], ◌∷◌, ◌++◌, length, take, drop, get_or, refl, sym, ap, ◌∙◌, arith, drop-cons, add-one}
use Rattle.std.specs.Prelude.{filter, ◌&&◌}
use Rattle.std.specs.List.{All, list_all, onto_first, slice_split}
use Rattle.std.proofs.lemmas.List.{append_assoc, get_or-take, get_or_default, take_rest, drop-drop, length-take, take-append-drop}
use Rattle.std.proofs.lemmas.List.Splits.{slice_split_at, slice_split_none}
use Rattle.std.proofs.lemmas.Bool.{false_from_ne_true, lt-ltb}
use Rattle.memchr.specs.Find.{Nowhere, Passes}
use Rattle.text_parts.specs.Text.{words, has_word, is_blank, is_filled}

-- the part alone, if it is a word
abbrev pub as_words : List ℕ → List (List ℕ)
as_words part = filter is_filled (part ∷ [])

-- No byte of the list divides words.
abbrev pub HasNoBlank : List ℕ → Type 0
HasNoBlank bytes = All (λ byte. is_blank byte ≡ false) bytes

-- The words of a line that has no blank.
pub words-whole : (line : List ℕ) → HasNoBlank line → words line ≡ as_words line
words-whole line none = ap (filter is_filled) (slice_split_none is_blank line none)

-- The words of a line that has a blank: the part before it, if that is a word, and the words after it.
pub words-cut : (part rest : List ℕ) (blank : ℕ) → HasNoBlank part → is_blank blank ≡ true → words (part ++ blank ∷ rest) ≡ as_words part ++ words rest
words-cut part rest blank none is =
    ap (filter is_filled) (slice_split_at is_blank part blank rest none is)
    ∙ elim (is_filled part) as (λ t. cond t (part ∷ words rest) (words rest) ≡ cond t (part ∷ []) [] ++ words rest) [ true ↦ refl | false ↦ refl ]

-- If no byte up to a place divides words, the bytes before it are part of one word.
pub HasNoBlank-take : (line : List ℕ) (end : ℕ) → end ≤ length line → Nowhere (Passes is_blank line) 0 end → HasNoBlank (take end line)
HasNoBlank-take line end within nowhere k d below =
    let before : k < end = omega (arith, length-take end line) in
    let here : k < length line = omega arith in
    let same : get_or (take end line) k d ≡ get_or line k 0 = get_or-take end line k d before ∙ get_or_default line k d 0 here in
    false_from_ne_true _ (λ yes. nowhere k (omega arith) before (ap is_blank (sym same) ∙ yes))

-- The words of a line, at its first blank.
pub words-first : (line : List ℕ) (end : ℕ) → end < length line → Nowhere (Passes is_blank line) 0 end → Passes is_blank line end
    → words line ≡ as_words (take end line) ++ words (drop (end + 1) line)
words-first line end below nowhere is =
    let whole : line ≡ take end line ++ get_or line end 0 ∷ drop (end + 1) line =
    sym (take-append-drop end line) ∙ ap (λ l. take end line ++ l) (drop-cons line end 0 below ∙ rw add-one refl) in
    ap words whole ∙ words-cut (take end line) (drop (end + 1) line) (get_or line end 0) (HasNoBlank-take line end (omega arith) nowhere) is

pub words-none : (line : List ℕ) → Nowhere (Passes is_blank line) 0 (length line) → words line ≡ as_words line
words-none line nowhere =
    words-whole line (λ k d below. false_from_ne_true _ (λ yes. nowhere k (omega arith) below (ap is_blank (get_or_default line k 0 d below) ∙ yes)))

-- The words that were found, with the first part of the rest, and those behind it, are all words.
pub words_more : (found found' all : List (List ℕ)) (line rest : List ℕ) (end : ℕ) → end < length line → Nowhere (Passes is_blank line) 0 end → Passes is_blank line end
    → found ++ words line ≡ all → found' ≡ found ++ as_words (take end line) → rest ≡ drop (end + 1) line → found' ++ words rest ≡ all
words_more found found' all line rest end below nowhere is before is' is'' =
    rw (is', is'') (append_assoc found (as_words (take end line)) (words (drop (end + 1) line)) ∙ ap (λ l. found ++ l) (sym (words-first line end below nowhere is)) ∙ before)

pub rest_after : (line : List ℕ) (end : ℕ) → take (length (drop end line) - 1) (drop 1 (drop end line)) ≡ drop (end + 1) line
rest_after line end = take_rest (drop end line) 1 ∙ drop-drop 1 end line

first_filled : (b : ℕ) (parts : List (List ℕ)) → nat_lt 0 (length (filter is_filled (onto_first b parts))) ≡ true
first_filled b [] = lt-ltb 0 1 (omega arith)
first_filled b (part ∷ parts) =
    ap (λ t. nat_lt 0 (length (cond t ((b ∷ part) ∷ filter is_filled parts) (filter is_filled parts)))) (lt-ltb 0 (suc (length part)) (omega arith))
    ∙ lt-ltb 0 (suc (length (filter is_filled parts))) (omega arith)

-- a line has a word if not every byte divides words
pub word_found : (line : List ℕ) → not (list_all is_blank line) ≡ has_word line
word_found [] = refl
word_found (b ∷ s) =
    elim (is_blank b) as (λ t. not (t && list_all is_blank s) ≡ nat_lt 0 (length (filter is_filled (cond t ([] ∷ slice_split is_blank s) (onto_first b (slice_split is_blank s)))))) [
      | true ↦ word_found s
      | false ↦ sym (first_filled b (slice_split is_blank s))
    ]
