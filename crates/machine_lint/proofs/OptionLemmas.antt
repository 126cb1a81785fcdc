-- The words of a text whose front has been read.
use Rattle.std.proofs.Common.{◌≡◌, ◌∙◌, ℕ, Bool, true, false, cond, not, ◌&&◌, List, [], ◌∷◌, ◌++◌, refl, sym, ap, append_assoc, append-nil}
use Rattle.std.proofs.lemmas.List.Elements.{filter-append}
use Rattle.std.specs.List.{filter, onto_first}
use Rattle.text_parts.specs.Text.{is_filled}
use Rattle.machine_lint.specs.Options.{is_quote, is_white, option_words, parts_of}

-- the words of what is left of a text, behind a part that has begun
abbrev pub words_from : Bool → List ℕ → List ℕ → List (List ℕ)
words_from is_quoted part [] = filter is_filled (part ∷ [])
words_from is_quoted part (byte ∷ rest) =
    cond (is_white byte && not is_quoted) (filter is_filled (part ∷ []) ++ words_from false [] rest)
    (words_from (cond (is_quote byte) (not is_quoted) is_quoted) (part ++ byte ∷ []) rest)

abbrev behind : List ℕ → List (List ℕ) → List (List ℕ)
behind part [] = part ∷ []
behind part (first ∷ more) = (part ++ first) ∷ more

behind-one : (part : List ℕ) (byte : ℕ) (parts : List (List ℕ)) → behind (part ++ byte ∷ []) parts ≡ behind part (onto_first byte parts)
behind-one part byte [] = refl
behind-one part byte (first ∷ more) = ap (λ own. own ∷ more) (append_assoc part (byte ∷ []) first)

behind-none : (is_quoted : Bool) (text : List ℕ) → behind [] (parts_of is_quoted text) ≡ parts_of is_quoted text
behind-none is_quoted [] = refl
behind-none is_quoted (byte ∷ rest) =
    at (is_white byte && not is_quoted) (parts_of false rest) (parts_of (cond (is_quote byte) (not is_quoted) is_quoted) rest)
  where
    at : (b : Bool) (later parts : List (List ℕ)) → behind [] (cond b ([] ∷ later) (onto_first byte parts)) ≡ cond b ([] ∷ later) (onto_first byte parts)
    at true later parts = refl
    at false later [] = refl
    at false later (first ∷ more) = refl

-- white space ends a part
ended : (part : List ℕ) (parts words : List (List ℕ)) → words ≡ filter is_filled parts
    → filter is_filled (part ∷ []) ++ words ≡ filter is_filled ((part ++ []) ∷ parts)
ended part parts words own =
    ap (λ more. filter is_filled (part ∷ []) ++ more) own ∙ sym (filter-append is_filled (part ∷ []) parts)
    ∙ ap (λ first. filter is_filled (first ∷ parts)) (sym (append-nil part))

words_from-parts : (is_quoted : Bool) (part text : List ℕ) → words_from is_quoted part text ≡ filter is_filled (behind part (parts_of is_quoted text))
words_from-parts is_quoted part [] = ap (λ last. filter is_filled (last ∷ [])) (sym (append-nil part))
words_from-parts is_quoted part (byte ∷ rest) =
    at (is_white byte && not is_quoted)
    (words_from-parts false [] rest ∙ ap (filter is_filled) (behind-none false rest))
    (words_from-parts (cond (is_quote byte) (not is_quoted) is_quoted) (part ++ byte ∷ []) rest)
  where
    at : (b : Bool) → words_from false [] rest ≡ filter is_filled (parts_of false rest)
        → words_from (cond (is_quote byte) (not is_quoted) is_quoted) (part ++ byte ∷ []) rest
        ≡ filter is_filled (behind (part ++ byte ∷ []) (parts_of (cond (is_quote byte) (not is_quoted) is_quoted) rest))
        → cond b (filter is_filled (part ∷ []) ++ words_from false [] rest)
        (words_from (cond (is_quote byte) (not is_quoted) is_quoted) (part ++ byte ∷ []) rest)
        ≡ filter is_filled (behind part (cond b ([] ∷ parts_of false rest) (onto_first byte (parts_of (cond (is_quote byte) (not is_quoted) is_quoted) rest))))
    at true ends goes = ended part (parts_of false rest) (words_from false [] rest) ends
    at false ends goes = goes ∙ ap (filter is_filled) (behind-one part byte (parts_of (cond (is_quote byte) (not is_quoted) is_quoted) rest))

-- at the beginning of a text no part has begun
pub words_from-none : (text : List ℕ) → words_from false [] text ≡ option_words text
words_from-none text = words_from-parts false [] text ∙ ap (filter is_filled) (behind-none false text)
