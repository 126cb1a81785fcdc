-- The words of a line that is made of words.
use Rattle.std.proofs.Common.{◌≡◌, ℕ, Bool, true, false, not, List, [], ◌∷◌, ◌++◌, refl, ap, ◌∙◌}
use Rattle.std.specs.Prelude.{◌&&◌, ◌||◌, ◌==◌}
use Rattle.std.specs.List.{flat_map, list_all, list_any}
use Rattle.std.proofs.lemmas.List.Elements.{All-nil, All-cons}
use Rattle.std.proofs.lemmas.List.{append-nil}
use Rattle.text_parts.specs.Text.{is_blank, is_filled, words}
use Rattle.text_parts.proofs.WordLemmas.{HasNoBlank, as_words, words-cut, words-whole}
use Rattle.table_words.specs.Lines.{divides, is_line_word, line_of, next_word}

and_left : (a b : Bool) → (a && b) ≡ true → a ≡ true
and_left true b e = refl
and_left false b e = cc

and_right : (a b : Bool) → (a && b) ≡ true → b ≡ true
and_right true b e = e
and_right false b e = cc

or_left : (a b : Bool) → not (a || b) ≡ true → a ≡ false
or_left true b e = cc
or_left false b e = refl

or_right : (a b : Bool) → not (a || b) ≡ true → not b ≡ true
or_right true b e = cc
or_right false b e = e

none_left : (a b : Bool) → a || b ≡ false → a ≡ false
none_left true b e = cc
none_left false b e = refl

no_blank : (word : List ℕ) → not (list_any divides word) ≡ true → HasNoBlank word
no_blank [] none = All-nil (λ byte. is_blank byte ≡ false)
no_blank (b ∷ s) none =
    All-cons (λ byte. is_blank byte ≡ false) b s
    (none_left (is_blank b) (b == 10 || b == 13) (or_left (divides b) (list_any divides s) none))
    (no_blank s (or_right (divides b) (list_any divides s) none))

one_word : (word : List ℕ) → is_filled word ≡ true → as_words word ≡ word ∷ []
one_word word filled = rw filled refl

words_from : (word : List ℕ) (later : List (List ℕ)) → list_all is_line_word (word ∷ later) ≡ true → words (word ++ flat_map next_word later) ≡ word ∷ later
words_from word [] all =
    let own : is_line_word word ≡ true = and_left (is_line_word word) true all in
    ap words (append-nil word) ∙ words-whole word (no_blank word (and_right (is_filled word) (not (list_any divides word)) own))
    ∙ one_word word (and_left (is_filled word) (not (list_any divides word)) own)
words_from word (next ∷ later) all =
    let own : is_line_word word ≡ true = and_left (is_line_word word) (list_all is_line_word (next ∷ later)) all in
    words-cut word (next ++ flat_map next_word later) 32 (no_blank word (and_right (is_filled word) (not (list_any divides word)) own)) refl
    ∙ ap (λ (front : List (List ℕ)). front ++ words (next ++ flat_map next_word later)) (one_word word (and_left (is_filled word) (not (list_any divides word)) own))
    ∙ ap (λ (rest : List (List ℕ)). word ∷ rest) (words_from next later (and_right (is_line_word word) (list_all is_line_word (next ∷ later)) all))

pub words_stay : (line : List ℕ) (all : List (List ℕ)) → line ≡ line_of all → list_all is_line_word all ≡ true → words line ≡ all
words_stay line [] is good = ap words is
words_stay line (word ∷ later) is good = ap words is ∙ words_from word later good
