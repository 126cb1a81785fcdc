-- Lines of a journal and their commands.
use Rattle.std.proofs.Common.{arith, ◌≡◌, refl, ap, sym, ◌∙◌, ℕ, suc, ◌+◌, ◌<◌, true, false, Bool, ◌&&◌, not, List, [], ◌∷◌, ◌++◌, take, drop, length, map, Some, None, Vec, slice_index_or, ◌≤◌, drop_of_length-le}
use Rattle.std.specs.Prelude.{position, codes, if◌then◌else◌}
use Rattle.std.specs.List.{list_any, position_or_len, before_first, after_first}
use Rattle.std.specs.declared.alloc.Global.{Global}
use Rattle.std.specs.Str.{bytes_eq}
use Rattle.std.proofs.lemmas.Bool.Decides.{nat_tests}
use Rattle.std.proofs.lemmas.List.{append_assoc, map-append, take_all, take_at}
use Rattle.std.proofs.lemmas.List.Folds.{list_any-append}
use Rattle.line_journal.specs.Lines.{bytes_of, lines_of, at_rest, ended, with_front, counting}
use Rattle.durable_table.specs.Seals.{seal, are_sealed, last_link}
use Rattle.durable_table.specs.Commands.{title, head, named, no_name, is_space, is_feed, is_word, are_one, are_two_words, is_head, is_of, setup_named, StaysOf, begins_with_head, link_behind, commands_in, commands_of, first_unsealed, changed_line}
use Rattle.durable_table.proofs.ChainLemmas.{unsealed, seal_is_sealed, are_sealed-append, last_link-append}

pub begins_by_first : (lines : List (Vec ℕ Global)) (other : Vec ℕ Global) → 0 < length lines
    → begins_with_head (bytes_of lines) ≡ is_head (slice_index_or lines 0 other).items
begins_by_first [] other some = absurd (omega (arith, some))
begins_by_first (first ∷ rest) other some = refl

pub begins_not : (lines : List (Vec ℕ Global)) → length lines ≡ 0 → begins_with_head (bytes_of lines) ≡ false
begins_not [] none = refl
begins_not (first ∷ rest) none = absurd (omega (arith, none))

-- the lines behind the first have the numbers from 2 on
pub changed_behind : (lines : List (Vec ℕ Global)) (other : Vec ℕ Global) → 0 < length lines
    → first_unsealed 2 (slice_index_or lines 0 other).items (bytes_of (drop 1 lines)) ≡ changed_line (bytes_of lines)
changed_behind [] other some = absurd (omega (arith, some))
changed_behind (first ∷ rest) other some = refl

-- where the first space is
pub space_at : (text : List ℕ) (place : ℕ) → position is_space text ≡ Some place → position_or_len is_space text ≡ place
space_at text place is = grind (arith, nat_tests, is)

-- no two words without a space
pub no_space : (text : List ℕ) → position is_space text ≡ None → are_two_words text ≡ false
no_space text none =
    let past : length text ≤ position_or_len is_space text = grind (arith, nat_tests, none) in
    let nothing : after_first is_space text ≡ [] = drop_of_length-le text (omega (arith, past)) in
    grind (arith, ap is_word nothing)

-- without a space all is before the first one
pub all_before : (text : List ℕ) → position is_space text ≡ None → before_first is_space text ≡ text
all_before text none =
    let past : length text ≤ position_or_len is_space text = grind (arith, nat_tests, none) in
    take_all (position_or_len is_space text) text past

-- where a word ends
word_end : (word rest : List ℕ) → list_any is_space word ≡ false → position_or_len is_space (word ++ 32 ∷ rest) ≡ length word
word_end [] rest none = refl
word_end (byte ∷ word) rest none = grind (arith, nat_tests, none, word_end word rest)

behind_word : (word rest : List ℕ) → drop (length word + 1) (word ++ 32 ∷ rest) ≡ rest
behind_word [] rest = refl
behind_word (byte ∷ word) rest =
    let more : length (byte ∷ word) + 1 ≡ suc (length word + 1) = omega arith in
    ap (λ (n : ℕ). drop n (byte ∷ (word ++ 32 ∷ rest))) more ∙ behind_word word rest

-- the name on a first line is a word
named_is_word : (name : List ℕ) → is_word (named name) ≡ true
unfolding no_name
named_is_word name = grind arith

named_has_no_space : (name : List ℕ) → list_any is_space (named name) ≡ false
named_has_no_space name = grind (arith, named_is_word name)

named_has_no_feed : (name : List ℕ) → list_any is_feed (named name) ≡ false
unfolding no_name
named_has_no_feed name = grind arith

-- the name of a first line, and what stands behind it
behind_title : (name : List ℕ) → drop 20 (head name) ≡ named name ++ codes " -"
unfolding title
behind_title name = refl

name_before : (name : List ℕ) → before_first is_space (named name ++ codes " -") ≡ named name
name_before name =
    ap (λ (n : ℕ). take n (named name ++ 32 ∷ 45 ∷ [])) (word_end (named name) (45 ∷ []) (named_has_no_space name))
    ∙ take_at (named name) (32 ∷ 45 ∷ []) (length (named name)) refl

boot_behind : (name : List ℕ) → after_first is_space (named name ++ codes " -") ≡ 45 ∷ []
boot_behind name =
    ap (λ (n : ℕ). drop (n + 1) (named name ++ 32 ∷ 45 ∷ [])) (word_end (named name) (45 ∷ []) (named_has_no_space name))
    ∙ behind_word (named name) (45 ∷ [])

-- the first line of a new journal is one
two_words : (name : List ℕ) → are_two_words (named name ++ codes " -") ≡ true
two_words name = grind (arith, ap is_word (name_before name), ap is_word (boot_behind name), named_is_word name)

pub head_is_head : (name : List ℕ) → is_head (head name) ≡ true
unfolding title
head_is_head name = two_words name

-- it has no feed
head_has_no_feed : (name : List ℕ) → list_any is_feed (head name) ≡ false
unfolding title
head_has_no_feed name = grind (arith, list_any-append is_feed (named name) (codes " -"), named_has_no_feed name)

ended_line : (line rest : List ℕ) → list_any is_feed line ≡ false → ended (line ++ 10 ∷ rest) ≡ line ∷ ended rest
ended_line [] rest none = refl
ended_line (byte ∷ line) rest none = grind (arith, nat_tests, none, ended_line line rest)

one_line : (line : List ℕ) → list_any is_feed line ≡ false → lines_of (at_rest (line ∷ [])) ≡ line ∷ []
one_line line none =
    ap (λ (text : List ℕ). counting (with_front 43 (ended text))) (append_assoc line (10 ∷ []) (32 ∷ []))
    ∙ ap (λ (lines : List (List ℕ)). counting (with_front 43 lines)) (ended_line line (32 ∷ []) none)

-- the lines of a journal without commands
pub new_lines : (name : List ℕ) → lines_of (at_rest (head name ∷ [])) ≡ head name ∷ []
new_lines name = one_line (head name) (head_has_no_feed name)

-- the setup that it names
pub head_names : (name : List ℕ) → setup_named (head name) ≡ named name
head_names name = ap (before_first is_space) (behind_title name) ∙ name_before name

same_bytes : (text : List ℕ) → bytes_eq text text ≡ true
same_bytes [] = refl
same_bytes (byte ∷ rest) = grind (arith, nat_tests, same_bytes rest)

-- a name is one with itself, and with none
one_by : (is_word : Bool) (name : List ℕ) → are_one name (if is_word then name else no_name) ≡ true
one_by true name = grind (arith, same_bytes name)
one_by false name = grind (arith, same_bytes no_name)

-- a journal is of the setup for which it was made
pub head_is_of : (name : List ℕ) (lines : List (List ℕ)) → is_of name (head name ∷ lines) ≡ true
head_is_of name lines = ap (are_one name) (head_names name) ∙ one_by (is_word name && not (list_any is_feed name)) name

-- any journal is of no name
pub any_is_of : (lines : List (List ℕ)) → begins_with_head lines ≡ true → is_of no_name lines ≡ true
any_is_of [] begins = absurd (grind (arith, begins))
any_is_of (first ∷ rest) begins = grind (arith, same_bytes no_name)

-- lines more leave it so
pub of_more : (old new more : List (List ℕ)) → new ≡ old ++ more → StaysOf old new
of_more [] new more is name of = absurd (grind (arith, of))
of_more (first ∷ rest) new more is name of = ap (is_of name) is ∙ of

pub of_by_first : (lines : List (Vec ℕ Global)) (name : List ℕ) (other : Vec ℕ Global) → 0 < length lines
    → is_of name (bytes_of lines) ≡ are_one name (setup_named (slice_index_or lines 0 other).items)
of_by_first [] name other some = absurd (omega (arith, some))
of_by_first (first ∷ rest) name other some = refl

pub of_none : (lines : List (Vec ℕ Global)) (name : List ℕ) → length lines ≡ 0 → is_of name (bytes_of lines) ≡ false
of_none [] name none = refl
of_none (first ∷ rest) name none = absurd (omega (arith, none))

-- lines more that continue the chain are commands more
commands_in_all : (link : List ℕ) (lines more commands : List (List ℕ)) → commands_in link lines ≡ Some commands → are_sealed (last_link link lines) more ≡ true
    → commands_in link (lines ++ more) ≡ Some (commands ++ map (drop 17) more)
commands_in_all link lines more commands are all = grind (arith, are, all, are_sealed-append link lines more, map-append (drop 17) lines more)

pub commands_of_all : (lines more commands : List (List ℕ)) → commands_of lines ≡ Some commands → are_sealed (link_behind lines) more ≡ true
    → commands_of (lines ++ more) ≡ Some (commands ++ map (drop 17) more)
commands_of_all [] more commands are all = grind arith
commands_of_all (first ∷ rest) more commands are all = grind (arith, commands_in_all first rest more commands)
