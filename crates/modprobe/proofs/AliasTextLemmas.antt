-- What the lines of a modules.alias text add is what its aliases do, and a name that parts early from what stands in the place of a
-- line's pattern does not match it.
use Rattle.std.proofs.Common.{arith, ◌≡◌, ℕ, ◌+◌, Bool, true, false, nat_eq, ◌==◌, ◌&&◌, ◌||◌, not, cond, List, [], ◌∷◌, ◌++◌, length, codes, filter, Option, Some, None, option_map, Result, Ok, Err, refl, sym, ◌∙◌, ap, subst, inl, inr}
use Rattle.std.proofs.lemmas.Bool.{lt-ltb}
use Rattle.std.specs.List.{enumerate_from, list_any, onto_first, slice_split}
use Rattle.std.specs.Str.{bytes_eq}
use Rattle.std.specs.Result.{result_ok}
use Rattle.std.specs.Str.Lines.{lines}
use Rattle.text_parts.specs.Text.{is_blank, is_comment, is_filled, normal_form, words}
use Rattle.alias_match.specs.declared.alias.Alias.{Alias}
use Rattle.alias_match.specs.declared.read.PatternError.{PatternError}
use Rattle.alias_match.specs.Aliases.{Entries, alias_of, aliases_of, before, entries_of, words_before}
use Rattle.alias_match.specs.Pattern.{Piece, byte, is_match}
use Rattle.alias_match.specs.Reading.{after_item, is_plain, item_of, pattern_of, pieces_before, pieces_from}
use Rattle.modprobe_conf.specs.Configuration.{Configuration, is_blacklisted}
use Rattle.load_plan.specs.LookUp.{free_targets, targets_of, with_name, with_names}
use Rattle.modprobe.specs.AliasText.{is_stop, parts_early, target_in_line, target_in_words, target_matching, targets_in_lines, with_free}
use Rattle.alias_match.proofs.Members.{told}

none_of : (a b c d e : Bool) → not (a || b || c || d || e) ≡ true → (a ≡ false) × (b ≡ false) × (c ≡ false) × (d ≡ false) × (e ≡ false)
none_of true b c d e h = absurd (cc)
none_of false true c d e h = absurd (cc)
none_of false false true d e h = absurd (cc)
none_of false false false true e h = absurd (cc)
none_of false false false false true h = absurd (cc)
none_of false false false false false h = (refl, refl, refl, refl, refl)

-- a byte that does not stop stands for itself, and is in a word
goes_on : (plain blank : Bool) → (not plain || blank) ≡ false → (plain ≡ true) × (blank ≡ false)
goes_on true true h = absurd (cc)
goes_on true false h = (refl, refl)
goes_on false blank h = absurd (cc)

plain_item : (b : ℕ) (s : List ℕ) → is_plain b ≡ true → item_of b s ≡ Ok (byte b, s)
plain_item b [] h =
    let none = none_of (b == 42) (b == 45) (b == 63) (b == 91) (b == 92) h in
    rw (none.3, none.0, none.2, none.4, none.1) refl
plain_item b (c ∷ s) h =
    let none = none_of (b == 42) (b == 45) (b == 63) (b == 91) (b == 92) h in
    rw (none.3, none.0, none.2, none.4, none.1) refl

-- whether what was read of a pattern matches a text
abbrev matches_read : Result (List Piece) PatternError → List ℕ → Bool
matches_read (Ok pieces) text = is_match pieces text
matches_read (Err fault) text = false

after_byte : (b : ℕ) (s : List ℕ) → is_plain b ≡ true → pattern_of (b ∷ s) ≡ pieces_before (byte b ∷ []) (pattern_of s)
after_byte b s h = ap (after_item (pieces_from (length s))) (plain_item b s h)

no_byte : (a b : ℕ) → (a == b) ≡ false → nat_eq a b ≡ false
no_byte a b h = h

read_none : (b n : ℕ) (text : List ℕ) (later : Result (List Piece) PatternError) → (b == n) ≡ false → matches_read (pieces_before (byte b ∷ []) later) (n ∷ text) ≡ false
read_none b n text (Ok pieces) h = ap (λ t. t && is_match pieces text) (no_byte b n h)
read_none b n text (Err fault) h = refl

read_more : (b n : ℕ) (text : List ℕ) (later : Result (List Piece) PatternError) → matches_read later text ≡ false → matches_read (pieces_before (byte b ∷ []) later) (n ∷ text) ≡ false
read_more b n text (Ok pieces) h = ap (λ t. nat_eq b n && t) h ∙ none (nat_eq b n)
  where
    none : (t : Bool) → (t && false) ≡ false
    none true = refl
    none false = refl
read_more b n text (Err fault) h = refl

no_truth : {A : Type 0} → false ≡ true → A
no_truth h = absurd (cc)

parts_none : (pattern text : List ℕ) → parts_early pattern text ≡ true → matches_read (pattern_of pattern) text ≡ false
parts_none [] text h = no_truth h
parts_none (b ∷ s) [] h = no_truth h
parts_none (b ∷ s) (n ∷ text) h = elim (told (is_stop b)) [
  | inl t ↦ no_truth (rw t at h)
  | inr t ↦
      (let plain : is_plain b ≡ true = (goes_on (is_plain b) (is_blank b) t).0 in
      ap (λ read. matches_read read (n ∷ text)) (after_byte b s plain) ∙ elim (told (b == n)) [
        | inl u ↦ read_more b n text (pattern_of s) (parts_none s text (rw (t, u) at h))
        | inr u ↦ read_none b n text (pattern_of s) u
      ])
]

-- the first part of a text, if it parts early
record PartsFirst (all : List (List ℕ)) (text : List ℕ) : Type 0 where
  first : List ℕ
  more : List (List ℕ)
  is : all ≡ first ∷ more
  parts : parts_early first text ≡ true

first_same : (b n : ℕ) (text : List ℕ) (all : List (List ℕ)) → is_stop b ≡ false → (b == n) ≡ true → PartsFirst all text → PartsFirst (onto_first b all) (n ∷ text)
first_same b n text all stop same found = record {
  first = b ∷ found.first;
  more = found.more;
  is = ap (onto_first b) found.is;
  parts = rw (stop, same) found.parts;
}

first_other : (b n : ℕ) (text : List ℕ) (all : List (List ℕ)) → is_stop b ≡ false → (b == n) ≡ false → PartsFirst (onto_first b all) (n ∷ text)
first_other b n text [] stop other = record { first = b ∷ []; more = []; is = refl; parts = rw (stop, other) refl }
first_other b n text (part ∷ parts) stop other = record { first = b ∷ part; more = parts; is = refl; parts = rw (stop, other) refl }

parts_first : (rest text : List ℕ) → parts_early rest text ≡ true → PartsFirst (slice_split is_blank rest) text
parts_first [] text h = no_truth h
parts_first (b ∷ rest) [] h = no_truth h
parts_first (b ∷ rest) (n ∷ text) h = elim (told (is_stop b)) [
  | inl t ↦ no_truth (rw t at h)
  | inr t ↦
      (let blank : is_blank b ≡ false = (goes_on (is_plain b) (is_blank b) t).1 in
      elim (told (b == n)) [
        | inl same ↦ rw blank (first_same b n text (slice_split is_blank rest) t same (parts_first rest text (rw (t, same) at h)))
        | inr other ↦ rw blank (first_other b n text (slice_split is_blank rest) t other)
      ])
]

-- a part that parts early is a word
filled : (first text : List ℕ) → parts_early first text ≡ true → is_filled first ≡ true
filled [] text h = no_truth h
filled (b ∷ first) text h = lt-ltb 0 (length (b ∷ first)) (omega arith)

words_first : (all : List (List ℕ)) (text : List ℕ) → PartsFirst all text → PartsFirst (filter is_filled all) text
words_first all text found = record {
  first = found.first;
  more = filter is_filled found.more;
  is = ap (filter is_filled) found.is ∙ first_stays (is_filled found.first) (filled found.first text found.parts);
  parts = found.parts;
}
  where
    first_stays : (t : Bool) → t ≡ true → cond t (found.first ∷ filter is_filled found.more) (filter is_filled found.more) ≡ found.first ∷ filter is_filled found.more
    first_stays true h = refl
    first_stays false h = absurd (cc)

of_pattern : (read : Result (List Piece) PatternError) (target text : List ℕ) → matches_read read text ≡ false
    → target_matching (option_map (λ (pieces : List Piece). record { pattern = pieces; target = target }) (result_ok read)) text ≡ []
of_pattern (Ok pieces) target text h = rw h refl
of_pattern (Err fault) target text h = refl

of_more : (first : List ℕ) (more : List (List ℕ)) (text : List ℕ) → parts_early first text ≡ true → target_in_words (codes "alias" ∷ first ∷ more) text ≡ []
of_more first [] text h = refl
of_more first (target ∷ more) text h = of_pattern (pattern_of first) (normal_form target) text (parts_none first text h)

of_words : (ws : List (List ℕ)) (text : List ℕ) → PartsFirst ws text → target_in_words (codes "alias" ∷ ws) text ≡ []
of_words ws text found = subst (λ l. target_in_words (codes "alias" ∷ l) text ≡ []) (sym found.is) (of_more found.first found.more text found.parts)

none_behind : (rest text : List ℕ) → parts_early rest text ≡ true → target_in_line (codes "alias " ++ rest) text ≡ []
none_behind rest text h = of_words (words rest) text (words_first (slice_split is_blank rest) text (parts_first rest text h))

-- a line whose pattern would part early from a text is no alias that the text matches
pub none_in_line : (line rest text : List ℕ) → line ≡ codes "alias " ++ rest → parts_early rest text ≡ true → target_in_line line text ≡ []
none_in_line line rest text is h = subst (λ l. target_in_line l text ≡ []) (sym is) (none_behind rest text h)

at_alias : (own : Option Alias) (number : ℕ) (later : Entries Alias) (name : List ℕ) → targets_of (before number own later).entries name ≡ target_matching own name ++ targets_of later.entries name
at_alias None number later name = refl
at_alias (Some alias) number later name = elim (told (is_match alias.pattern name)) [
  | inl t ↦ rw t refl
  | inr t ↦ rw t refl
]

at_words : (ws : List (List ℕ)) (number : ℕ) (later : Entries Alias) (name : List ℕ) → targets_of (words_before alias_of number ws later).entries name ≡ target_in_words ws name ++ targets_of later.entries name
at_words [] number later name = refl
at_words (w ∷ ws) number later name = at_alias (alias_of (w ∷ ws)) number later name

at_line : (is : Bool) (ws : List (List ℕ)) (number : ℕ) (later : Entries Alias) (name : List ℕ)
    → targets_of (cond is later (words_before alias_of number ws later)).entries name ≡ cond is [] (target_in_words ws name) ++ targets_of later.entries name
at_line true ws number later name = refl
at_line false ws number later name = at_words ws number later name

of_lines : (number : ℕ) (ls : List (List ℕ)) (name : List ℕ) → targets_of (entries_of alias_of (enumerate_from number ls)).entries name ≡ targets_in_lines ls name
of_lines number [] name = refl
of_lines number (line ∷ ls) name =
    at_line (is_comment line) (words line) number (entries_of alias_of (enumerate_from (number + 1) ls)) name
    ∙ ap (λ l. target_in_line line name ++ l) (of_lines (number + 1) ls name)

-- the targets in the lines of a text are those of its aliases
pub free_whole : (configuration : Configuration) (text name : List ℕ) → with_free configuration [] (targets_in_lines (lines text) name) ≡ with_names [] (free_targets configuration (aliases_of text).entries name)
free_whole configuration text name = ap (with_free configuration []) (sym (of_lines 1 (lines text) name))

-- targets that are added one after another
pub free_more : (configuration : Configuration) (found first more : List (List ℕ)) → with_free configuration (with_free configuration found first) more ≡ with_free configuration found (first ++ more)
free_more configuration found [] more = refl
free_more configuration found (target ∷ first) more = elim (told (is_blacklisted configuration target)) [
  | inl t ↦ rw t (free_more configuration found first more)
  | inr t ↦ rw t (free_more configuration (with_name found target) first more)
]

-- one target that is added
pub free_one : (configuration : Configuration) (found : List (List ℕ)) (target : List ℕ) (barred among : Bool) → barred ≡ is_blacklisted configuration target → among ≡ list_any (bytes_eq target) found
    → with_free configuration found (target ∷ []) ≡ cond (barred || among) found (found ++ target ∷ [])
free_one configuration found target barred among bars is = rw (← bars) (one barred)
  where
    one : (b : Bool) → with_names found (cond (not b) (target ∷ []) []) ≡ cond (b || among) found (found ++ target ∷ [])
    one true = refl
    one false = ap (λ t. cond t found (found ++ target ∷ [])) (sym is)

-- an alias that does not match adds nothing, and one that matches its target
pub free_unmatched : (configuration : Configuration) (found : List (List ℕ)) (alias : Alias) (name : List ℕ)
    → is_match alias.pattern name ≡ false → found ≡ with_free configuration found (target_matching (Some alias) name)
free_unmatched configuration found alias name h = rw h refl

pub free_matched : (configuration : Configuration) (found : List (List ℕ)) (alias : Alias) (name : List ℕ)
    → is_match alias.pattern name ≡ true → with_free configuration found (alias.target ∷ []) ≡ with_free configuration found (target_matching (Some alias) name)
free_matched configuration found alias name h = rw h refl
