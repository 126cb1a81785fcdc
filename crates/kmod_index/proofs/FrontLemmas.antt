-- A name from whose front the text of a line parts early does not match the line's key.
use Rattle.std.proofs.Common.{◌≡◌, ℕ, zero, suc, Bool, true, false, not, nat_eq, nat_lt, ◌==◌, ◌&&◌, ◌||◌, if◌then◌else◌, List, [], ◌∷◌, ◌++◌, cond, codes, drop, take, take_all, length, Option, Some, None, Result, Ok, Err, refl, sym, ◌∙◌, ap, inl, inr, arith}
use Rattle.std.specs.Prelude.{position}
use Rattle.std.specs.List.{before_first, list_any, position_or_len, starts_with}
use Rattle.std.proofs.lemmas.Bool.{eqb-true}
use Rattle.std.proofs.lemmas.Grind.{common_steps}
use Rattle.std.proofs.lemmas.List.Sums.{take_while-cons}
use Rattle.std.specs.Option.{option_to_list}
use Rattle.std.proofs.lemmas.Bool.{or_parts}
use Rattle.alias_match.specs.declared.read.PatternError.{PatternError}
use Rattle.alias_match.specs.Pattern.{Piece, byte, is_match}
use Rattle.alias_match.specs.Reading.{after_item, item_of, pattern_of, pieces_from}
use Rattle.kmod_names.specs.ForProofs.{is_special}
use Rattle.kmod_names.specs.Names.{normal_alias, normal_from, put_before}
use Rattle.kmod_names.specs.Patterns.{matches_pattern, matches_read}
use Rattle.kmod_names.proofs.PlaceLemmas.{told}
use Rattle.kmod_index.specs.Aliases.{alias_of_line, in_normal_form, with_key}
use Rattle.kmod_index.specs.ForProofs.{is_stop, parts_early}
use Rattle.kmod_index.specs.Lines.{Keyed, keyed_from}
use Rattle.kmod_index.specs.Parts.{at_last, onto_parts}
use Rattle.kmod_index.specs.Tries.{is_wild, matching_lines, pattern_of_key}

none_of : (a b c d e : Bool) → (a || b || c || d || e) ≡ false → (a ≡ false) × (b ≡ false) × (c ≡ false) × (d ≡ false) × (e ≡ false)
none_of true b c d e h = absurd (cc)
none_of false true c d e h = absurd (cc)
none_of false false true d e h = absurd (cc)
none_of false false false true e h = absurd (cc)
none_of false false false false true h = absurd (cc)
none_of false false false false false h = (refl, refl, refl, refl, refl)

-- a byte that is not special is an item
plain_item : (b : ℕ) (s : List ℕ) → is_special b ≡ false → item_of b s ≡ Ok (byte b, s)
plain_item b [] h =
    let none = none_of (b == 42) (b == 45) (b == 63) (b == 91) (b == 92) h in
    rw (none.3, none.0, none.2, none.4, none.1) refl
plain_item b (c ∷ s) h =
    let none = none_of (b == 42) (b == 45) (b == 63) (b == 91) (b == 92) h in
    rw (none.3, none.0, none.2, none.4, none.1) refl

-- whether a pattern has another byte than a text, with only bytes that stand for themselves up to there
abbrev pattern_parts : List ℕ → List ℕ → Bool
pattern_parts [] text = false
pattern_parts (b ∷ pattern) [] = false
pattern_parts (b ∷ pattern) (n ∷ text) = if is_special b then false else (if b == n then pattern_parts pattern text else true)

-- a pattern behind a byte that stands for itself
behind_byte : (b : ℕ) (s : List ℕ) → is_special b ≡ false → pattern_of (b ∷ s) ≡ after_item (λ later. pattern_of s) (Ok (byte b, s))
behind_byte b s h = ap (after_item (pieces_from (length s))) (plain_item b s h)

no_byte : (a b : ℕ) → (a == b) ≡ false → nat_eq a b ≡ false
no_byte a b h = h

read_none : (b n : ℕ) (s text : List ℕ) (later : Result (List Piece) PatternError) → (b == n) ≡ false → matches_read (after_item (λ rest. later) (Ok (byte b, s))) (n ∷ text) ≡ false
read_none b n s text (Ok pieces) h = ap (λ t. t && is_match pieces text) (no_byte b n h)
read_none b n s text (Err fault) h = refl

read_more : (b n : ℕ) (s text : List ℕ) (later : Result (List Piece) PatternError) → matches_read later text ≡ false → matches_read (after_item (λ rest. later) (Ok (byte b, s))) (n ∷ text) ≡ false
read_more b n s text (Ok pieces) h = ap (λ t. nat_eq b n && t) h ∙ none (nat_eq b n)
  where
    none : (t : Bool) → (t && false) ≡ false
    none true = refl
    none false = refl
read_more b n s text (Err fault) h = refl

parts_none : (pattern text : List ℕ) → pattern_parts pattern text ≡ true → matches_pattern pattern text ≡ false
parts_none [] text h = absurd (cc)
parts_none (b ∷ s) [] h = absurd (cc)
parts_none (b ∷ s) (n ∷ text) h = elim (told (is_special b)) [
  | inl t ↦ absurd (let no : false ≡ true = rw t at h in cc)
  | inr t ↦ ap (λ read. matches_read read (n ∷ text)) (behind_byte b s t) ∙ elim (told (b == n)) [
    | inl u ↦ read_more b n s text (pattern_of s) (parts_none s text (rw (t, u) at h))
    | inr u ↦ read_none b n s text (pattern_of s) u
  ]
]

no_truth : {A : Type 0} → false ≡ true → A
no_truth h = absurd (cc)

-- what is said not to be a stop byte is none
no_stop : (stop : Bool) → not stop ≡ true → stop ≡ false
no_stop true h = no_truth h
no_stop false h = refl

-- whether a text has another byte than a name somewhere, with no stop byte up to there
abbrev stands_apart : List ℕ → List ℕ → Bool
stands_apart [] name = false
stands_apart (b ∷ text) [] = false
stands_apart (b ∷ text) (n ∷ name) = if is_stop b then false else (if b == n then stands_apart text name else true)

-- the front of a name that begins with a stop byte, and of one that does not
front_stops : (n : ℕ) (name : List ℕ) → is_stop n ≡ true → before_first is_stop (n ∷ name) ≡ []
front_stops n name stop = take_while-cons (λ b. not (is_stop b)) n name ∙ rw stop refl

front_goes_on : (n : ℕ) (name : List ℕ) → is_stop n ≡ false → before_first is_stop (n ∷ name) ≡ n ∷ before_first is_stop name
front_goes_on n name plain = take_while-cons (λ b. not (is_stop b)) n name ∙ rw plain refl

-- up to where they part a text has the bytes of the front, which are no stop bytes
apart_from_name : (text name : List ℕ) → parts_early text (before_first is_stop name) ≡ true → stands_apart text name ≡ true
apart_from_name [] name h = no_truth h
apart_from_name (b ∷ text) [] h = no_truth h
apart_from_name (b ∷ text) (n ∷ name) h = elim (told (is_stop n)) [
  | inl stop ↦ no_truth (rw (front_stops n name stop) at h)
  | inr plain ↦ (let parts = rw (front_goes_on n name plain) at h in elim (told (b == n)) [
    | inl same ↦
        let own : is_stop b ≡ false = ap is_stop (eqb-true b n same) ∙ plain in
        rw (own, same) (apart_from_name text name (rw same at parts))
    | inr other ↦ (let own : is_stop b ≡ false = no_stop (is_stop b) (rw other at parts) in rw (own, other) refl)
  ])
]

-- the key of two parts stands apart from a name
abbrev pub KeyParts : List ℕ → Option (List ℕ × List ℕ) → Type 0
KeyParts name None = Unit {0}
KeyParts name (Some parts) = stands_apart parts.0 name ≡ true

onto_same : (b n : ℕ) (name : List ℕ) (parts : Option (List ℕ × List ℕ)) → is_stop b ≡ false → (b == n) ≡ true → KeyParts name parts → KeyParts (n ∷ name) (onto_parts (b ∷ []) parts)
onto_same b n name None stop same h = tt
onto_same b n name (Some parts) stop same h = rw (stop, same) h

onto_other : (b n : ℕ) (name : List ℕ) (parts : Option (List ℕ × List ℕ)) → is_stop b ≡ false → (b == n) ≡ false → KeyParts (n ∷ name) (onto_parts (b ∷ []) parts)
onto_other b n name None stop same = tt
onto_other b n name (Some parts) stop same = rw (stop, same) refl

-- a key ends at a blank, which is a stop byte: what stands behind the line does not count
key_parts : (text tail name : List ℕ) → stands_apart (text ++ tail) name ≡ true → KeyParts name (at_last 32 text)
key_parts [] tail name h = tt
key_parts (b ∷ text) tail [] h = no_truth h
key_parts (b ∷ text) tail (n ∷ name) h = elim (told (is_stop b)) [
  | inl t ↦ no_truth (rw t at h)
  | inr t ↦ elim (told (list_any (λ c. c == 32) text)) [
    | inl any ↦ elim (told (b == n)) [
      | inl same ↦ rw any (onto_same b n name (at_last 32 text) t same (key_parts text tail name (rw (t, same) at h)))
      | inr same ↦ rw any (onto_other b n name (at_last 32 text) t same)
    ]
    | inr any ↦ (let blank : (b == 32) ≡ false = (or_parts (is_special b) (b == 32) t).1 in rw (any, blank) tt)
  ]
]

-- the same behind the first bytes of the line; a line that has no more has no key
key_parts_behind : (skipped : ℕ) (line tail name : List ℕ) → stands_apart (drop skipped (line ++ tail)) name ≡ true → KeyParts name (at_last 32 (drop skipped line))
key_parts_behind zero line tail name h = key_parts line tail name h
key_parts_behind (suc skipped) [] tail name h = tt
key_parts_behind (suc skipped) (b ∷ line) tail name h = key_parts_behind skipped line tail name h

-- the pattern of a normal form parts early from a name
abbrev pub NormalParts : List ℕ → Option (List ℕ) → Type 0
NormalParts name None = Unit {0}
NormalParts name (Some normal) = pattern_parts (pattern_of_key normal) name ≡ true

-- a byte that stands for itself in a key, a normal form and a pattern
record Plain (b : ℕ) : Type 0 where
  special : is_special b ≡ false
  dash : (b == 45) ≡ false
  bracket : (b == 91) ≡ false
  slash : (b == 92) ≡ false
  wild : is_wild b ≡ false

plain : (b : ℕ) → is_stop b ≡ false → Plain b
plain b h =
    let special : is_special b ≡ false = (or_parts (is_special b) (b == 32) h).0 in
    let none = none_of (b == 42) (b == 45) (b == 63) (b == 91) (b == 92) special in
    record { special = special; dash = none.1; bracket = none.3; slash = none.4; wild = rw (none.0, none.2, none.3) refl }

put_same : (b n : ℕ) (name : List ℕ) (normal : Option (List ℕ)) → Plain b → (b == n) ≡ true → NormalParts name normal → NormalParts (n ∷ name) (put_before (b ∷ []) normal)
put_same b n name None p same h = tt
put_same b n name (Some normal) p same h = rw (p.wild, p.slash, p.special, same) h

put_other : (b n : ℕ) (name : List ℕ) (normal : Option (List ℕ)) → Plain b → (b == n) ≡ false → NormalParts (n ∷ name) (put_before (b ∷ []) normal)
put_other b n name None p same = tt
put_other b n name (Some normal) p same = rw (p.wild, p.slash, p.special, same) refl

pub normal_parts : (key name : List ℕ) → stands_apart key name ≡ true → NormalParts name (normal_from false key)
normal_parts [] name h = no_truth h
normal_parts (b ∷ key) [] h = no_truth h
normal_parts (b ∷ key) (n ∷ name) h = elim (told (is_stop b)) [
  | inl t ↦ no_truth (rw t at h)
  | inr t ↦ elim (told (b == 93)) [
    | inl closes ↦ rw closes tt
    | inr closes ↦ (let p : Plain b = plain b t in elim (told (b == n)) [
      | inl same ↦ rw (closes, p.dash, p.bracket) (put_same b n name (normal_from false key) p same (normal_parts key name (rw (t, same) at h)))
      | inr same ↦ rw (closes, p.dash, p.bracket) (put_other b n name (normal_from false key) p same)
    ])
  ]
]

keyed_none : (line : Keyed) (name : List ℕ) (normal : Option (List ℕ)) → NormalParts name normal → matching_lines (option_to_list (with_key line normal)) name ≡ []
keyed_none line name None h = refl
keyed_none line name (Some normal) h = rw (parts_none (pattern_of_key normal) name h) refl

none_of_parts : (number : ℕ) (name : List ℕ) (parts : Option (List ℕ × List ℕ)) → KeyParts name parts → matching_lines (option_to_list (in_normal_form (keyed_from number parts))) name ≡ []
none_of_parts number name None h = refl
none_of_parts number name (Some parts) h =
    keyed_none (record { key = parts.0; name = parts.1; number = number }) name (normal_alias parts.0) (normal_parts parts.0 name h)

-- a line is no alias that a name matches, if a text that begins with it parts early from the front of the name
pub is_none_of_line : (number : ℕ) (line tail name : List ℕ) → parts_early (drop 6 (line ++ tail)) (before_first is_stop name) ≡ true → matching_lines (option_to_list (alias_of_line (number, line))) name ≡ []
is_none_of_line number line tail name h = next (starts_with nat_eq line (codes "alias "))
  where
    next : (is_alias : Bool) → matching_lines (option_to_list (in_normal_form (keyed_from number (cond is_alias (at_last 32 (drop 6 line)) None)))) name ≡ []
    next true = none_of_parts number name (at_last 32 (drop 6 line)) (key_parts_behind 6 line tail name (apart_from_name (drop 6 (line ++ tail)) name h))
    next false = refl

-- a name up to its first stop byte, by the place of that byte
pub front_at : (name : List ℕ) (end : ℕ) → Some end ≡ position is_stop name → take end name ≡ before_first is_stop name
front_at name end is = elim (told (nat_lt (position_or_len is_stop name) (length name))) [
  | inl before ↦ (let at : Some end ≡ Some (position_or_len is_stop name) = rw before at is in let same : end ≡ position_or_len is_stop name = cc in ap (λ n. take n name) same)
  | inr whole ↦ (let at : Some end ≡ None = rw whole at is in absurd (cc))
]

pub front_whole : (name : List ℕ) → None ≡ position is_stop name → name ≡ before_first is_stop name
front_whole name is = elim (told (nat_lt (position_or_len is_stop name) (length name))) [
  | inl before ↦ (let at : None ≡ Some (position_or_len is_stop name) = rw before at is in absurd (cc))
  | inr whole ↦ sym (take_all (position_or_len is_stop name) name (grind (arith, common_steps)))
]
