-- The lines of a name, as their places tell them.
use Rattle.std.proofs.Common.{◌≡◌, ℕ, suc, List, [], ◌∷◌, ◌==◌, Bool, true, false, not, ◌&&◌, ◌||◌, cond, length, map, filter, slice_get, Option, Some, None, Vec, Result, Ok, Err, IfOk, refl, ◌∙◌, ap, arith, inl, inr}
use Rattle.std.specs.Borrow.{Bor}
use Rattle.std.specs.Global.{Global}
use Rattle.std.specs.List.{cons_option, filter_map, list_any}
use Rattle.std.specs.Option.{option_map, unwrap_or}
use Rattle.std.specs.Str.{bytes_eq}
use Rattle.std.specs.declared.alloc.AllocError.{AllocError}
use Rattle.std.proofs.Math.Dec.{eqb-suc-zero}
use Rattle.std.proofs.lemmas.Slice.Eq.{bytes_eq-Decides}
use Rattle.alias_match.specs.Aliases.{places_where}
use Rattle.text_parts.specs.Text.{is_filled}
use Rattle.kmod_names.specs.Places.{ArePlaces, places_in}
use Rattle.kmod_names.proofs.PlaceLemmas.{told, all_at_places}
use Rattle.kmod_conf.specs.declared.line.TextLine.{TextLine}
use Rattle.kmod_conf.specs.ForProofs.{filled, filled_at}
use Rattle.kmod_conf.specs.LookUps.{is_alias, options_in}

same_either_way : (a b : List ℕ) → bytes_eq a b ≡ bytes_eq b a
same_either_way a b = grind (arith, bytes_eq-Decides a b, bytes_eq-Decides b a)

some_place : {X : Type 0} (f : X → List ℕ) (name : List ℕ) (k : ℕ) (lines : List X) → not (length (places_where (bytes_eq name) k (map f lines)) == 0) ≡ list_any (λ line. bytes_eq (f line) name) lines
some_place f name k [] = refl
some_place f name k (line ∷ lines) =
    let turned : bytes_eq (f line) name ≡ bytes_eq name (f line) = same_either_way (f line) name in
    elim (told (bytes_eq name (f line))) [
      | inl t ↦ rw (turned, t) (ap not (eqb-suc-zero (length (places_where (bytes_eq name) (suc k) (map f lines)))))
      | inr t ↦ rw (turned, t) (some_place f name (suc k) lines)
    ]

-- a name has a place if some line has it
pub has_line : {X : Type 0} (f : X → List ℕ) (pairs : List (List ℕ × List ℕ)) (inside lines : List X) (places name : List ℕ)
    → ArePlaces pairs (map f inside) → places ≡ places_in pairs name → inside ≡ lines → not (length places == 0) ≡ list_any (λ line. bytes_eq (f line) name) lines
has_line f pairs inside lines places name are is all =
    ap (λ l. not (length l == 0)) (is ∙ are name) ∙ some_place f name 0 inside ∙ ap (list_any (λ line. bytes_eq (f line) name)) all

filter-same : {X : Type 0} (p q : X → Bool) → ((x : X) → p x ≡ q x) → (xs : List X) → filter p xs ≡ filter q xs
filter-same p q h [] = refl
filter-same p q h (x ∷ xs) = rw (h x) (ap (λ l. cond (q x) (x ∷ l) l) (filter-same p q h xs))

filter-both : {X : Type 0} (p q : X → Bool) (xs : List X) → filter p (filter q xs) ≡ filter (λ x. p x && q x) xs
filter-both p q [] = refl
filter-both p q (x ∷ xs) = elim (told (q x)) [
  | inl t ↦ elim (told (p x)) [
    | inl u ↦ rw (t, u) (ap (λ l. x ∷ l) (filter-both p q xs))
    | inr u ↦ rw (t, u) (filter-both p q xs)
  ]
  | inr t ↦ elim (told (p x)) [
    | inl u ↦ rw (t, u) (filter-both p q xs)
    | inr u ↦ rw (t, u) (filter-both p q xs)
  ]
]

-- the lines with text at some places are the lines at them, those with text
at_filled : (all : List TextLine) (places : List ℕ) → filter_map (filled_at all) places ≡ filter (λ (line : TextLine). is_filled line.text) (filter_map (slice_get all) places)
at_filled all [] = refl
at_filled all (place ∷ places) = next (slice_get all place) (at_filled all places)
  where
    next : (at : Option TextLine)
        → filter_map (filled_at all) places ≡ filter (λ (line : TextLine). is_filled line.text) (filter_map (slice_get all) places)
        → cons_option (filled at) (filter_map (filled_at all) places) ≡ filter (λ (line : TextLine). is_filled line.text) (cons_option at (filter_map (slice_get all) places))
    next None h = h
    next (Some line) h = elim (told (is_filled line.text)) [ inl t ↦ rw t (ap (λ l. line ∷ l) h) | inr t ↦ rw t h ]

either : (name : List ℕ) (alias : Option (List ℕ)) (line : TextLine)
    → (is_filled line.text && (bytes_eq name line.name || bytes_eq (unwrap_or alias name) line.name)) ≡ (is_filled line.text && (bytes_eq line.name name || is_alias alias line.name))
either name None line = rw (same_either_way line.name name) (ap (λ b. is_filled line.text && b) (twice (bytes_eq name line.name)))
  where
    twice : (b : Bool) → (b || b) ≡ (b || false)
    twice true = refl
    twice false = refl
either name (Some alias) line = rw (same_either_way line.name name, same_either_way line.name alias) refl

pub or_own : (alias : Option (Bor (List ℕ))) (name : Bor (List ℕ)) → (unwrap_or alias name).now ≡ unwrap_or (option_map (λ own. own.now) alias) name.now
or_own None name = refl
or_own (Some alias) name = refl

-- the options of a module and of the alias by which it came
pub options_found : (result : Result (Vec (Bor TextLine) Global) AllocError) (at lines inside : List TextLine) (places name : List ℕ) (alias : Option (List ℕ)) (other : List ℕ) (pairs : List (List ℕ × List ℕ))
    → IfOk result (λ found. map (λ line. line.now) found.items ≡ filter_map (filled_at at) places)
    → at ≡ inside → inside ≡ lines → other ≡ unwrap_or alias name
    → ((keys : List (List ℕ)) → ArePlaces pairs keys → places ≡ places_where (λ key. bytes_eq name key || bytes_eq other key) 0 keys)
    → ArePlaces pairs (map (λ (line : TextLine). line.name) inside)
    → IfOk result (λ found. map (λ line. line.now) found.items ≡ options_in lines name alias)
options_found (Err e) at lines inside places name alias other pairs h same all is found are = tt
options_found (Ok found-lines) at lines inside places name alias other pairs h same all is found are =
    h
    ∙ ap (λ l. filter_map (filled_at l) places) same
    ∙ at_filled inside places
    ∙ ap (λ l. filter (λ (line : TextLine). is_filled line.text) (filter_map (slice_get inside) l)) (found (map (λ (line : TextLine). line.name) inside) are)
    ∙ ap (filter (λ (line : TextLine). is_filled line.text)) (all_at_places (λ (line : TextLine). line.name) (λ key. bytes_eq name key || bytes_eq other key) inside)
    ∙ filter-both (λ (line : TextLine). is_filled line.text) (λ (line : TextLine). bytes_eq name line.name || bytes_eq other line.name) inside
    ∙ ap (λ o. filter (λ (line : TextLine). is_filled line.text && (bytes_eq name line.name || bytes_eq o line.name)) inside) is
    ∙ filter-same _ _ (either name alias) inside
    ∙ ap (λ l. options_in l name alias) all
