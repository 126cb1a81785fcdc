-- What is found in one line, before what is found in the later ones.
use Rattle.std.proofs.Common.{◌≡◌, ℕ, Bool, true, false, ◌||◌, List, [], ◌∷◌, ◌++◌, Option, Some, None, filter, refl, ap, append_assoc, inl, inr}
use Rattle.std.specs.List.{cons_option}
use Rattle.std.specs.Option.{option_or, option_to_list}
use Rattle.std.specs.Str.{bytes_eq}
use Rattle.std.proofs.lemmas.List.{append-nil}
use Rattle.kmod_names.proofs.PlaceLemmas.{told}
use Rattle.kmod_index.specs.Builtins.{is_among}
use Rattle.kmod_index.specs.Dependencies.{Dependencies, line_of, name_of}
use Rattle.kmod_index.specs.Lines.{Keyed, lines_of_key}
use Rattle.kmod_index.specs.Tries.{matching_lines}

filter_more : {X : Type 0} (p : X → Bool) (found : List X) (x : Option X) (rest : List X) → (found ++ filter p (option_to_list x)) ++ filter p rest ≡ found ++ filter p (cons_option x rest)
filter_more p found None rest = ap (λ l. l ++ filter p rest) (append-nil found)
filter_more p found (Some x) rest = elim (told (p x)) [
  | inl t ↦ rw t (append_assoc found (x ∷ []) (filter p rest))
  | inr t ↦ rw t (ap (λ l. l ++ filter p rest) (append-nil found))
]

pub matching_more : (found : List Keyed) (line : Option Keyed) (rest : List Keyed) (name : List ℕ) → (found ++ matching_lines (option_to_list line) name) ++ matching_lines rest name ≡ found ++ matching_lines (cons_option line rest) name
matching_more found line rest name = filter_more _ found line rest

pub of_key_more : (found : List Keyed) (line : Option Keyed) (rest : List Keyed) (key : List ℕ) → (found ++ lines_of_key (option_to_list line) key) ++ lines_of_key rest key ≡ found ++ lines_of_key (cons_option line rest) key
of_key_more found line rest key = filter_more _ found line rest

pub line_found : (line : Option Dependencies) (rest : List Dependencies) (name : List ℕ) → line_of (cons_option line rest) name ≡ option_or (line_of (option_to_list line) name) (line_of rest name)
line_found None rest name = refl
line_found (Some line) rest name = elim (told (bytes_eq name (name_of line))) [
  | inl t ↦ rw t refl
  | inr t ↦ rw t refl
]

or_or : (a b : Bool) → (a || b) ≡ ((a || false) || b)
or_or true b = refl
or_or false b = refl

pub among_more : (own : Option (List ℕ)) (rest : List (List ℕ)) (name : List ℕ) → is_among (cons_option own rest) name ≡ (is_among (option_to_list own) name || is_among rest name)
among_more None rest name = refl
among_more (Some own) rest name = or_or (bytes_eq name own) (is_among rest name)
