-- The lines at the places that were found.
use Rattle.std.proofs.Common.{◌≡◌, ℕ, suc, List, [], ◌∷◌, ◌==◌, Bool, not, length, map, slice_get, Vec, Result, Ok, Err, IfOk, refl, ◌∙◌, ap, inl, inr}
use Rattle.std.specs.Borrow.{Bor}
use Rattle.std.specs.Global.{Global}
use Rattle.std.specs.List.{filter_map, list_any}
use Rattle.std.specs.Str.{bytes_eq}
use Rattle.std.specs.declared.alloc.AllocError.{AllocError}
use Rattle.std.proofs.Math.Dec.{eqb-suc-zero}
use Rattle.alias_match.specs.Aliases.{places_where}
use Rattle.kmod_names.specs.Patterns.{matches_pattern, pattern_places}
use Rattle.kmod_names.proofs.PlaceLemmas.{told, all_at_places}
use Rattle.kmod_index.specs.Builtins.{is_among}
use Rattle.kmod_index.specs.ForProofs.{key_of, pointed}
use Rattle.kmod_index.specs.Lines.{Keyed, lines_of_key}
use Rattle.kmod_names.specs.Places.{ArePlaces, places_in}
use Rattle.kmod_index.specs.Tries.{matching_lines, pattern_of}

pub found_by_key : (result : Result (Vec (Bor Keyed) Global) AllocError) (at lines inside : List Keyed) (places key : List ℕ) (pairs : List (List ℕ × List ℕ))
    → IfOk result (λ found. pointed found.items ≡ filter_map (slice_get at) places)
    → at ≡ inside → inside ≡ lines → places ≡ places_in pairs key → ArePlaces pairs (map key_of inside)
    → IfOk result (λ found. pointed found.items ≡ lines_of_key lines key)
found_by_key (Err e) at lines inside places key pairs h same all here are = tt
found_by_key (Ok found) at lines inside places key pairs h same all here are =
    h ∙ ap (λ l. filter_map (slice_get l) places) same
    ∙ ap (filter_map (slice_get inside)) (here ∙ are key)
    ∙ all_at_places key_of (bytes_eq key) inside
    ∙ ap (λ l. lines_of_key l key) all

pub found_by_pattern : (result : Result (Vec (Bor Keyed) Global) AllocError) (at lines inside : List Keyed) (places name : List ℕ)
    → IfOk result (λ found. pointed found.items ≡ filter_map (slice_get at) places)
    → at ≡ inside → inside ≡ lines → places ≡ pattern_places (map pattern_of inside) name
    → IfOk result (λ found. pointed found.items ≡ matching_lines lines name)
found_by_pattern (Err e) at lines inside places name h same all here = tt
found_by_pattern (Ok found) at lines inside places name h same all here =
    h ∙ ap (λ l. filter_map (slice_get l) places) same
    ∙ ap (filter_map (slice_get inside)) here
    ∙ all_at_places pattern_of (λ pattern. matches_pattern pattern name) inside
    ∙ ap (λ l. matching_lines l name) all

some_place : (p : List ℕ → Bool) (k : ℕ) (names : List (List ℕ)) → not (length (places_where p k names) == 0) ≡ list_any p names
some_place p k [] = refl
some_place p k (own ∷ names) = elim (told (p own)) [
  | inl t ↦ rw t (ap not (eqb-suc-zero (length (places_where p (suc k) names))))
  | inr t ↦ rw t (some_place p (suc k) names)
]

-- a name has a place if it is among the names
pub has_place : (pairs : List (List ℕ × List ℕ)) (names : List (List ℕ)) (places name : List ℕ) → ArePlaces pairs names → places ≡ places_in pairs name → not (length places == 0) ≡ is_among names name
has_place pairs names places name are is = ap (λ l. not (length l == 0)) (is ∙ are name) ∙ some_place (bytes_eq name) 0 names
