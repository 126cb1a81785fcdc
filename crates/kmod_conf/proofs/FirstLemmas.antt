-- The lines at the places of names that match are those whose names match.
use Rattle.std.proofs.Common.{◌≡◌, ℕ, Bool, ◌||◌, List, [], ◌∷◌, map, filter, slice_get, Option, Vec, Result, Ok, Err, IfOk, refl, ◌∙◌, ap}
use Rattle.std.specs.Borrow.{Bor}
use Rattle.std.specs.Global.{Global}
use Rattle.std.specs.List.{filter_map, find, list_any}
use Rattle.std.specs.declared.alloc.AllocError.{AllocError}
use Rattle.std.specs.Str.{bytes_eq}
use Rattle.kmod_names.specs.Patterns.{first_pattern, matches_pattern, pattern_places, place_named}
use Rattle.kmod_names.proofs.PlaceLemmas.{all_at_places, at_first, at_place}

pub all_found : {X : Type 0} (f : X → List ℕ) (result : Result (Vec (Bor X) Global) AllocError) (at inside lines : List X) (names : List (List ℕ)) (places name : List ℕ)
    → IfOk result (λ found. map (λ line. line.now) found.items ≡ filter_map (slice_get at) places)
    → at ≡ inside → places ≡ pattern_places names name → names ≡ map f inside → inside ≡ lines
    → IfOk result (λ found. map (λ line. line.now) found.items ≡ filter (λ x. matches_pattern (f x) name) lines)
all_found f (Err e) at inside lines names places name h here found same all = tt
all_found f (Ok found-lines) at inside lines names places name h here found same all =
    h ∙ ap (λ l. filter_map (slice_get l) places) here
    ∙ ap (filter_map (slice_get inside)) (found ∙ ap (λ l. pattern_places l name) same)
    ∙ all_at_places f (λ pattern. matches_pattern pattern name) inside
    ∙ ap (filter (λ x. matches_pattern (f x) name)) all

-- and the line at the place of the first is the first
pub first_found : {X : Type 0} (f : X → List ℕ) (inside lines : List X) (names : List (List ℕ)) (name : List ℕ) (found : Option ℕ)
    → found ≡ first_pattern names name → names ≡ map f inside → inside ≡ lines → at_place inside found ≡ find (λ x. matches_pattern (f x) name) lines
first_found f inside lines names name found h same all =
    ap (at_place inside) (h ∙ ap (λ l. first_pattern l name) same)
    ∙ at_first f (λ pattern. matches_pattern pattern name) inside
    ∙ ap (find (λ x. matches_pattern (f x) name)) all

-- and the line at the place of the first name that is a text is the first that has it
pub named_found : {X : Type 0} (f : X → List ℕ) (inside lines : List X) (names : List (List ℕ)) (name : List ℕ) (found : Option ℕ)
    → found ≡ place_named names name → names ≡ map f inside → inside ≡ lines → at_place inside found ≡ find (λ x. bytes_eq (f x) name) lines
named_found f inside lines names name found h same all =
    ap (at_place inside) (h ∙ ap (λ l. place_named l name) same)
    ∙ at_first f (λ own. bytes_eq own name) inside
    ∙ ap (find (λ x. bytes_eq (f x) name)) all

any-map : {X Y : Type 0} (f : X → Y) (p : Y → Bool) (xs : List X) → list_any p (map f xs) ≡ list_any (λ x. p (f x)) xs
any-map f p [] = refl
any-map f p (x ∷ xs) = ap (λ later. p (f x) || later) (any-map f p xs)

-- some line has the name that some name is
pub name_found : {X : Type 0} (f : X → List ℕ) (inside lines : List X) (names : List (List ℕ)) (name : List ℕ) (found : Bool)
    → found ≡ list_any (λ own. bytes_eq own name) names → names ≡ map f inside → inside ≡ lines → found ≡ list_any (λ x. bytes_eq (f x) name) lines
name_found f inside lines names name found h same all =
    h ∙ ap (list_any (λ own. bytes_eq own name)) same ∙ any-map f (λ own. bytes_eq own name) inside ∙ ap (list_any (λ x. bytes_eq (f x) name)) all
