-- At which places of a list a key stands.
use Rattle.std.specs.Prelude.{◌≡◌, ℕ, nat_le, nat_lt, if◌then◌else◌, List, [], ◌∷◌, ◌++◌, drop, take}
use Rattle.std.specs.List.{prefix_len}
use Rattle.std.specs.Str.{bytes_eq}
use Rattle.alias_match.specs.Aliases.{places_where}

-- the places of a key in a list, from 0 and rising
abbrev pub places_of : List (List ℕ) → List ℕ → List ℕ
places_of keys key = places_where (bytes_eq key) 0 keys

-- the places of a key, as pairs of keys and places tell them
abbrev pub places_in : List (List ℕ × List ℕ) → List ℕ → List ℕ
places_in [] key = []
places_in (pair ∷ pairs) key = if bytes_eq key pair.0 then pair.1 else places_in pairs key

-- the pairs with one place more of a key
abbrev pub with_place : List (List ℕ × List ℕ) → List ℕ → ℕ → List (List ℕ × List ℕ)
with_place [] key place = (key, place ∷ []) ∷ []
with_place (pair ∷ pairs) key place =
    if bytes_eq key pair.0 then (pair.0, pair.1 ++ place ∷ []) ∷ pairs else pair ∷ with_place pairs key place

-- the pairs tell the places of each key of a list
abbrev pub ArePlaces : List (List ℕ × List ℕ) → List (List ℕ) → Type 0
ArePlaces pairs keys = (key : List ℕ) → places_in pairs key ≡ places_of keys key

-- what stands before the first that is not below a place
abbrev pub those_below : ℕ → List ℕ → List ℕ
those_below place places = take (prefix_len (λ other. nat_lt other place) places) places

-- what begins with the first that is above a place
abbrev pub those_above : ℕ → List ℕ → List ℕ
those_above place places = drop (prefix_len (λ other. nat_le other place) places) places

-- two rising lists as one
abbrev pub merged : List ℕ → List ℕ → List ℕ
merged [] others = others
merged (place ∷ places) others = those_below place others ++ (place ∷ merged places (those_above place others))
