-- The two parts of a text at one of its bytes.
use Rattle.std.specs.Prelude.{ℕ, if◌then◌else◌, ◌==◌, List, [], ◌∷◌, ◌++◌, Option, Some, None}
use Rattle.std.specs.List.{list_any}

-- bytes before the first of two parts
abbrev pub onto_parts : List ℕ → Option (List ℕ × List ℕ) → Option (List ℕ × List ℕ)
onto_parts front None = None
onto_parts front (Some parts) = Some (front ++ parts.0, parts.1)

-- the parts before and after the first byte of this value, if there is one
abbrev pub at_first : ℕ → List ℕ → Option (List ℕ × List ℕ)
at_first byte [] = None
at_first byte (b ∷ s) = if b == byte then Some ([], s) else onto_parts (b ∷ []) (at_first byte s)

-- the parts before and after the last byte of this value, if there is one
abbrev pub at_last : ℕ → List ℕ → Option (List ℕ × List ℕ)
at_last byte [] = None
at_last byte (b ∷ s) =
    if list_any (λ c. c == byte) s then onto_parts (b ∷ []) (at_last byte s)
    else (if b == byte then Some ([], s) else None)
