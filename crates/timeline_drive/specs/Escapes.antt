-- How bytes are shown in a picture.
use Rattle.std.specs.Prelude.{◌≡◌, ℕ, nat_le, Bool, true, not, ◌&&◌, ◌==◌, if◌then◌else◌, List, [], ◌∷◌, flat_map, codes}
use Rattle.std.specs.List.{list_all}

-- U+FFFD in UTF-8, which stands for what is no printed character of ASCII
abbrev pub unknown : List ℕ
unknown = 239 ∷ 191 ∷ 189 ∷ []

-- a byte: XML's five special characters by their entities, every other printed one as it is
abbrev pub shown : ℕ → List ℕ
shown byte =
    if byte == 38 then codes "&amp;"
    else (if byte == 60 then codes "&lt;"
    else (if byte == 62 then codes "&gt;"
    else (if byte == 34 then codes "&quot;"
    else (if byte == 39 then codes "&#39;"
    else (if nat_le 32 byte && nat_le byte 126 then byte ∷ [] else unknown)))))

abbrev pub escaped : List ℕ → List ℕ
escaped text = flat_map shown text

-- a byte that begins or ends no tag and no value of an attribute
abbrev pub is_text : ℕ → Bool
is_text byte = not (byte == 60) && not (byte == 62) && not (byte == 34) && not (byte == 39)

-- whatever a text is, escaped it has no `<`, `>` or quote
abbrev pub EscapesMarks : Type 0
EscapesMarks = (text : List ℕ) → list_all is_text (escaped text) ≡ true
