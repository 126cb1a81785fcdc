-- What people are shown of any bytes.
use Rattle.std.specs.Prelude.{ℕ, Bool, not, ◌==◌, ◌||◌, nat_lt, if◌then◌else◌, List, [], ◌∷◌, ◌++◌, map}

abbrev pub is_control : ℕ → Bool
is_control byte = nat_lt byte 32 || byte == 127

-- a control character is shown as a question mark
abbrev pub shown_byte : ℕ → ℕ
shown_byte byte = if is_control byte then 63 else byte

-- a line feed, or no control character
abbrev pub is_shown : ℕ → Bool
is_shown byte = byte == 10 || not (is_control byte)

-- a text as it is shown, and the end of its line
abbrev pub shown_line : List ℕ → List ℕ
shown_line text = map shown_byte text ++ (10 ∷ [])
