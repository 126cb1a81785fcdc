-- Strings of JSON (RFC 8259).
use Rattle.std.specs.Prelude.{ℕ, ◌==◌, ◌||◌, ◌+◌, ◌/◌, ◌%◌, nat_lt, if◌then◌else◌, List, [], ◌∷◌, ◌++◌, codes}
use Rattle.std.specs.List.{flat_map}
use Rattle.std.specs.Str.Lossy.{utf8_lossy}
use Rattle.answer_facts.specs.Shown.{is_control}

-- a number below 16 as a hexadecimal digit
abbrev pub hex_digit : ℕ → ℕ
hex_digit n = if nat_lt n 10 then 48 + n else 87 + n

-- a byte of UTF-8 within quotes
abbrev pub escaped : ℕ → List ℕ
escaped byte =
    if byte == 34 || byte == 92 then 92 ∷ byte ∷ []
    else (if is_control byte then codes "\\u00" ++ (hex_digit (byte / 16) ∷ hex_digit (byte % 16) ∷ []) else byte ∷ [])

-- any bytes as a string: U+FFFD stands for bytes that are no UTF-8
unfoldable pub quoted : List ℕ → List ℕ
quoted text = 34 ∷ (flat_map escaped (utf8_lossy text) ++ (34 ∷ []))
