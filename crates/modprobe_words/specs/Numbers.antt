-- Numbers as C reads them (strtol(3)).
use Rattle.std.specs.Prelude.{ℕ, Bool, ◌==◌, ◌&&◌, ◌||◌, nat_le, nat_lt, if◌then◌else◌, List, [], ◌∷◌, length, drop, codes, nat_eq}
use Rattle.std.specs.List.{list_all, starts_with}
use Rattle.text_parts.specs.Text.{is_digit}

-- white space of C's isspace
abbrev pub is_space : ℕ → Bool
is_space byte = byte == 32 || nat_le 9 byte && nat_le byte 13

abbrev pub is_octal : ℕ → Bool
is_octal byte = nat_le 48 byte && nat_le byte 55

abbrev pub is_hexadecimal : ℕ → Bool
is_hexadecimal byte = is_digit byte || nat_le 97 byte && nat_le byte 102 || nat_le 65 byte && nat_le byte 70

abbrev pub behind_spaces : List ℕ → List ℕ
behind_spaces [] = []
behind_spaces (byte ∷ rest) = if is_space byte then behind_spaces rest else byte ∷ rest

abbrev pub behind_sign : List ℕ → List ℕ
behind_sign [] = []
behind_sign (byte ∷ rest) = if byte == 43 || byte == 45 then rest else byte ∷ rest

abbrev pub is_hexadecimal_text : List ℕ → Bool
is_hexadecimal_text text =
    (starts_with nat_eq text (codes "0x") || starts_with nat_eq text (codes "0X")) && nat_lt 2 (length text)
    && list_all is_hexadecimal (drop 2 text)

abbrev pub is_digits : List ℕ → Bool
is_digits text =
    if starts_with nat_eq text (codes "0") then list_all is_octal text
    else nat_lt 0 (length text) && list_all is_digit text

-- a number as strtoul(3) reads it with the base 0, and nothing behind it
unfoldable pub is_number : List ℕ → Bool
is_number text =
    is_hexadecimal_text (behind_sign (behind_spaces text)) || is_digits (behind_sign (behind_spaces text))
