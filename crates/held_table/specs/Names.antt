-- The names of holders.
use Rattle.std.specs.Prelude.{ℕ, ◌≡◌, ◌<◌, ◌==◌, nat_lt, nat_le, Bool, not, ◌&&◌, List, [], length, slice_index_or, Option, position}
use Rattle.std.specs.List.{list_all}
use Rattle.std.specs.Str.{bytes_eq}
use Rattle.held_table.specs.declared.name.HolderName.{HolderName}

-- a byte that may stand in a name: neither a space nor a control byte
abbrev pub is_name_byte : ℕ → Bool
is_name_byte byte = nat_lt 32 byte && not (byte == 127)

-- 1 to 255 bytes that may stand in a name
abbrev pub is_holder_name : List ℕ → Bool
is_holder_name bytes = (nat_lt 0 (length bytes) && nat_le (length bytes) 255) && list_all is_name_byte bytes

-- the bytes of a name
abbrev pub name_bytes : HolderName → List ℕ
name_bytes name = name.bytes.items

-- the number of a name: its place among the names
abbrev pub place_of : List (List ℕ) → List ℕ → Option ℕ
place_of names name = position (bytes_eq name) names

-- no two holders have one name
abbrev pub EachOnce : List (List ℕ) → Type 0
EachOnce names =
    (i j : ℕ) → i < length names → j < length names → slice_index_or names i [] ≡ slice_index_or names j [] → i ≡ j
