-- The normal form of names and aliases, and the name of a module's file, as libkmod has them (modprobe.d(5) says that
-- `-` and `_` are the same).
use Rattle.std.specs.Prelude.{ℕ, Bool, false, not, if◌then◌else◌, ◌==◌, ◌&&◌, List, [], ◌∷◌, ◌++◌, map, Option, Some, None}
use Rattle.std.specs.List.{take_while}
use Rattle.text_parts.specs.Text.{normal_byte}

-- a byte as it stands within `[..]`, and its normal form elsewhere
abbrev pub normal_within : Bool → ℕ → ℕ
normal_within is_set byte = if is_set then byte else normal_byte byte

-- whether the byte after this one is within `[..]`: a `[` begins it, and a `]` ends it
abbrev pub is_set_after : Bool → ℕ → Bool
is_set_after is_set byte = if is_set then not (byte == 93) else byte == 91

-- a text put before what may be none
abbrev pub put_before : List ℕ → Option (List ℕ) → Option (List ℕ)
put_before front None = None
put_before front (Some rest) = Some (front ++ rest)

-- `_` for each `-` outside `[..]`; none if a `]` stands outside or a `[` is open at the end
abbrev pub normal_from : Bool → List ℕ → Option (List ℕ)
normal_from is_set [] = if is_set then None else Some []
normal_from is_set (byte ∷ rest) =
    if not is_set && (byte == 93) then None
    else put_before (normal_within is_set byte ∷ []) (normal_from (is_set_after is_set byte) rest)

-- the normal form of a name or an alias
abbrev pub normal_alias : List ℕ → Option (List ℕ)
normal_alias text = normal_from false text

-- what follows the last slash of a text, if there is one; else the base so far
abbrev pub base_from : List ℕ → List ℕ → List ℕ
base_from base [] = base
base_from base (byte ∷ rest) = base_from (if byte == 47 then rest else base) rest

abbrev pub base_of : List ℕ → List ℕ
base_of path = base_from path path

-- up to the first dot
abbrev pub stem : List ℕ → List ℕ
stem base = take_while (λ byte. not (byte == 46)) base

-- the name of a module's file
abbrev pub name_of_path : List ℕ → List ℕ
name_of_path path = map normal_byte (stem (base_of path))
