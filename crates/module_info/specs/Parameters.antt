-- The parameters that a module has, by its own file (modinfo(8), linux/moduleparam.h). `module_param` puts a string
-- `parmtype=NAME:TYPE` into the section .modinfo, and `MODULE_PARM_DESC` a string `parm=NAME:TEXT`. Each parameter has
-- a symbol `__param_str_NAME`, whose name ends with a NUL in the file's table of strings (elf(5)).
use Rattle.std.specs.Prelude.{ℕ, Bool, not, nat_eq, if◌then◌else◌, ◌==◌, ◌||◌, List, [], ◌∷◌, ◌++◌, codes, take, drop, length, Option, Some, None}
use Rattle.std.specs.List.{starts_with, take_while}
use Rattle.std.specs.Option.{option_to_list}
use Rattle.text_parts.specs.Text.{normal_form}

-- a name ends before a colon or a NUL
abbrev pub ends_name : ℕ → Bool
ends_name byte = byte == 58 || byte == 0

-- the name that a text begins with; the kernel takes `-` and `_` for the same. A name has at most 255 bytes, as the
-- name of any file: sysfs shows a parameter as a file of its name
abbrev pub leading_name : List ℕ → List ℕ
leading_name text = normal_form (take_while (λ byte. not (ends_name byte)) (take 255 text))

-- the name behind a mark, if the text begins with the mark
abbrev pub name_behind : List ℕ → List ℕ → Option (List ℕ)
name_behind mark text = if starts_with nat_eq text mark then Some (leading_name (drop (length mark) text)) else None

-- the names behind a mark, wherever it stands in a text
abbrev pub names_behind : List ℕ → List ℕ → List (List ℕ)
names_behind mark [] = []
names_behind mark (byte ∷ rest) = option_to_list (name_behind mark (byte ∷ rest)) ++ names_behind mark rest

-- the parameters that a module's file names
abbrev pub parameters_in : List ℕ → List (List ℕ)
parameters_in file = names_behind (codes "parmtype=") file ++ names_behind (codes "parm=") file ++ names_behind (codes "__param_str_") file

-- an ELF file begins so (elf(5)); a compressed one does not
abbrev pub is_elf : List ℕ → Bool
is_elf file = starts_with nat_eq file (127 ∷ codes "ELF")

-- the parameters of a module, if its file can be read
abbrev pub parameters_of : List ℕ → Option (List (List ℕ))
parameters_of file = if is_elf file then Some (parameters_in file) else None
