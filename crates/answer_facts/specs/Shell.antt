-- An answer for sh(1), as insmod(8) and rmmod(8) take it.
use Rattle.std.specs.Prelude.{ℕ, Bool, true, false, not, nat_le, ◌==◌, ◌&&◌, ◌||◌, if◌then◌else◌, List, [], ◌∷◌, ◌++◌, length, drop, codes, Option, Some, None}
use Rattle.std.specs.List.{flat_map, list_all, list_any}
use Rattle.std.specs.Str.{bytes_eq}
use Rattle.text_parts.specs.Text.{is_digit, is_letter}
use Rattle.answer_facts.specs.Plan.{parts_of}
use Rattle.answer_facts.specs.Steps.{behind_path, is_builtin, is_insmod, is_rmmod, path_of}

-- a sign that sh(1) takes as it is: `/ . _ - = , : + @ %`
abbrev pub is_plain_sign : ℕ → Bool
is_plain_sign byte =
    byte == 47 || byte == 46 || byte == 95 || byte == 45 || byte == 61 || byte == 44 || byte == 58 || byte == 43 || byte == 64 || byte == 37

-- so are letters, of other scripts too, and digits
abbrev pub is_plain : ℕ → Bool
is_plain byte = is_letter byte || is_digit byte || nat_le 128 byte || is_plain_sign byte

-- every other byte stands behind a backslash
abbrev pub shell_byte : ℕ → List ℕ
shell_byte byte = if is_plain byte then byte ∷ [] else 92 ∷ byte ∷ []

abbrev pub shell_word : List ℕ → List ℕ
shell_word word = flat_map shell_byte word

-- A blank outside of double quotes divides options, as in the kernel's `next_arg` (lib/cmdline.c).
abbrev pub is_divider : Bool → ℕ → Bool
is_divider quoted byte = byte == 32 && not quoted

abbrev pub option_byte : Bool → ℕ → List ℕ
option_byte quoted byte = if is_divider quoted byte then byte ∷ [] else shell_byte byte

abbrev pub is_quoted_behind : Bool → ℕ → Bool
is_quoted_behind quoted byte = if byte == 34 then not quoted else quoted

-- options, behind what was within quotes or not
abbrev pub options_from : Bool → List ℕ → List ℕ
options_from quoted [] = []
options_from quoted (byte ∷ rest) = option_byte quoted byte ++ options_from (is_quoted_behind quoted byte) rest

-- no blank stands before options that are not there
abbrev pub shell_options : List ℕ → List ℕ
shell_options options = if length options == 0 then [] else 32 ∷ options_from false options

abbrev pub insmod_line : List ℕ → List ℕ
insmod_line text = codes "insmod " ++ shell_word (path_of text) ++ shell_options (behind_path text) ++ codes "\n"

-- what is built in takes no line
abbrev pub shell_line : List ℕ → List ℕ
shell_line line =
    if is_insmod line then insmod_line (drop 7 line)
    else (if is_rmmod line then codes "rmmod " ++ shell_word (drop 6 line) ++ codes "\n" else [])

-- the file that a line inserts, behind those of earlier lines
abbrev pub seen_with : List (List ℕ) → List ℕ → List (List ℕ)
seen_with seen line = if is_insmod line then seen ++ path_of (drop 7 line) ∷ [] else seen

-- an earlier line inserts the same file
abbrev pub is_seen : List (List ℕ) → List ℕ → Bool
is_seen seen line = is_insmod line && list_any (bytes_eq (path_of (drop 7 line))) seen

abbrev pub once_line : List (List ℕ) → List ℕ → List ℕ
once_line seen line = if is_seen seen line then [] else shell_line line

-- each file is inserted once
abbrev pub shell_from : List (List ℕ) → List (List ℕ) → List ℕ
shell_from seen [] = []
shell_from seen (line ∷ lines) = once_line seen line ++ shell_from (seen_with seen line) lines

-- a line that a shell may have: no command of an install or a remove line
abbrev pub is_for_shell : List ℕ → Bool
is_for_shell line = length line == 0 || is_insmod line || is_rmmod line || is_builtin line

-- the lines for a shell, if each line is one that it may have
abbrev pub shell_lines : List ℕ → Option (List ℕ)
shell_lines output = if list_all is_for_shell (parts_of output) then Some (shell_from [] (parts_of output)) else None
