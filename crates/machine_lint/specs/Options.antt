-- The words of options lines, as the kernel reads them (next_arg of lib/cmdline.c), and what they set.
use Rattle.std.specs.Prelude.{ℕ, Bool, false, not, if◌then◌else◌, ◌==◌, ◌&&◌, ◌||◌, ◌-◌, nat_eq, nat_lt, List, [], ◌∷◌, codes, drop, filter, length, map, reverse, slice_index, take, Option}
use Rattle.std.specs.List.{before_first, find, flat_map, list_all, list_any, onto_first, position_or_len, starts_with}
use Rattle.std.specs.Str.{bytes_eq}
use Rattle.text_parts.specs.Text.{is_filled, normal_form}
use Rattle.kmod_conf.specs.declared.line.TextLine.{TextLine}
use Rattle.kmod_conf.specs.Configuration.{Configuration}
use Rattle.kmod_conf.specs.Lines.{is_space}
use Rattle.machine_lint.specs.declared.options.OptionWord.{OptionWord}

-- white space, as the kernel has it: also the blank of Latin-1 that breaks no line (lib/ctype.c)
abbrev pub is_white : ℕ → Bool
is_white byte = is_space byte || byte == 160

abbrev pub is_quote : ℕ → Bool
is_quote byte = byte == 34

-- the parts of a text between white space; within double quotes it divides nothing
abbrev pub parts_of : Bool → List ℕ → List (List ℕ)
parts_of is_quoted [] = [] ∷ []
parts_of is_quoted (byte ∷ rest) =
    if is_white byte && not is_quoted then [] ∷ parts_of false rest
    else onto_first byte (parts_of (if is_quote byte then not is_quoted else is_quoted) rest)

-- the words of an options line: the parts of its text that are not empty, with their quotes
abbrev pub option_words : List ℕ → List (List ℕ)
option_words text = filter is_filled (parts_of false text)

abbrev pub ends_with_quote : List ℕ → Bool
ends_with_quote text = nat_lt 0 (length text) && is_quote (slice_index text (length text - 1))

abbrev pub without_end : List ℕ → List ℕ
without_end text = if ends_with_quote text then take (length text - 1) text else text

-- what stands within double quotes, if a text begins with one, or all of it
abbrev pub unquoted : List ℕ → List ℕ
unquoted [] = []
unquoted (byte ∷ rest) = if is_quote byte then without_end rest else byte ∷ rest

abbrev pub is_equals : ℕ → Bool
is_equals byte = byte == 61

-- The parameter that a word sets: what stands before its first `=`, or all of it. The kernel takes `-` for `_` in it.
abbrev pub parameter_of : List ℕ → List ℕ
parameter_of word = normal_form (before_first is_equals (unquoted word))

-- the value that a word sets: what stands behind its first `=`
abbrev pub value_of : List ℕ → List ℕ
value_of word = unquoted (drop 1 (drop (position_or_len is_equals (unquoted word)) (unquoted word)))

abbrev pub is_dot : ℕ → Bool
is_dot byte = byte == 46

abbrev pub has_dot : List ℕ → Bool
has_dot parameter = list_any is_dot parameter

-- The name of a module, and a dot: the kernel's command line names a parameter so, an options line does not.
abbrev pub has_own_prefix : List ℕ → List ℕ → Bool
has_own_prefix name parameter =
    bytes_eq (take (length name) parameter) name && starts_with nat_eq (drop (length name) parameter) (46 ∷ [])

-- a name with another prefix, as mmc_block has `mmcblk.` for one of its parameters
abbrev pub has_other_prefix : List ℕ → List ℕ → Bool
has_other_prefix name parameter = has_dot parameter && not (has_own_prefix name parameter)

-- What is never unknown: the kernel itself takes the first two for every module, and nothing behind `--`. Of a name with
-- another prefix nothing is said.
abbrev pub is_never_unknown : List ℕ → List ℕ → Bool
is_never_unknown name parameter =
    bytes_eq parameter (codes "dyndbg") || bytes_eq parameter (codes "async_probe") || bytes_eq parameter (codes "__")
    || has_other_prefix name parameter

-- libfcoe has a parameter for each thing that it does
abbrev pub is_of_fcoe : List ℕ → Bool
is_of_fcoe parameter =
    bytes_eq parameter (codes "create") || bytes_eq parameter (codes "create_vn2vn") || bytes_eq parameter (codes "destroy")
    || bytes_eq parameter (codes "enable") || bytes_eq parameter (codes "disable")

abbrev pub is_of_ubi : List ℕ → Bool
is_of_ubi parameter = bytes_eq parameter (codes "mtd") || bytes_eq parameter (codes "block")

-- a parameter of a module, both of these names
abbrev pub is_this : List ℕ → List ℕ → List ℕ → List ℕ → Bool
is_this of own name parameter = bytes_eq name of && bytes_eq parameter own

-- each setting of these brings one device more
abbrev pub adds_device : List ℕ → List ℕ → Bool
adds_device name parameter =
    is_this (codes "virtio_mmio") (codes "device") name parameter || is_this (codes "phram") (codes "phram") name parameter
    || is_this (codes "block2mtd") (codes "block2mtd") name parameter || (bytes_eq name (codes "ubi") && is_of_ubi parameter)

-- each setting of these is a command, which is done at once
abbrev pub is_command : List ℕ → List ℕ → Bool
is_command name parameter =
    is_this (codes "md_mod") (codes "new_array") name parameter || is_this (codes "ipmi_si") (codes "hotmod") name parameter
    || (bytes_eq name (codes "libfcoe") && is_of_fcoe parameter)

-- Each setting of these does one thing more, and takes nothing from those before it. dyndbg is one of every module.
abbrev pub takes_more : List ℕ → List ℕ → Bool
takes_more name parameter =
    bytes_eq parameter (codes "dyndbg") || adds_device name parameter || is_command name parameter

-- a word of an options line: what it sets, and where the line stands
abbrev pub word_of : TextLine → List ℕ → OptionWord
word_of line word = record { place = line.place; parameter = parameter_of word; value = value_of word }

-- the words of a line that has just this name
abbrev pub words_for : List ℕ → TextLine → List OptionWord
words_for name line = if bytes_eq line.name name then map (word_of line) (option_words line.text) else []

-- the words of all options lines of just this name, in the order in which modprobe(8) passes them on
abbrev pub words_of : List ℕ → Configuration → List OptionWord
words_of name conf = flat_map (words_for name) conf.options

-- the last word that sets a parameter
abbrev pub last_setting : List OptionWord → List ℕ → Option OptionWord
last_setting words parameter = find (λ word. bytes_eq word.parameter parameter) (reverse words)

-- another word sets another parameter, or the same one to the same value
abbrev pub agrees : List ℕ → List ℕ → OptionWord → Bool
agrees parameter value other = not (bytes_eq other.parameter parameter) || bytes_eq other.value value

-- all words that set a word's parameter set it to the same value
abbrev pub is_agreed : List OptionWord → List ℕ → Bool
is_agreed words word = list_all (agrees (parameter_of word) (value_of word)) words
