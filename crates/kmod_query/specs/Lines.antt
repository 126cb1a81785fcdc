-- The lines that load a module, with its options.
use Rattle.std.specs.Prelude.{ℕ, Bool, true, false, not, if◌then◌else◌, ◌&&◌, ◌||◌, ◌==◌, ◌+◌, nat_lt, List, [], ◌∷◌, ◌++◌, length, take, drop, fold, codes, slice_index, Option, Some, None, is_none}
use Rattle.std.specs.List.{list_any, position_or_len}
use Rattle.std.specs.Option.{option_or}
use Rattle.kmod_query.specs.declared.states.ModuleState.{ModuleState}
use Rattle.kmod_query.specs.declared.states.ModuleState.TheVariants.{Live, Coming, Going, Other, Folder}
use Rattle.kmod_query.specs.declared.states.ModuleStatus.{ModuleStatus}
use Rattle.kmod_query.specs.Commands.{install_of}
use Rattle.kmod_query.specs.Facts.{Facts}
use Rattle.kmod_query.specs.Objects.{Object, is_same}
use Rattle.kmod_query.specs.Paths.{own_file}
use Rattle.kmod_query.specs.Probes.{before_of, after_of}

-- a text after another, with a blank between them if the first is not empty
abbrev pub joined : List ℕ → List ℕ → List ℕ
joined front text = if length front == 0 then text else front ++ (32 ∷ text)

abbrev pub is_equals : ℕ → Bool
is_equals byte = byte == 61

abbrev pub is_space : ℕ → Bool
is_space byte = byte == 32

abbrev pub is_quote : ℕ → Bool
is_quote byte = byte == 34 || byte == 39

-- a value with a blank that does not begin with a quote
abbrev pub needs_quotes : List ℕ → Bool
needs_quotes value = list_any is_space value && not (is_quote (slice_index value 0))

-- where the name of a parameter ends
abbrev pub name_len : List ℕ → ℕ
name_len word = position_or_len is_equals word

abbrev pub value_of : List ℕ → List ℕ
value_of word = drop (name_len word + 1) word

-- a parameter, with quotes round a value that needs them
abbrev pub quoted : List ℕ → List ℕ
quoted word =
    if nat_lt (name_len word) (length word) && needs_quotes (value_of word)
    then take (name_len word) word ++ codes "=\"" ++ value_of word ++ codes "\""
    else word

-- the parameters of a command as one text
abbrev pub parameter_text : List (List ℕ) → List ℕ
parameter_text words = fold (λ text word. joined text (quoted word)) [] words

-- the options of an object, and the parameters after them
abbrev pub option_text : Facts → Object → List ℕ → List ℕ
option_text facts object parameters = joined (fold joined [] (facts.options object.name object.alias)) parameters

abbrev pub is_live_state : ModuleState → Bool
is_live_state Live = true
is_live_state Coming = false
is_live_state Going = false
is_live_state Other = false
is_live_state Folder = false

abbrev pub is_live : Option ModuleStatus → Bool
is_live None = false
is_live (Some status) = is_live_state status.state

-- the file that stands for an object's of modules.dep
abbrev pub own_file_of : Facts → Object → Option (List ℕ)
own_file_of facts object = own_file facts.own object.name object.alias

-- the file of an object
abbrev pub file_of : Facts → Object → Option (List ℕ)
file_of facts object = option_or (own_file_of facts object) (facts.path object.name)

-- what has a file of its own is not built in
abbrev pub is_built_in : Facts → Object → Bool
is_built_in facts object = object.builtin || (is_none (own_file_of facts object) && facts.is_builtin object.name)

-- whether the kernel has it now
abbrev pub is_in_kernel : Facts → Object → Bool
is_in_kernel facts object = is_built_in facts object || is_live (facts.status object.name)

abbrev pub has_soft_items : Facts → List ℕ → Bool
has_soft_items facts name = nat_lt 0 (length (before_of facts name)) || nat_lt 0 (length (after_of facts name))

-- The install line of a module with soft items is passed over, and under --ignore-install that of the module asked for.
abbrev pub is_commandless : Facts → Bool → Object → Object → Bool
is_commandless facts bare top object = (bare && is_same object top) || has_soft_items facts object.name

abbrev pub command_of : Facts → Bool → Object → Object → Option (List ℕ)
command_of facts bare top object = if is_commandless facts bare top object then None else install_of facts object.name object.alias

abbrev pub line : List ℕ → List ℕ → List ℕ → List ℕ
line verb what options = verb ++ what ++ (32 ∷ options) ++ (10 ∷ [])

-- by the command, the file, and whether it is built in
abbrev pub line_by : Option (List ℕ) → Option (List ℕ) → Bool → List ℕ → List ℕ → List ℕ
line_by (Some command) path builtin name options = line (codes "install ") command options
line_by None (Some path) builtin name options = line (codes "insmod ") path options
line_by None None true name options = codes "builtin " ++ name ++ (10 ∷ [])
line_by None None false name options = []

-- the parameters are those of the object that was asked for
abbrev pub own_parameters : Object → Object → List ℕ → List ℕ
own_parameters top object parameters = if is_same object top then parameters else []

-- the line of an object in the load of another
abbrev pub load_line : Facts → Bool → List ℕ → Object → Object → List ℕ
load_line facts bare parameters top object =
    line_by (command_of facts bare top object) (file_of facts object) (is_built_in facts object) object.name
    (option_text facts object (own_parameters top object parameters))
