-- What the files of /sys/module say (sysfs(5)).
use Rattle.std.specs.Prelude.{ℕ, Bool, false, List, [], ◌∷◌, take, drop, codes, if◌then◌else◌, Option, Some, None}
use Rattle.std.specs.List.{prefix_len}
use Rattle.std.specs.Str.{bytes_eq}
use Rattle.text_parts.specs.Text.{is_digit, number_within}
use Rattle.kmod_query.specs.declared.states.ModuleState.{ModuleState}
use Rattle.kmod_query.specs.declared.states.ModuleState.TheVariants.{Live, Coming, Going, Other, Folder}
use Rattle.kmod_query.specs.declared.states.ModuleStatus.{ModuleStatus}
use Rattle.modprobe_files.specs.declared.system.Kind.{Kind}
use Rattle.modprobe_files.specs.declared.system.Kind.TheVariants as kinds
use Rattle.modprobe_words.specs.Numbers.{behind_spaces, is_space}

-- the state that a text of `initstate` tells
abbrev pub state_of : List ℕ → ModuleState
state_of text =
    if bytes_eq text (codes "live\n") then Live
    else (if bytes_eq text (codes "coming\n") then Coming
    else (if bytes_eq text (codes "going\n") then Going else Other))

abbrev pub begins_with_space : List ℕ → Bool
begins_with_space [] = false
begins_with_space (byte ∷ rest) = is_space byte

-- the number that one to ten digits at the beginning are, if white space follows them
abbrev pub number_of : List ℕ → Option ℕ
number_of text =
    if begins_with_space (drop (prefix_len is_digit text) text)
    then number_within 18446744073709551615 (take (prefix_len is_digit text) text) else None

-- the number that a text of `refcnt` tells: white space or nothing, one to ten digits, white space. strtol(3) takes more
abbrev pub count_of : List ℕ → Option ℕ
count_of text = number_of (behind_spaces text)

-- the number of users, if a module has a text of `refcnt` that is one
abbrev pub users_by : Option (List ℕ) → Option ℕ
users_by None = None
users_by (Some text) = count_of text

-- The state by the text of `initstate`. A module without one is there by its folder, as a built-in with parameters is, and
-- without a folder it is not there.
abbrev pub state_by : Option (List ℕ) → Kind → Option ModuleState
state_by (Some text) _ = Some (state_of text)
state_by None kinds.Folder = Some Folder
state_by None kinds.File = None
state_by None kinds.Nothing = None

abbrev pub status_with : Option ModuleState → Option ℕ → Option ModuleStatus
status_with None users = None
status_with (Some state) users = Some (record { state = state; users = users })

-- what a module tells by its `initstate`, its folder and its `refcnt`
abbrev pub status_by : Option (List ℕ) → Kind → Option (List ℕ) → Option ModuleStatus
status_by initstate folder refcnt = status_with (state_by initstate folder) (users_by refcnt)
