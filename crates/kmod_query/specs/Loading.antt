-- What names are answered that are to be loaded or resolved.
use Rattle.std.specs.Prelude.{ℕ, Bool, true, false, not, if◌then◌else◌, ◌&&◌, ◌||◌, ◌==◌, nat_lt, length, List, [], ◌∷◌, ◌++◌, fold, Option, Some, None, is_some}
use Rattle.std.specs.List.{flat_map}
use Rattle.kmod_names.specs.Names.{name_of_path}
use Rattle.kmod_query.specs.declared.answer.Failure.TheVariants.{AlreadyLoaded, NoFile, NotFound}
use Rattle.kmod_query.specs.declared.paths.AtPath.{AtPath}
use Rattle.kmod_query.specs.declared.paths.AtPath.TheVariants.{File, Nothing}
use Rattle.kmod_query.specs.declared.query.Ask.{Ask}
use Rattle.kmod_query.specs.declared.query.Ask.TheVariants.{ShowDepends, DryRun, Resolve, Remove, ShowRemoval, ShowConfig}
use Rattle.kmod_query.specs.declared.query.Query.{Query}
use Rattle.kmod_query.specs.Answers.{Answer, nothing, said, failing, and_then, and_also}
use Rattle.kmod_query.specs.Facts.{Facts, with_own}
use Rattle.kmod_query.specs.Objects.{Object, by_name}
use Rattle.kmod_query.specs.LookUp.{look_up}
use Rattle.kmod_query.specs.Probes.{probe_list}
use Rattle.kmod_query.specs.Lines.{is_in_kernel, load_line, parameter_text}

abbrev pub is_show_depends : Ask → Bool
is_show_depends ShowDepends = true
is_show_depends DryRun = false
is_show_depends Resolve = false
is_show_depends Remove = false
is_show_depends ShowRemoval = false
is_show_depends ShowConfig = false

abbrev pub is_resolve : Ask → Bool
is_resolve ShowDepends = false
is_resolve DryRun = false
is_resolve Resolve = true
is_resolve Remove = false
is_resolve ShowRemoval = false
is_resolve ShowConfig = false

-- whether lines are shown: always under --show-depends, else from a verbosity of 5 on
abbrev pub shows_lines : Query → Bool
shows_lines query = is_show_depends query.ask || nat_lt 4 query.verbosity

-- what the kernel has is passed over, but under --show-depends
abbrev pub is_passed : Facts → Query → Object → Bool
is_passed facts query object = not (is_show_depends query.ask) && is_in_kernel facts object

-- a module of the blacklist that came by an alias, or any of it under --use-blacklist
abbrev pub is_barred : Facts → Query → Object → Bool
is_barred facts query object = facts.is_blacklisted object.name && (is_some object.alias || query.use_blacklist)

abbrev pub line_unless_passed : Facts → Query → List ℕ → Object → Object → List ℕ
line_unless_passed facts query parameters top object =
    if is_passed facts query object then [] else load_line facts query.ignore_commands parameters top object

-- the lines that load an object
abbrev pub load_lines : Facts → Query → List ℕ → Object → List ℕ
load_lines facts query parameters top =
    flat_map (line_unless_passed facts query parameters top) (probe_list facts query.ignore_commands top)

abbrev pub already : Query → Object → Answer
already query object = if query.first_time then failing (AlreadyLoaded object.name) else nothing

-- what is answered of one object that is to be loaded
abbrev pub load : Facts → Query → List ℕ → Object → Answer
load facts query parameters top =
    if is_passed facts query top then already query top
    else (if is_barred facts query top || not (shows_lines query) then nothing
    else said (load_lines facts query parameters top))

abbrev pub answer_object : Facts → Query → List ℕ → Object → Answer
answer_object facts query parameters object =
    if is_resolve query.ask then said (object.name ++ (10 ∷ [])) else load facts query parameters object

-- the modules of a name one after another; the status is that of the last
abbrev pub answer_found : Facts → Query → List ℕ → List ℕ → List Object → Answer
answer_found facts query parameters word found =
    if length found == 0 then failing (NotFound word)
    else fold (λ answer own. and_then answer (answer_object facts query parameters own)) nothing found

-- A path is the module whose name its file gives it, with this file. No alias counts for it, and no built-in.
abbrev pub answer_file : Facts → Query → List ℕ → List ℕ → List ℕ → Answer
answer_file facts query parameters word file =
    answer_object (with_own facts (name_of_path word) file) query parameters (by_name (name_of_path word))

abbrev pub answer_at : Option AtPath → Facts → Query → List ℕ → List ℕ → Answer
answer_at None facts query parameters word = answer_found facts query parameters word (look_up facts word)
answer_at (Some (File file)) facts query parameters word = answer_file facts query parameters word file
answer_at (Some (Nothing reason)) facts query parameters word = failing (NoFile word reason)

-- a name is looked up, unless it is a path
abbrev pub answer_name : Facts → Query → List ℕ → List ℕ → Answer
answer_name facts query parameters word = answer_at (facts.at_path word) facts query parameters word

-- a name and its parameters, if words are not all names
abbrev pub answer_one : Facts → Query → List (List ℕ) → Answer
answer_one facts query [] = nothing
answer_one facts query (word ∷ parameters) = answer_name facts query (parameter_text parameters) word

-- the names one after another
abbrev pub answer_each : Facts → Query → List (List ℕ) → Answer
answer_each facts query words = fold (λ answer word. and_also answer (answer_name facts query [] word)) nothing words

abbrev pub answer_names : Facts → Query → List (List ℕ) → Answer
answer_names facts query words = if query.all then answer_each facts query words else answer_one facts query words
