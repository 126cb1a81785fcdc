-- What names are answered that are to be removed: modprobe(8), --remove.
use Rattle.std.specs.Prelude.{ℕ, zero, suc, Bool, true, false, not, if◌then◌else◌, ◌&&◌, ◌||◌, ◌==◌, nat_lt, nat_le, nat_eq, List, [], ◌∷◌, ◌++◌, ◌-◌, length, map, reverse, codes, Option, Some, None, is_some}
use Rattle.std.specs.Prelude.{take as first}
use Rattle.std.specs.List.{flat_map, list_any, starts_with}
use Rattle.std.specs.Str.{bytes_eq}
use Rattle.kmod_query.specs.declared.answer.Failure.{Failure}
use Rattle.kmod_query.specs.declared.answer.Failure.TheVariants.{NothingToRemove, NotInKernel, Builtin, InUse}
use Rattle.kmod_query.specs.declared.query.Ask.{Ask}
use Rattle.kmod_query.specs.declared.query.Ask.TheVariants.{ShowDepends, DryRun, Resolve, Remove, ShowRemoval, ShowConfig}
use Rattle.kmod_query.specs.declared.query.Query.{Query}
use Rattle.kmod_query.specs.declared.states.ModuleState.{ModuleState}
use Rattle.kmod_query.specs.declared.states.ModuleState.TheVariants.{Live, Coming, Going, Other, Folder}
use Rattle.kmod_query.specs.declared.states.ModuleStatus.{ModuleStatus}
use Rattle.kmod_query.specs.Answers.{Answer, nothing, said, failing, noted, silent_failure, and_also, and_then}
use Rattle.kmod_query.specs.Commands.{remove_of}
use Rattle.kmod_query.specs.Facts.{Facts}
use Rattle.kmod_query.specs.Objects.{Object}
use Rattle.kmod_query.specs.LookUp.{found}
use Rattle.kmod_query.specs.Lines.{is_built_in}
use Rattle.kmod_query.specs.Probes.{before_of, after_of, step_limit}

abbrev pub is_remove : Ask → Bool
is_remove ShowDepends = false
is_remove DryRun = false
is_remove Resolve = false
is_remove Remove = true
is_remove ShowRemoval = false
is_remove ShowConfig = false

abbrev pub is_show_removal : Ask → Bool
is_show_removal ShowDepends = false
is_show_removal DryRun = false
is_show_removal Resolve = false
is_show_removal Remove = false
is_show_removal ShowRemoval = true
is_show_removal ShowConfig = false

-- whether lines are shown: always under --show-depends, else from a verbosity of 5 on
abbrev pub shows_removal : Query → Bool
shows_removal query = is_show_removal query.ask || nat_lt 4 query.verbosity

-- without --all a message that is shown ends the program
abbrev pub is_fatal : Query → Bool
is_fatal query = not query.all && nat_le 2 query.verbosity

-- under --ignore-remove neither remove lines nor soft items count
abbrev pub removal_command : Facts → Query → Object → Option (List ℕ)
removal_command facts query object = if query.ignore_commands then None else remove_of facts object.name object.alias

abbrev pub removed_before : Facts → Query → List ℕ → List Object
removed_before facts query name = if query.ignore_commands then [] else after_of facts name

abbrev pub removed_after : Facts → Query → List ℕ → List Object
removed_after facts query name = if query.ignore_commands then [] else before_of facts name

-- states and users count if no command removes the module
abbrev pub counts_state : Facts → Query → Object → Bool
counts_state facts query object = not (is_some (removal_command facts query object)) && is_remove query.ask

abbrev pub is_unknown_state : ModuleState → Bool
is_unknown_state Live = false
is_unknown_state Coming = false
is_unknown_state Going = false
is_unknown_state Other = true
is_unknown_state Folder = false

abbrev pub is_absent : Option ModuleStatus → Bool
is_absent None = true
is_absent (Some status) = is_unknown_state status.state

abbrev pub has_users_by : Option ℕ → Bool
has_users_by None = false
has_users_by (Some users) = nat_lt 0 users

-- whether anything uses a module, as far as that is known
abbrev pub has_users : Option ModuleStatus → Bool
has_users None = false
has_users (Some status) = has_users_by status.users

abbrev pub has_no_users_by : Option ℕ → Bool
has_no_users_by None = false
has_no_users_by (Some users) = users == 0

abbrev pub has_no_users : Option ModuleStatus → Bool
has_no_users None = false
has_no_users (Some status) = has_no_users_by status.users

-- What becomes of an object that is to be removed: it is removed, it is passed over, or it is refused.
pub data Verdict : Type 0 where
  remove : Verdict
  pass : Verdict
  refuse : Failure → Verdict

abbrev pub absent_verdict : Query → Object → Verdict
absent_verdict query object = if query.first_time then refuse (NotInKernel object.name) else pass

abbrev pub builtin_verdict : Bool → Object → Verdict
builtin_verdict soft object = if soft then pass else refuse (Builtin object.name)

-- a built-in module is passed over if it is a soft item
abbrev pub verdict : Facts → Query → Bool → Object → Verdict
verdict facts query soft object =
    if not (counts_state facts query object) then remove
    else (if is_built_in facts object then builtin_verdict soft object
    else (if is_absent (facts.status object.name) then absent_verdict query object else remove))

abbrev pub is_in_use : Facts → Query → Object → Bool
is_in_use facts query object = counts_state facts query object && has_users (facts.status object.name)

abbrev pub option_mark : List ℕ
option_mark = codes "$CMDLINE_OPTS"

-- a text without the mark, if some of its first bytes are left out
abbrev pub unmarked_from : ℕ → List ℕ → List ℕ
unmarked_from skipped [] = []
unmarked_from (suc skipped) (byte ∷ rest) = unmarked_from skipped rest
unmarked_from zero (byte ∷ rest) =
    if starts_with nat_eq (byte ∷ rest) option_mark then unmarked_from 12 rest else byte ∷ unmarked_from zero rest

-- a removal has no options to put in the place of the mark
abbrev pub unmarked : List ℕ → List ℕ
unmarked command = unmarked_from zero command

abbrev pub rmmod_line : List ℕ → List ℕ
rmmod_line name = codes "rmmod " ++ name ++ (10 ∷ [])

abbrev pub unused_line : Facts → List ℕ → List ℕ
unused_line facts name = if has_no_users (facts.status name) then rmmod_line name else []

-- the module, and what it needs that has no users
abbrev pub removal_lines_by : Facts → Object → Option (List ℕ) → List ℕ
removal_lines_by facts object (Some command) = codes "remove " ++ unmarked command ++ (10 ∷ [])
removal_lines_by facts object None = rmmod_line object.name ++ flat_map (unused_line facts) (facts.needs object.name)

abbrev pub removal_lines : Facts → Query → Object → List ℕ
removal_lines facts query object =
    if shows_removal query then removal_lines_by facts object (removal_command facts query object) else []

-- What is to be done, one task after another: take an object, which is a soft item or not, let it go once its soft
-- items after it are gone, or leave the way.
pub data Task : Type 0 where
  take : Bool → Object → Task
  release : Bool → Object → Task
  leave : Task

abbrev pub take_each : List Object → List Task
take_each objects = map (take true) (reverse objects)

abbrev pub taken_tasks : Facts → Query → Bool → Object → List Task
taken_tasks facts query soft object =
    take_each (removed_before facts query object.name) ++ (release soft object ∷ leave ∷ [])

abbrev pub front_of : List (List ℕ) → List (List ℕ)
front_of way = first (length way - 1) way

abbrev pub refused : Query → Bool → Failure → Answer → Answer
refused query soft failure later = if is_fatal query then failing failure else and_also (noted soft failure) later

abbrev pub by_verdict : Query → Bool → Verdict → Answer → Answer → Answer
by_verdict query soft remove taken passed = taken
by_verdict query soft pass taken passed = passed
by_verdict query soft (refuse failure) taken passed = refused query soft failure passed

-- What tasks answer. The way holds the modules whose soft items are being removed: each is taken at most once on the
-- way down. The number counts the steps that may be made.
unfoldable pub run_removal : Facts → Query → ℕ → List (List ℕ) → List Task → Answer
run_removal facts query zero way tasks = nothing
run_removal facts query (suc n) way [] = nothing
run_removal facts query (suc n) way (take soft object ∷ tasks) =
    if list_any (bytes_eq object.name) way then run_removal facts query n way tasks
    else by_verdict query soft (verdict facts query soft object)
    (run_removal facts query n (way ++ object.name ∷ []) (taken_tasks facts query soft object ++ tasks))
    (run_removal facts query n way tasks)
run_removal facts query (suc n) way (release soft object ∷ tasks) =
    if is_in_use facts query object then refused query soft (InUse object.name) (run_removal facts query n way tasks)
    else and_also (said (removal_lines facts query object))
    (run_removal facts query n way (take_each (removed_after facts query object.name) ++ tasks))
run_removal facts query (suc n) way (leave ∷ tasks) = run_removal facts query n (front_of way) tasks

abbrev pub remove_object : Facts → Query → Object → Answer
remove_object facts query object = run_removal facts query step_limit [] (take false object ∷ [])

-- the modules of a name one after another, up to the first that is refused
abbrev pub remove_objects : Facts → Query → Answer → List Object → Answer
remove_objects facts query answer [] = answer
remove_objects facts query answer (object ∷ objects) =
    if answer.failed then answer else remove_objects facts query (and_then answer (remove_object facts query object)) objects

abbrev pub remove_found : Facts → Query → List ℕ → List Object → Answer
remove_found facts query word found =
    if length found == 0 then failing (NothingToRemove word) else remove_objects facts query nothing found

-- a word that is no name has no message
abbrev pub remove_name : Facts → Query → List ℕ → Option (List ℕ) → Answer
remove_name facts query word None = silent_failure
remove_name facts query word (Some name) = remove_found facts query word (found facts name)

abbrev pub has_ended : Query → List Failure → Bool
has_ended query [] = false
has_ended query (failure ∷ failures) = is_fatal query

-- the names one after another, up to a message that ends the program
abbrev pub remove_names : Facts → Query → Answer → List (List ℕ) → Answer
remove_names facts query answer [] = answer
remove_names facts query answer (word ∷ words) =
    if has_ended query answer.failures then answer
    else remove_names facts query (and_also answer (remove_name facts query word (facts.normal word))) words
