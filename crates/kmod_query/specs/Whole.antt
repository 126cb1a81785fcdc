-- What a removal takes if it is made and not only shown: modprobe(8), --remove without --dry-run. A module that is gone
-- uses nothing any more, so that what only it used goes too.
use Rattle.std.specs.Prelude.{ℕ, ◌-◌, ◌==◌, Bool, true, false, not, ◌||◌, ◌&&◌, if◌then◌else◌, List, [], ◌∷◌, ◌++◌, codes, filter, fold, length, Option, Some, None, option_map, Vec, zero, suc}
use Rattle.std.specs.Global.{Global}
use Rattle.std.specs.List.{flat_map, list_any}
use Rattle.std.specs.Str.{bytes_eq}
use Rattle.kmod_query.specs.declared.answer.Failure.{Failure}
use Rattle.kmod_query.specs.declared.answer.Failure.TheVariants.{Gone, InUse, NothingToRemove}
use Rattle.kmod_query.specs.declared.query.Query.{Query}
use Rattle.kmod_query.specs.declared.states.ModuleStatus.{ModuleStatus}
use Rattle.kmod_query.specs.declared.taken.Holders.{Holders}
use Rattle.kmod_query.specs.declared.taken.Taken.{Taken}
use Rattle.kmod_query.specs.declared.taken.Taken.TheVariants.{Removed, Unused, Commanded}
use Rattle.kmod_query.specs.Answers.{Answer}
use Rattle.kmod_query.specs.Facts.{Facts}
use Rattle.kmod_query.specs.LookUp.{found}
use Rattle.kmod_query.specs.Objects.{Object}
use Rattle.kmod_query.specs.Probes.{step_limit}
use Rattle.kmod_query.specs.Removal.{Task, take, release, leave, Verdict, remove, pass, refuse, counts_state, front_of, has_no_users, is_fatal, is_in_use, removal_command, removed_after, rmmod_line, shows_removal, take_each, taken_tasks, unmarked, verdict}

-- the modules that hold a module, as its folder `holders` lists them (sysfs(5))
abbrev pub holders_of : List Holders → List ℕ → List (Vec ℕ Global)
holders_of [] name = []
holders_of (own ∷ later) name = if bytes_eq name own.module.items then own.names.items else holders_of later name

-- whether a module goes by this; nobody knows what a command does
abbrev pub goes : List ℕ → Taken → Bool
goes name (Removed own) = bytes_eq name own
goes name (Unused own by) = bytes_eq name own
goes name (Commanded own command) = false

abbrev pub is_gone : List Taken → List ℕ → Bool
is_gone taken name = list_any (goes name) taken

-- how many of some modules are gone
abbrev pub gone_count : List Taken → List (Vec ℕ Global) → ℕ
gone_count taken names = length (filter (λ name. is_gone taken name.items) names)

abbrev pub with_fewer : ℕ → ModuleStatus → ModuleStatus
with_fewer count status = record status { users = option_map (λ users. users - count) status.users }

-- what /sys/module says of a module once others are gone: it has as many users less as these are holders of it
abbrev pub status_after : Facts → List Holders → List Taken → List ℕ → Option ModuleStatus
status_after facts holders taken name =
    if is_gone taken name then None
    else option_map (with_fewer (gone_count taken (holders_of holders name))) (facts.status name)

abbrev pub facts_after : Facts → List Holders → List Taken → Facts
facts_after facts holders taken = record facts { status = status_after facts holders taken }

-- a module that another one needed goes too if nothing uses it now
abbrev pub with_unused : Facts → List Holders → List ℕ → List Taken → List ℕ → List Taken
with_unused facts holders by taken need =
    if has_no_users (status_after facts holders taken need) then taken ++ Unused need by ∷ [] else taken

-- a module goes, and then what it needs, the deepest first; or its command runs in their place
abbrev pub with_module : Facts → List Holders → List Taken → List ℕ → List Taken
with_module facts holders taken name = fold (with_unused facts holders name) (taken ++ Removed name ∷ []) (facts.needs name)

abbrev pub taken_by : Facts → List Holders → List Taken → List ℕ → Option (List ℕ) → List Taken
taken_by facts holders taken name (Some command) = taken ++ Commanded name command ∷ []
taken_by facts holders taken name None = with_module facts holders taken name

abbrev pub with_object : Facts → List Holders → Query → List Taken → Object → List Taken
with_object facts holders query taken object = taken_by facts holders taken object.name (removal_command facts query object)

-- Where a removal is: the modules whose soft dependencies are being removed, what is to be done, the next task first, what
-- was taken, what failed, and whether the name that is being removed has failed.
pub record Course : Type 0 where
  pub way : List (List ℕ)
  pub tasks : List Task
  pub taken : List Taken
  pub failures : List Failure
  pub failed : Bool

-- a failure that is shown may end all; that of a soft dependency has no effect on the status
abbrev pub with_failure : Query → Bool → Failure → Course → Course
with_failure query soft failure course =
    record course {
      tasks = if is_fatal query then [] else course.tasks;
      failures = course.failures ++ failure ∷ [];
      failed = course.failed || is_fatal query || not soft;
    }

-- a module whose soft dependencies are being removed waits for these
abbrev pub judged : Facts → Query → Bool → Object → Verdict → Course → Course
judged facts query soft object remove course =
    if list_any (bytes_eq object.name) course.way then course
    else record course { way = course.way ++ object.name ∷ []; tasks = taken_tasks facts query soft object ++ course.tasks }
judged facts query soft object pass course = course
judged facts query soft object (refuse failure) course = with_failure query soft failure course

abbrev pub taken_up : Facts → List Holders → Query → Bool → Object → Course → Course
taken_up facts holders query soft object course =
    judged facts query soft object (verdict (facts_after facts holders course.taken) query soft object) course

-- a module that a soft dependency after it took along cannot be removed again: its line is shown, and the message that
-- follows ends nothing
abbrev pub with_gone : Bool → Object → Course → Course
with_gone soft object course =
    record course {
      taken = course.taken ++ Removed object.name ∷ [];
      failures = course.failures ++ Gone object.name ∷ [];
      failed = course.failed || not soft;
    }

abbrev pub is_gone_by : Facts → Query → List Taken → Object → Bool
is_gone_by facts query taken object = counts_state facts query object && is_gone taken object.name

abbrev pub released : Facts → List Holders → Query → Bool → Object → Course → Course
released facts holders query soft object course =
    if is_in_use (facts_after facts holders course.taken) query object then with_failure query soft (InUse object.name) course
    else if is_gone_by facts query course.taken object then with_gone soft object course
    else record course {
      tasks = take_each (removed_after facts query object.name) ++ course.tasks;
      taken = with_object facts holders query course.taken object;
    }

-- one task, as a dry run has it, but of the modules as they are by then
abbrev pub done : Facts → List Holders → Query → Task → Course → Course
done facts holders query (take soft object) course = taken_up facts holders query soft object course
done facts holders query (release soft object) course = released facts holders query soft object course
done facts holders query leave course = record course { way = front_of course.way }

abbrev pub next_done : Facts → List Holders → Query → List Task → Course → Course
next_done facts holders query [] course = course
next_done facts holders query (task ∷ tasks) course = done facts holders query task (record course { tasks = tasks })

-- all tasks, as far as the steps that may be made go
unfoldable pub all_done : Facts → List Holders → Query → ℕ → Course → Course
all_done facts holders query zero course = course
all_done facts holders query (suc n) course = all_done facts holders query n (next_done facts holders query course.tasks course)

abbrev pub whole_object : Facts → List Holders → Query → Course → Object → Course
whole_object facts holders query course object =
    all_done facts holders query step_limit (record course { way = []; tasks = take false object ∷ [] })

-- the modules of a name one after another, up to the first that is refused
abbrev pub whole_objects : Facts → List Holders → Query → Course → List Object → Course
whole_objects facts holders query course [] = course
whole_objects facts holders query course (object ∷ objects) =
    if course.failed then course else whole_objects facts holders query (whole_object facts holders query course object) objects

abbrev pub whole_found : Facts → List Holders → Query → Course → List ℕ → List Object → Course
whole_found facts holders query course word objects =
    if length objects == 0 then with_failure query false (NothingToRemove word) course
    else whole_objects facts holders query course objects

-- a word that is no name has no message
abbrev pub whole_name : Facts → List Holders → Query → Course → List ℕ → Option (List ℕ) → Course
whole_name facts holders query course word None = record course { failed = true }
whole_name facts holders query course word (Some name) = whole_found facts holders query course word (found facts name)

-- a name after others: each status counts
abbrev pub whole_word : Facts → List Holders → Query → Course → List ℕ → Course
whole_word facts holders query course word =
    let own = whole_name facts holders query (record course { failed = false }) word (facts.normal word) in
    record own { failed = course.failed || own.failed }

-- a message ends the program, but for that of a module that is gone
abbrev pub ends : Failure → Bool
ends (Gone name) = false
ends failure = true

abbrev pub is_over : Query → List Failure → Bool
is_over query failures = is_fatal query && list_any ends failures

-- the names one after another, up to a message that ends the program
abbrev pub whole_words : Facts → List Holders → Query → Course → List (List ℕ) → Course
whole_words facts holders query course [] = course
whole_words facts holders query course (word ∷ words) =
    if is_over query course.failures then course
    else whole_words facts holders query (whole_word facts holders query course word) words

abbrev pub no_course : Course
no_course = record { way = []; tasks = []; taken = []; failures = []; failed = false }

-- a whole removal of names
abbrev pub whole_of : Facts → List Holders → Query → List (List ℕ) → Course
whole_of facts holders query words = whole_words facts holders query no_course words

abbrev pub line_of : Taken → List ℕ
line_of (Removed name) = rmmod_line name
line_of (Unused name by) = rmmod_line name
line_of (Commanded name command) = codes "remove " ++ unmarked command ++ (10 ∷ [])

abbrev pub lines_of : Query → List Taken → List ℕ
lines_of query taken = if shows_removal query then flat_map line_of taken else []

-- what is answered of a whole removal: a line for each thing that it does
abbrev pub answer_by : Query → Course → Answer
answer_by query course = record { output = lines_of query course.taken; failures = course.failures; failed = course.failed }
