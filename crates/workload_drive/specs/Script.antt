-- Which script an input is: its catalogue, the changes before its workers, and the lines of each worker.
use Rattle.std.specs.Prelude.{ℕ, ◌==◌, Bool, true, false, not, nat_lt, if◌then◌else◌, List, [], ◌∷◌, ◌++◌, map, codes}
use Rattle.std.specs.Prelude.{find, filter_map, option_map, Option, Some, None, Result, Ok, Err}
use Rattle.std.specs.List.{list_any, range_with_len}
use Rattle.std.specs.Option.{option_and_then}
use Rattle.std.specs.Str.{bytes_eq}
use Rattle.text_parts.specs.Text.{normal_form}
use Rattle.dep_index.specs.Catalogue.{Description, slot_named}
use Rattle.workload_drive.specs.declared.fault.LineCode.TheVariants.{H2}
use Rattle.workload_drive.specs.declared.fault.LineFault.{LineFault}
use Rattle.workload_drive.specs.declared.script.acts.Change.{Change}
use Rattle.workload_drive.specs.declared.script.acts.Change.TheVariants.{Load, Remove, Drain, Finish, Keep}
use Rattle.workload_drive.specs.declared.script.acts.Deed.{Deed}
use Rattle.workload_drive.specs.declared.script.acts.Deed.TheVariants.{Get, Put, Query, Make}
use Rattle.workload_drive.specs.declared.script.acts.Act.{Act}
use Rattle.workload_drive.specs.declared.script.acts.Act.TheVariants.{Opens, Works}
use Rattle.workload_drive.specs.declared.script.entries.Opening.{Opening}
use Rattle.workload_drive.specs.declared.script.entries.Task.{Task}
use Rattle.workload_drive.specs.declared.script.entries.Entry.{Entry}
use Rattle.workload_drive.specs.Faults.{◌>>=◌, fault_at, bad_line}
use Rattle.workload_drive.specs.Statements.{Statement, Parts, parts_of, setting, marked}

-- the word of a deed
abbrev pub deed_text : Deed → List ℕ
deed_text Get = codes "get"
deed_text Put = codes "put"
deed_text Query = codes "query"
deed_text (Make Load) = codes "load"
deed_text (Make Remove) = codes "remove"
deed_text (Make Drain) = codes "drain"
deed_text (Make Finish) = codes "finish"
deed_text (Make Keep) = codes "keep"

-- the deed of a word: what a worker can do to a module
abbrev pub deed_of : List ℕ → Option Deed
deed_of verb =
    find (λ (deed : Deed). bytes_eq verb (deed_text deed)) (Get ∷ Put ∷ Query ∷ Make Load ∷ Make Remove ∷ Make Drain ∷ Make Finish ∷ Make Keep ∷ [])

-- the change of a deed
abbrev pub change_in : Deed → Option Change
change_in (Make change) = Some change
change_in _ = None

-- what a line asks: an act on the module of a name
pub record NamedAct : Type 0 where
  pub act : Act
  pub name : List ℕ

abbrev pub on_name : List ℕ → Option Act → Option NamedAct
on_name name None = None
on_name name (Some act) = Some (record { act = act; name = name })

abbrev pub worked : Option ℕ → Option Deed → Option Act
worked (Some worker) (Some deed) = Some (Works worker deed)
worked _ _ = None

-- the form of a line: `load NAME` and the like, or a worker, as `w0`, and what it does. None: it has no form
abbrev pub named_act_of : List (List ℕ) → Option NamedAct
named_act_of [] = None
named_act_of (_ ∷ []) = None
named_act_of (verb ∷ name ∷ []) = on_name name (option_map Opens (option_and_then change_in (deed_of verb)))
named_act_of (worker ∷ verb ∷ name ∷ []) = on_name name (worked (marked 119 worker) (deed_of verb))
named_act_of (_ ∷ _ ∷ _ ∷ _ ∷ _) = None

abbrev pub is_works : Act → Bool
is_works (Opens change) = false
is_works (Works worker deed) = true

-- whether a worker's line is among these
abbrev pub has_works : List Entry → Bool
has_works entries = list_any (λ (e : Entry). is_works e.act) entries

-- a line without a worker has its place before all workers' lines; a worker's number is below that of the workers
abbrev pub has_place : ℕ → Bool → Act → Bool
has_place workers after_works (Opens change) = not after_works
has_place workers after_works (Works worker deed) = nat_lt worker workers

abbrev pub entry_at : ℕ → Act → Option ℕ → Result Entry LineFault
entry_at line act None = Err (fault_at H2 line)
entry_at line act (Some slot) = Ok (record { act = act; slot = slot; line = line })

-- what this line asks; a line of no form, or at no place of its own, comes before a name outside the catalogue
abbrev pub entry_of : List Description → ℕ → Bool → ℕ → Option NamedAct → Result Entry LineFault
entry_of modules workers after_works line None = Err (bad_line line)
entry_of modules workers after_works line (Some asked) =
    if has_place workers after_works asked.act then entry_at line asked.act (slot_named modules (normal_form asked.name))
    else Err (bad_line line)

-- the lines of statements, after earlier ones
abbrev pub entries_of : List Description → ℕ → List Entry → List Statement → Result (List Entry) LineFault
entries_of modules workers earlier [] = Ok earlier
entries_of modules workers earlier (said ∷ later) =
    entry_of modules workers (has_works earlier) said.number (named_act_of said.words)
    >>= λ entry. entries_of modules workers (earlier ++ entry ∷ []) later

abbrev pub opening_by : ℕ → ℕ → Act → Option Opening
opening_by slot line (Opens change) = Some (record { change = change; slot = slot; line = line })
opening_by slot line (Works worker deed) = None

-- the change that a line is
abbrev pub opening_in : Entry → Option Opening
opening_in e = opening_by e.slot e.line e.act

abbrev pub task_by : ℕ → ℕ → ℕ → Act → Option Task
task_by worker slot line (Opens change) = None
task_by worker slot line (Works other deed) =
    if other == worker then Some (record { deed = deed; slot = slot; line = line }) else None

-- what this worker does by a line
abbrev pub task_in : ℕ → Entry → Option Task
task_in worker e = task_by worker e.slot e.line e.act

-- the changes before the workers, in order
abbrev pub opening_of : List Entry → List Opening
opening_of entries = filter_map opening_in entries

-- the lines of a worker, in order
abbrev pub tasks_of : ℕ → List Entry → List Task
tasks_of worker entries = filter_map (task_in worker) entries

-- a script: its catalogue, its workers, the changes before them, and the lines of each worker
pub record Script : Type 0 where
  pub catalogue : List Description
  pub workers : ℕ
  pub opening : List Opening
  pub tasks : List (List Task)

abbrev pub made_script : List Description → ℕ → List Opening → List (List Task) → Script
made_script modules workers opening tasks =
    record { catalogue = modules; workers = workers; opening = opening; tasks = tasks }

abbrev pub with_entries : List Description → ℕ → List Entry → Result Script LineFault
with_entries modules workers entries =
    Ok (made_script modules workers (opening_of entries) (map (λ worker. tasks_of worker entries) (range_with_len 0 workers)))

abbrev pub with_workers : List Description → ℕ × List Statement → Result Script LineFault
with_workers modules found = entries_of modules found.0 [] found.1 >>= with_entries modules found.0

-- the script of the parts of an input
abbrev pub script_by : Parts → Result Script LineFault
script_by p = setting (codes "workers") p.end p.statements >>= with_workers p.catalogue

-- the script that an input is, or its first faulty line
unfoldable pub script_of : List ℕ → Result Script LineFault
script_of input = parts_of (codes "%script") input >>= script_by
