-- What the contracts of private functions say, for the proofs of the public ones.
use Rattle.std.specs.Prelude.{◌≡◌, ℕ, ◌+◌, ◌≤◌, Bool, true, false, List, ◌++◌, ◌∷◌, [], length, codes, Option, Some, None, ⊤, Result, Ok, Err}
use Rattle.text_parts.specs.Text.{Line, cut_lines, texts_of}
use Rattle.dep_index.specs.Catalogue.{Description, description_at}
use Rattle.dep_index.specs.declared.table.calls.Call.{Call}
use Rattle.dep_index.specs.declared.table.calls.Call.TheVariants as call
use Rattle.dep_index.specs.declared.faults.CatError.{CatError}
use Rattle.dep_index.specs.declared.faults.CatError.TheVariants as cat
use Rattle.dep_index.specs.declared.faults.DepError.{DepError}
use Rattle.dep_index.specs.declared.faults.DepError.TheVariants as dep
use Rattle.modprobe.specs.declared.command.Action.{Action}
use Rattle.modprobe.specs.declared.command.Action.TheVariants as action_is
use Rattle.modprobe.specs.declared.command.Reference.{Reference}
use Rattle.modprobe.specs.declared.command.Reference.TheVariants as reference_is
use Rattle.modprobe.specs.declared.command.Request.{Request}
use Rattle.modprobe.specs.declared.command.Request.TheVariants as request_is
use Rattle.modprobe.specs.declared.command.Command.{Command}
use Rattle.modprobe.specs.declared.command.Command.TheVariants as command_is
use Rattle.modprobe.specs.declared.action.Answer.{Answer}
use Rattle.modprobe.specs.declared.action.Answer.TheVariants as answer_is
use Rattle.modprobe.specs.declared.lines.LineFault.{LineFault}
use Rattle.modprobe.specs.declared.lines.LineFault.TheVariants as line_faults
use Rattle.modprobe.specs.declared.fault.SetupCode.{SetupCode}
use Rattle.modprobe.specs.declared.fault.SetupCode.TheVariants.{C1, C2, C3, C4, M1, M2, M3, B1, Read, Memory, Turns, LongLine}
use Rattle.modprobe.specs.declared.fault.SetupFault.{SetupFault}
use Rattle.modprobe.specs.declared.section.Section.{Section}
use Rattle.modprobe.specs.declared.section.Section.TheVariants.{Catalogue, Dep, Alias, Conf, Session}
use Rattle.modprobe.specs.declared.section.Texts.{Texts}
use Rattle.modprobe.specs.Commands as meaning
use Rattle.load_plan.specs.declared.items.PlanError.{PlanError}
use Rattle.load_plan.specs.declared.items.PlanError.TheVariants as plan_error
use Rattle.modprobe.specs.declared.refusal.SlotRefusal.{SlotRefusal}
use Rattle.modprobe.specs.Setup.{Setup, name_at}
use Rattle.modprobe.specs.Refusals.{refuse}
use Rattle.modprobe.specs.Outcomes.{Outcome, says, refuses, refused}
use Rattle.modprobe.specs.Refusals as told
use Rattle.modprobe.specs.Sections.{Parts, no_parts, early, too_long, sections}
use Rattle.modprobe.specs.SetupInput.{with_session, setup_for, Refuses, SetupStops}

-- what the code's actions, requests and commands stand for
abbrev pub action_from : Action → meaning.Action
action_from (action_is.Insmod words) = meaning.insmod (texts_of words.now)
action_from action_is.Rmmod = meaning.rmmod
action_from action_is.Drain = meaning.drain
action_from action_is.Query = meaning.query
action_from (action_is.Refer reference_is.Get worker) = meaning.get worker
action_from (action_is.Refer reference_is.Put worker) = meaning.put worker

-- the call by which a worker does that
abbrev pub call_of : Reference → ℕ → ℕ → Call
call_of reference_is.Get worker slot = call.Get worker slot
call_of reference_is.Put worker slot = call.Put worker slot

abbrev pub request_from : Request → meaning.Request
request_from (request_is.Act action) = meaning.act (action_from action)
request_from request_is.Modinfo = meaning.modinfo
request_from request_is.Plan = meaning.plan
request_from (request_is.Modprobe words) = meaning.modprobe (texts_of words.now)
request_from request_is.ModprobeRemove = meaning.modprobe_remove

abbrev pub command_from : Command → meaning.Command
command_from command_is.Nothing = meaning.nothing
command_from (command_is.Malformed first) = meaning.malformed first.now
command_from (command_is.ByName name request) = meaning.by_name name (request_from request)
command_from command_is.Lsmod = meaning.lsmod
command_from command_is.Proc = meaning.proc

-- the code of a fault of the lines
abbrev pub setup_code_of : LineFault → SetupCode
setup_code_of line_faults.Read = Read
setup_code_of line_faults.Memory = Memory
setup_code_of line_faults.Turns = Turns
setup_code_of line_faults.LongLine = LongLine

-- no name of these modules is longer, and it is the length of a text
abbrev pub BoundsNames : ℕ → List Description → Type 0
BoundsNames longest modules =
    (longest ≤ 9223372036854775807) × ((slot : ℕ) → length (description_at modules slot).name ≤ longest)

-- there is room for the line of a refusal that names any module
abbrev pub FitsNames : Setup → ℕ → Type 0
FitsNames s room = (slot : ℕ) → length (name_at s slot) + 32 ≤ room

-- the outcome is that of a refused plan
abbrev pub TellsRefusal : PlanError → Outcome → Type 0
TellsRefusal plan_error.Memory outcome = ⊥
TellsRefusal e outcome = outcome ≡ refuses (told.plan_refusal e)

-- the refusal that a result is
abbrev pub refusal_in : {X : Type 0} → Setup → Result X SlotRefusal → Option told.Refusal
refusal_in s (Ok x) = None
refusal_in s (Err r) = refuse r.code (name_at s r.slot)

-- the outcome that an answer is
abbrev pub answer_outcome : Setup → Answer → Outcome
answer_outcome s answer_is.Done = says (codes "ok" ++ 10 ∷ [])
answer_outcome s answer_is.Yes = says (codes "yes" ++ 10 ∷ [])
answer_outcome s answer_is.No = says (codes "no" ++ 10 ∷ [])
answer_outcome s (answer_is.Refused r) = refused r.code (name_at s r.slot)

abbrev pub is_session : Section → Bool
is_session Session = true
is_session Catalogue = false
is_session Dep = false
is_session Alias = false
is_session Conf = false

-- the texts that the code holds
abbrev pub parts_of : Texts → Parts
parts_of texts =
    record {
      catalogue_text = texts.catalogue.items;
      dep_text = texts.dep.items;
      alias_text = texts.alias.items;
      conf_text = texts.conf.items;
    }

-- the sections of the old text are these, and its session is the new text
abbrev pub GivesSections : Option (List ℕ) → Option (List ℕ) → Parts → Type 0
GivesSections None new parts = ⊤
GivesSections (Some old) None parts = ⊥
GivesSections (Some old) (Some new) parts = sections None no_parts (cut_lines old) ≡ Ok (parts, cut_lines new)

-- why the sections of a text stop, as a code says it
abbrev pub StopsAs : SetupCode → List ℕ → Type 0
StopsAs B1 text = sections None no_parts (cut_lines text) ≡ Err early
StopsAs LongLine text = sections None no_parts (cut_lines text) ≡ Err too_long
StopsAs _ text = ⊤

-- the code is one of the catalogue or of modules.dep
abbrev pub is_text_code : SetupCode → Bool
is_text_code C1 = true
is_text_code C2 = true
is_text_code C3 = true
is_text_code C4 = true
is_text_code M1 = true
is_text_code M2 = true
is_text_code M3 = true
is_text_code _ = false

-- a fault of the sections has the line 1 if it is an early line, and else none
abbrev pub line_of : SetupCode → Option ℕ
line_of B1 = Some 1
line_of _ = None

abbrev pub HasLine : SetupFault → Type 0
HasLine fault = (fault.line ≡ line_of fault.code) × (is_text_code fault.code ≡ false)

abbrev pub is_read_code : SetupCode → Bool
is_read_code Read = true
is_read_code _ = false

abbrev pub is_turns_code : SetupCode → Bool
is_turns_code Turns = true
is_turns_code _ = false

-- the answer is that the source failed
abbrev pub is_setup_read : {X : Type 0} → Result X SetupFault → Bool
is_setup_read (Ok x) = false
is_setup_read (Err fault) = is_read_code fault.code

-- the texts are refused so, and with them their input, whatever its session is
abbrev pub RefusesTexts : SetupFault → Parts → Type 0
RefusesTexts fault parts = (session : List Line) → Refuses fault (with_session session (setup_for parts))

-- the code says nothing of where the reading stopped
abbrev pub StopsNowhere : SetupCode → Type 0
StopsNowhere code = (text ungiven : Option (List ℕ)) (line : List ℕ) → SetupStops code text ungiven line

-- the fault that a refused catalogue is
abbrev pub catalogue_fault : CatError → SetupFault
catalogue_fault (cat.Bad n) = record { code = C1; line = Some n }
catalogue_fault (cat.Duplicate n) = record { code = C2; line = Some n }
catalogue_fault (cat.TwiceExported n) = record { code = C3; line = Some n }
catalogue_fault (cat.TooMany n) = record { code = C4; line = Some n }
catalogue_fault cat.Memory = record { code = Memory; line = None }

-- the fault that a refused text of modules.dep is
abbrev pub dep_fault : DepError → SetupFault
dep_fault (dep.NoColon n) = record { code = M1; line = Some n }
dep_fault (dep.EmptyName n) = record { code = M2; line = Some n }
dep_fault (dep.SecondLine n) = record { code = M3; line = Some n }
dep_fault dep.Memory = record { code = Memory; line = None }
