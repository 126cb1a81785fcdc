-- What the program holds while it reads, as the definitions have it.
use Rattle.std.specs.Prelude.{◌≡◌, List, map, Ok, Result, MatchResult}
use Rattle.std.specs.Global.{Vec}
use Rattle.text_parts.specs.Text.{texts_of}
use Rattle.workload_drive.specs.declared.fault.LineFault.{LineFault}
use Rattle.workload_drive.specs.declared.fault.ScheduleFault.{ScheduleFault}
use Rattle.workload_drive.specs.declared.lines.Line.{Line}
use Rattle.workload_drive.specs.declared.statement.Statement.{Statement}
use Rattle.workload_drive.specs.declared.statement.Parts.{Parts}
use Rattle.workload_drive.specs.Faults.{IsFirstFault}
use Rattle.workload_drive.specs.Statements as spec
use Rattle.workload_drive.specs.declared.script.acts.NamedAct.{NamedAct}
use Rattle.workload_drive.specs.declared.script.entries.Task.{Task}
use Rattle.workload_drive.specs.Script as scripts

-- what was read is seen as the value that is wanted, or the reading ends with its first faulty line
abbrev pub Reads : {A B : Type 0} → Result A LineFault → (B → A) → Result B ScheduleFault → Type 0
Reads wanted seen result = MatchResult result (λ value. wanted ≡ Ok (seen value)) (λ fault. IsFirstFault fault wanted)

abbrev pub line_in : Line → spec.Numbered
line_in line = record { number = line.number; text = line.text.now; ending = line.ending.now }

abbrev pub lines_in : List Line → List spec.Numbered
lines_in lines = map line_in lines

abbrev pub statement_in : Statement → spec.Statement
statement_in said = record { number = said.number; words = texts_of said.words.items }

abbrev pub statements_in : List Statement → List spec.Statement
statements_in said = map statement_in said

abbrev pub parts_in : Parts → spec.Parts
parts_in p = record { catalogue = p.catalogue; statements = statements_in p.statements.items; end = p.end }

abbrev pub named_act_in : NamedAct → scripts.NamedAct
named_act_in asked = record { act = asked.act; name = asked.name.now }

abbrev pub tasks_in : List (Vec Task) → List (List Task)
tasks_in tasks = map (λ (t : Vec Task). t.items) tasks
