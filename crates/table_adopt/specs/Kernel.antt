-- The modules that a kernel has, as /proc/modules (proc(5)) lists them: the newest first.
use Rattle.std.specs.Prelude.{◌≡◌, ◌≢◌, ℕ, ◌+◌, List, [], ◌∷◌, if◌then◌else◌, Vec, Option, Some, None, Result, Ok, Err, MatchResult}
use Rattle.std.specs.declared.alloc.Global.{Global}
use Rattle.std.specs.Str.{bytes_eq}
use Rattle.std.specs.Str.Lines.{lines}
use Rattle.proc_modules.specs.declared.line.Line.{Line}
use Rattle.proc_modules.specs.declared.line.LineError.{LineError}
use Rattle.proc_modules.specs.declared.line.LineState.{LineState}
use Rattle.proc_modules.specs.Reading.{line_of}
use Rattle.table_adopt.specs.declared.kernel.KernelModule.{KernelModule}
use Rattle.table_adopt.specs.declared.kernel.KernelFault.{KernelFault}
use Rattle.table_adopt.specs.declared.kernel.KernelFault.TheVariants.{BadLine, Memory}

-- what a line of this number says of a module, or what is wrong with it
abbrev pub said : ℕ → Result (Line × ℕ) LineError → Result KernelModule KernelFault
said number (Ok (line, used)) = Ok (record { name = line.name; state = line.state })
said number (Err error) = Err (BadLine number error)

-- the module of a line of this number
abbrev pub module_of : ℕ → List ℕ → Result KernelModule KernelFault
module_of number line = said number (line_of line)

-- a module before those of later lines, or the first fault
abbrev pub before : Result KernelModule KernelFault → Result (List KernelModule) KernelFault → Result (List KernelModule) KernelFault
before (Err fault) later = Err fault
before (Ok entry) (Err fault) = Err fault
before (Ok entry) (Ok later) = Ok (entry ∷ later)

-- the modules of these lines, the first of which has this number, or the first fault
abbrev pub modules_from : ℕ → List (List ℕ) → Result (List KernelModule) KernelFault
modules_from number [] = Ok []
modules_from number (line ∷ later) = before (module_of number line) (modules_from (number + 1) later)

-- the modules of a text, in the order of its lines, or its first fault
abbrev pub modules_of_text : List ℕ → Result (List KernelModule) KernelFault
modules_of_text text = modules_from 1 (lines text)

-- what the kernel says of a name: the state in the first line of that name, if there is one
abbrev pub kernel_state : List KernelModule → List ℕ → Option LineState
kernel_state [] name = None
kernel_state (first ∷ later) name = if bytes_eq first.name name then Some first.state else kernel_state later name

-- what was read is what is wanted, and a fault is the first; out of memory says nothing of the text
abbrev pub ReadsModule : Result KernelModule KernelFault → Result KernelModule KernelFault → Type 0
ReadsModule wanted result = MatchResult result (λ entry. wanted ≡ Ok entry) (λ fault. fault ≢ Memory → wanted ≡ Err fault)

abbrev pub ReadsModules : Result (List KernelModule) KernelFault → Result (Vec KernelModule Global) KernelFault → Type 0
ReadsModules wanted result = MatchResult result (λ found. wanted ≡ Ok found.items) (λ fault. fault ≢ Memory → wanted ≡ Err fault)
