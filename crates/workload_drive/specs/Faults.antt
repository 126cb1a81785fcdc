-- What a refusal says of an input.
use Rattle.std.specs.Prelude.{◌≡◌, ℕ, Result, Ok, Err}
use Rattle.dep_index.specs.Catalogue.{Refusal, bad, duplicate, twice_exported, too_many}
use Rattle.dep_index.specs.declared.faults.CatError.{CatError}
use Rattle.dep_index.specs.declared.faults.CatError.TheVariants as cat
use Rattle.linear_points.specs.declared.point.PointsError.{PointsError}
use Rattle.linear_points.specs.declared.point.PointsError.TheVariants as points
use Rattle.workload_drive.specs.declared.fault.LineCode.{LineCode}
use Rattle.workload_drive.specs.declared.fault.LineCode.TheVariants.{C1, C2, C3, C4, H1}
use Rattle.workload_drive.specs.declared.fault.LineFault.{LineFault}
use Rattle.workload_drive.specs.declared.fault.ScheduleFault.{ScheduleFault}
use Rattle.workload_drive.specs.declared.fault.ScheduleFault.TheVariants as fault

-- the fault of this code at this line
abbrev pub fault_at : LineCode → ℕ → LineFault
fault_at code line = record { code = code; line = line }

-- a line of no form, or another line than the one that should stand there
abbrev pub bad_line : ℕ → LineFault
bad_line line = fault_at H1 line

-- the code of what is wrong with a catalogue
abbrev pub code_of : Refusal → LineCode
code_of bad = C1
code_of duplicate = C2
code_of twice_exported = C3
code_of too_many = C4

-- the fault of a catalogue text, as one of an input
abbrev pub catalogue_fault : CatError → ScheduleFault
catalogue_fault (cat.Bad n) = fault.Line (fault_at C1 n)
catalogue_fault (cat.Duplicate n) = fault.Line (fault_at C2 n)
catalogue_fault (cat.TwiceExported n) = fault.Line (fault_at C3 n)
catalogue_fault (cat.TooMany n) = fault.Line (fault_at C4 n)
catalogue_fault cat.Memory = fault.Memory

-- why steps have no points, as a fault of an input
abbrev pub points_fault : PointsError → ScheduleFault
points_fault (points.Step index cause) = fault.Step index cause
points_fault points.Memory = fault.Memory

-- what is read next, unless a line is faulty
infixl 10 ◌>>=◌
abbrev pub ◌>>=◌ : {A B : Type 0} → Result A LineFault → (A → Result B LineFault) → Result B LineFault
(Ok x) >>= next = next x
(Err f) >>= next = Err f

-- the reading ends with this line as its first faulty one; out of memory says nothing of the lines
abbrev pub IsFirstFault : {A : Type 0} → ScheduleFault → Result A LineFault → Type 0
IsFirstFault (fault.Line f) read = read ≡ Err f
IsFirstFault (fault.Step index cause) read = ⊥
IsFirstFault fault.Memory read = Unit {0}
