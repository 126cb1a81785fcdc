-- What a run leaves, also if it stops.
use Rattle.std.specs.Prelude.{◌≡◌, ℕ, ◌<◌, ◌≤◌, ◌⊎◌, Bool, true, false, List, [], ◌∷◌, ◌++◌, All, length, Option, Result, Ok, Err, take}
use Rattle.std.specs.Io.KnownBytes.{Appends, prepend_known}
use Rattle.text_parts.specs.Text.{Line}
use Rattle.dep_index.specs.Table.{Table}
use Rattle.modprobe.specs.declared.lines.LineFault.{LineFault}
use Rattle.modprobe.specs.declared.lines.LineFault.TheVariants as line_faults
use Rattle.modprobe.specs.declared.fault.RunFault.{RunFault}
use Rattle.modprobe.specs.declared.fault.RunFault.TheVariants.{Read, Write, Memory, Turns, LongLine}
use Rattle.modprobe.specs.Lines.{AtHand, IfTold, HasNoFeed, GivesCut, GivesCuts, AllEnded, texts, IsPartOfLine, BeginsWithLongLine}
use Rattle.modprobe.specs.Setup.{Setup}
use Rattle.modprobe.specs.Session.{line_reply, answer}

-- each line is at most 65,535 bytes long
abbrev pub AllShort : List (List ℕ) → Type 0
AllShort lines = All (λ line. length line ≤ 65535) lines

-- These lines of the text were answered, over the table at the start: the text after them is left, what was written
-- grew by their answer and by nothing else, and the table is the answer's.
pub record Answered (s : Setup) (start : Table) (text left : Option (List ℕ)) (held written : Option (List ℕ)) (table : Table) (done : List Line) : Type 0 where
  pub gives : GivesCuts text left done
  pub short : AllShort (texts done)
  pub wrote : Appends held written (answer s start (texts done)).0
  pub after : table ≡ (answer s start (texts done)).1

-- The source failed, or was read too often, in a line: all lines before it were answered, each with its end, and what
-- the source gave after them is in hand, with no end of a line.
abbrev pub StoppedReading : Setup → Table → Option (List ℕ) → AtHand → Option (List ℕ) → Option (List ℕ) → Table → Type 0
StoppedReading s start text hand held written table =
    (done : List Line) × Answered s start text (prepend_known hand.line hand.ungiven) held written table done × AllEnded done
    × HasNoFeed hand.line

-- a line was too long: all lines before it were answered
abbrev pub StoppedAtLongLine : Setup → Table → Option (List ℕ) → Option (List ℕ) → Option (List ℕ) → Table → Type 0
StoppedAtLongLine s start text held written table =
    (done : List Line) × (rest : Option (List ℕ)) × Answered s start text rest held written table done × AllEnded done
    × IfTold rest BeginsWithLongLine

-- the line in hand, if it was read whole
abbrev pub line_in : AtHand → Line
line_in hand = record { text = hand.line; ending = hand.ending }

-- memory ran out in a line, or after it: all lines before it were answered, and it changed nothing
abbrev pub StoppedForMemory : Setup → Table → Option (List ℕ) → AtHand → Option (List ℕ) → Option (List ℕ) → Table → Type 0
StoppedForMemory s start text hand held written table =
    (done : List Line) × (rest : Option (List ℕ)) × Answered s start text rest held written table done × AllEnded done
    × (IsPartOfLine rest hand.left hand.line ⊎ GivesCut rest hand.left (line_in hand))

-- a front part of bytes was written, and not all of them
abbrev pub WritesPart : Option (List ℕ) → Option (List ℕ) → List ℕ → Type 0
WritesPart old new bytes = (count : ℕ) × (count < length bytes) × Appends old new (take count bytes)

-- A reply was not written whole: all lines before its line were answered, a front part of the reply was written, and
-- the table is the one after its line.
abbrev pub StoppedWriting : Setup → Table → Option (List ℕ) → AtHand → Option (List ℕ) → Option (List ℕ) → Table → Type 0
StoppedWriting s start text hand held written table =
    (done : List Line) × (count : ℕ) × GivesCuts text hand.left (done ++ line_in hand ∷ [])
    × AllShort (texts (done ++ line_in hand ∷ [])) × AllEnded done
    × (count < length (line_reply s (answer s start (texts done)).1 hand.line).0)
    × Appends held written ((answer s start (texts done)).0 ++ take count (line_reply s (answer s start (texts done)).1 hand.line).0)
    × (table ≡ (answer s start (texts (done ++ line_in hand ∷ []))).1)

-- what stands after each fault
abbrev pub StandsAfter : RunFault → Setup → Table → Option (List ℕ) → AtHand → Option (List ℕ) → Option (List ℕ) → Table → Type 0
StandsAfter Read s start text hand held written table = StoppedReading s start text hand held written table
StandsAfter Turns s start text hand held written table = StoppedReading s start text hand held written table
StandsAfter LongLine s start text hand held written table = StoppedAtLongLine s start text held written table
StandsAfter Memory s start text hand held written table = StoppedForMemory s start text hand held written table
StandsAfter Write s start text hand held written table = StoppedWriting s start text hand held written table

-- the answer is that the source failed
abbrev pub is_read : {X : Type 0} → Result X RunFault → Bool
is_read (Err Read) = true
is_read (Err Write) = false
is_read (Err Memory) = false
is_read (Err Turns) = false
is_read (Err LongLine) = false
is_read (Ok x) = false

-- the answer is that the sink failed
abbrev pub is_write : {X : Type 0} → Result X RunFault → Bool
is_write (Err Write) = true
is_write (Err Read) = false
is_write (Err Memory) = false
is_write (Err Turns) = false
is_write (Err LongLine) = false
is_write (Ok x) = false

abbrev pub is_turns : RunFault → Bool
is_turns Turns = true
is_turns _ = false

-- the fault of a run that a fault of its lines is
abbrev pub run_fault_of : LineFault → RunFault
run_fault_of line_faults.Read = Read
run_fault_of line_faults.Memory = Memory
run_fault_of line_faults.Turns = Turns
run_fault_of line_faults.LongLine = LongLine
