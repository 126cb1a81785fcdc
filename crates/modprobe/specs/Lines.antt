-- What the lines that are read leave.
use Rattle.std.specs.Prelude.{◌≡◌, ◌≢◌, ℕ, ◌+◌, ◌*◌, ◌<◌, ◌≤◌, ◌⊎◌, Bool, true, false, ◌==◌, if◌then◌else◌, List, [], ◌∷◌, ◌++◌, All, length, map, IfErr, OnOk, Option, Some, None, ⊤, Result, Ok, Err}
use Rattle.std.specs.Option.{option_map}
use Rattle.std.specs.Io.KnownBytes.{Consumes, Keeps, IsAtEnd}
use Rattle.std.specs.Str.Lines.{lines}
use Rattle.text_parts.specs.Text.{Line, cut_lines}
use Rattle.modprobe.specs.declared.lines.LineFault.{LineFault}
use Rattle.modprobe.specs.declared.lines.LineFault.TheVariants.{Read, Memory, Turns, LongLine}
use Rattle.modprobe.specs.declared.lines.Ending.{Ending}
use Rattle.modprobe.specs.declared.lines.Ending.TheVariants.{Absent, Feed, ReturnFeed}
use Rattle.modprobe.specs.declared.lines.Lines.{Lines}

-- no byte is a line feed
abbrev pub HasNoFeed : List ℕ → Type 0
HasNoFeed bytes = All (λ byte. (byte == 10) ≡ false) bytes

-- what is left of a source: nothing at its end, else what of the piece was not used, and what the source tells
abbrev pub left_of : Bool → List ℕ → Option (List ℕ) → Option (List ℕ)
left_of at_end unused told = option_map (λ rest. if at_end then [] else unused ++ rest) told

-- the bytes that are left for further lines, if the source tells them
abbrev pub bytes_left : {R : Type 0} → (R → Option (List ℕ)) → Lines R → Option (List ℕ)
bytes_left remaining s = left_of s.at_end s.piece (remaining s.reader.now)

-- the same after the bytes of the line in hand
abbrev pub text_left : {R : Type 0} → (R → Option (List ℕ)) → Lines R → Option (List ℕ)
text_left remaining s = option_map (λ rest. s.line.items ++ rest) (bytes_left remaining s)

-- the source that they are read from
abbrev pub source_of : {R : Type 0} → Lines R → R
source_of s = s.reader.now

-- both read one source, which is lent to them
abbrev pub SameReader : {R : Type 0} → Lines R → Lines R → Type 0
SameReader old new = new.reader.ghost_name ≡ old.reader.ghost_name

-- how often it may be read
abbrev pub turns_of : {R : Type 0} → Lines R → ℕ
turns_of s = s.turns

-- its end was not found yet
abbrev pub IsGoing : {R : Type 0} → Lines R → Type 0
IsGoing s = s.at_end ≡ false

-- the line in hand, without its end
abbrev pub line_of : {R : Type 0} → Lines R → List ℕ
line_of s = s.line.items

-- no byte that was read is unused, and the source is not known to be at its end
abbrev pub IsDrained : {R : Type 0} → Lines R → Type 0
IsDrained s = (s.piece ≡ []) × (s.at_end ≡ false)

-- the reads and bytes that are left: a read counts for more than the bytes of a piece
abbrev pub steps_left : {R : Type 0} → Lines R → ℕ
steps_left s = s.turns * 4097 + length s.piece

-- the text's first line is too long
abbrev pub BeginsWithLongLine : List ℕ → Type 0
BeginsWithLongLine text = (line : List ℕ) × (more : List (List ℕ)) × (lines text ≡ line ∷ more) × (65535 < length line)

-- the fact holds of the text, if it is told
abbrev pub IfTold : Option (List ℕ) → (List ℕ → Type 0) → Type 0
IfTold None P = ⊤
IfTold (Some text) P = P text

-- the first line of the old text is `line`, and its other lines are those of the new text
abbrev pub GivesLine : Option (List ℕ) → Option (List ℕ) → List ℕ → Type 0
GivesLine None new line = ⊤
GivesLine (Some old) None line = ⊥
GivesLine (Some old) (Some new) line = lines old ≡ line ∷ lines new

-- the same of the line with its end
abbrev pub GivesCut : Option (List ℕ) → Option (List ℕ) → Line → Type 0
GivesCut None new line = ⊤
GivesCut (Some old) None line = ⊥
GivesCut (Some old) (Some new) line = cut_lines old ≡ line ∷ cut_lines new

-- the lines of the old text, each with its end, are these and those of the new text
abbrev pub GivesCuts : Option (List ℕ) → Option (List ℕ) → List Line → Type 0
GivesCuts None new done = ⊤
GivesCuts (Some old) None done = ⊥
GivesCuts (Some old) (Some new) done = cut_lines old ≡ done ++ cut_lines new

-- each line has its end: none is the last of a text without a line feed
abbrev pub AllEnded : List Line → Type 0
AllEnded done = All (λ (line : Line). 0 < length line.ending) done

-- the texts of lines, without their ends
abbrev pub texts : List Line → List (List ℕ)
texts cut = map (λ (line : Line). line.text) cut

-- each turn that was spent was one read, and each read took one turn
abbrev pub SpendsTurns : {R : Type 0} → (R → ℕ) → Lines R → Lines R → Type 0
SpendsTurns read_count old new = read_count new.reader.now + new.turns ≡ read_count old.reader.now + old.turns

-- if the lines are known to be at their end, the source is at its own
abbrev pub HasTrueEnd : {R : Type 0} → (R → Option (List ℕ)) → Lines R → Type 0
HasTrueEnd remaining s = s.at_end ≡ true → IsAtEnd (remaining s.reader.now)

-- the turns that were spent between two states of a source are no more than the bytes that it gave
abbrev pub PaysTurns : ℕ → ℕ → Option (List ℕ) → Option (List ℕ) → Type 0
PaysTurns before after None new = ⊤
PaysTurns before after (Some old) None = ⊥
PaysTurns before after (Some old) (Some new) = before + length new ≤ after + length old

-- the source gave at least so many bytes
abbrev pub GaveAtLeast : ℕ → Option (List ℕ) → Option (List ℕ) → Type 0
GaveAtLeast count old new = PaysTurns count 0 old new

-- each turn that was spent on the lines gave a byte, unless one found the end
abbrev pub IsPaid : {R : Type 0} → (R → Option (List ℕ)) → Lines R → Lines R → Type 0
IsPaid remaining old new =
    new.at_end ≡ false → (old.at_end ≡ false) × PaysTurns old.turns new.turns (remaining old.reader.now) (remaining new.reader.now)

-- no turn is left, and the source, which was not at its end before, gave at least as many bytes as there were turns
abbrev pub StopsForTurns : {R : Type 0} → (R → Option (List ℕ)) → Lines R → Lines R → Type 0
StopsForTurns remaining old new =
    (new.turns ≡ 0) × (old.at_end ≡ false) × GaveAtLeast old.turns (remaining old.reader.now) (remaining new.reader.now)

-- What is at hand where reading stops: the bytes that are left of the input, those of them that the source has not
-- given yet, what was read of a line, and the end of that line, if it was read.
pub record AtHand : Type 0 where
  pub left : Option (List ℕ)
  pub ungiven : Option (List ℕ)
  pub line : List ℕ
  pub ending : List ℕ

-- the old text is the line, its line feed and the new text
abbrev pub EndsLine : Option (List ℕ) → Option (List ℕ) → List ℕ → Type 0
EndsLine old new line = Consumes old new (line ++ 10 ∷ [])

-- the bytes between the two texts are the beginning of a line, without its end
abbrev pub IsPartOfLine : Option (List ℕ) → Option (List ℕ) → List ℕ → Type 0
IsPartOfLine old new part = Consumes old new part × HasNoFeed part

-- the bytes that end a line
abbrev pub ending_bytes : Ending → List ℕ
ending_bytes Absent = []
ending_bytes Feed = 10 ∷ []
ending_bytes ReturnFeed = 13 ∷ 10 ∷ []

-- what is at hand in lines
abbrev pub hand_of : {R : Type 0} → (R → Option (List ℕ)) → Lines R → AtHand
hand_of remaining s =
    record {
      left = bytes_left remaining s;
      ungiven = remaining s.reader.now;
      line = s.line.items;
      ending = ending_bytes s.ending;
    }

-- the answer is that the source failed
abbrev pub is_read_fault : {X : Type 0} → Result X LineFault → Bool
is_read_fault (Err Read) = true
is_read_fault (Err Memory) = false
is_read_fault (Err Turns) = false
is_read_fault (Err LongLine) = false
is_read_fault (Ok x) = false

-- The reader, its turns, its end and the end of the line in hand are as before.
pub record SameSource {R : Type 0} (old new : Lines R) : Type 0 where
  pub reader : new.reader ≡ old.reader
  pub turns : new.turns ≡ old.turns
  pub at_end : new.at_end ≡ old.at_end
  pub ending : new.ending ≡ old.ending

-- Bytes are at hand, or the end was found, or the source stopped: no byte is lost, and the line in hand is as before.
pub record Fetched {R : Type 0} (remaining : R → Option (List ℕ)) (old new : Lines R) (result : Result Bool LineFault) : Type 0 where
  pub line : new.line ≡ old.line
  pub ending : new.ending ≡ old.ending
  pub text : Keeps (text_left remaining old) (text_left remaining new)
  pub some : result ≡ Ok true → (new.at_end ≡ false) × (0 < length new.piece)
  pub none : result ≡ Ok false → new.at_end ≡ true
  pub paid : OnOk result (IsPaid remaining old new)
  pub stopped : IfErr result (λ fault. (fault ≡ Read) ⊎ (fault ≡ Turns))
  pub drained : IfErr result (λ fault. IsDrained new)
  pub going : IfErr result (λ fault. old.at_end ≡ false)
  pub spent : result ≡ Err Turns → (new.turns ≡ 0) × IsPaid remaining old new
  pub falls : OnOk result (steps_left new ≤ steps_left old)

-- why the piece was not moved to the line: there is no memory, or the text begins with a line that is too long
pub record StoppedTaking (fault : LineFault) (text : Option (List ℕ)) : Type 0 where
  pub why : (fault ≡ Memory) ⊎ (fault ≡ LongLine)
  pub long : fault ≡ LongLine → IfTold text BeginsWithLongLine

-- A line was given, which is not too long: it is the first of what was left, and the others are left. Only the last line
-- of a source that is at its end may be without its end.
pub record GaveLine {R : Type 0} (remaining : R → Option (List ℕ)) (old new : Lines R) : Type 0 where
  pub line : GivesLine (bytes_left remaining old) (bytes_left remaining new) new.line.items
  pub cut : GivesCut (bytes_left remaining old) (bytes_left remaining new) (record { text = new.line.items; ending = ending_bytes new.ending })
  pub raw : Consumes (bytes_left remaining old) (bytes_left remaining new) (new.line.items ++ ending_bytes new.ending)
  pub short : length new.line.items ≤ 65535
  pub going : old.at_end ≡ false
  pub ended : new.at_end ≡ false → 0 < length (ending_bytes new.ending)
  pub paid : IsPaid remaining old new
  pub falls : steps_left new < steps_left old

-- there was no line: nothing was left
pub record FoundEnd {R : Type 0} (remaining : R → Option (List ℕ)) (old new : Lines R) : Type 0 where
  pub before : IsAtEnd (bytes_left remaining old)
  pub after : IsAtEnd (bytes_left remaining new)
  pub kept : Keeps (bytes_left remaining old) (bytes_left remaining new)
  pub paid : IsPaid remaining old new

-- No line was given, for a fault. What was read of it is in hand and has no end, unless it is too long. If the source
-- failed, or may not be read again, that is all that it gave.
pub record StoppedReading {R : Type 0} (fault : LineFault) (remaining : R → Option (List ℕ)) (old new : Lines R) : Type 0 where
  pub going : old.at_end ≡ false
  pub in_hand : fault ≢ LongLine → IsPartOfLine (bytes_left remaining old) (bytes_left remaining new) new.line.items
  pub read : fault ≡ Read → bytes_left remaining new ≡ remaining new.reader.now
  pub turns : fault ≡ Turns → bytes_left remaining new ≡ remaining new.reader.now
  pub spent : fault ≡ Turns → (new.turns ≡ 0) × (new.at_end ≡ false) × IsPaid remaining old new
  pub long : fault ≡ LongLine → IfTold (bytes_left remaining old) BeginsWithLongLine
