-- A world in which each process opens the file anew.
use Rattle.std.specs.Prelude.{ℕ, List, length, map}
use Rattle.modprobe.specs.Outcomes.{Outcome}
use Rattle.file_journal.specs.Belief.{history_of}
use Rattle.tenures.specs.Tenures.{Tenure}
use Rattle.tenures.specs.Steps.{groups_of}
use Rattle.power_cuts.specs.Log.{noted}
use Rattle.file_lives.specs.declared.lives.Over.{Over}
use Rattle.file_lives.specs.declared.lives.FileLives.{FileLives}

-- the tenure of a process that is over
abbrev pub tenure_of : Over → Tenure
tenure_of over = record { found = over.found.value.bytes.items; asked = groups_of (noted over.asked); replies = noted over.replies; ended = over.ended }

-- the tenures that are over, oldest first
abbrev pub past_of : FileLives → List Tenure
past_of world = map tenure_of (noted world.past)

-- the replies that the process has begun
abbrev pub replies_of : FileLives → List Outcome
replies_of world = noted world.begun

-- the moment at which it began the last of them, or had opened its file
abbrev pub since_of : FileLives → ℕ
since_of world = (history_of world.seen.value).now

-- the file that it found
abbrev pub found_of : FileLives → List ℕ
found_of world = world.found.value.bytes.items

-- how many processes were cut off
abbrev pub cut_offs_of : FileLives → ℕ
cut_offs_of world = length (noted world.cut_offs)
