-- A world that takes replies, kills processes and cuts the power.
use Rattle.std.specs.Prelude.{ℕ, List, length, map}
use Rattle.line_journal.specs.Device.{History}
use Rattle.modprobe.specs.Outcomes.{Outcome}
use Rattle.tenures.specs.Tenures.{Tenure}
use Rattle.tenures.specs.Steps.{groups_of}
use Rattle.power_cuts.specs.declared.cuts.Over.{Over}
use Rattle.power_cuts.specs.declared.cuts.PowerCuts.{PowerCuts}
use Rattle.power_cuts.specs.Log.{noted}
use Rattle.power_cuts.specs.Disk.{content_of, history_of}

-- the tenure of a process that is over
abbrev pub tenure_of : Over → Tenure
tenure_of over = record { found = content_of over.found.value; asked = groups_of (noted over.asked); replies = noted over.replies; ended = over.ended }

-- the tenures that are over, oldest first
abbrev pub past_of : PowerCuts → List Tenure
past_of world = map tenure_of (noted world.past)

-- the replies that the process has begun
abbrev pub replies_of : PowerCuts → List Outcome
replies_of world = noted world.begun

-- the moment at which it began the last of them, or found its file
abbrev pub since_of : PowerCuts → ℕ
since_of world = (history_of world.seen.value).now

-- the file that it found
abbrev pub found_of : PowerCuts → List ℕ
found_of world = content_of world.found.value

-- how many processes were cut off
abbrev pub cut_offs_of : PowerCuts → ℕ
cut_offs_of world = length (noted world.cut_offs)
