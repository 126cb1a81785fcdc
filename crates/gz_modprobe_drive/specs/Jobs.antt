-- What a run does, and how it ends.
use Rattle.std.specs.Prelude.{◌≡◌, ◌≢◌, ℕ, true, List, Option}
use Rattle.kmod_query.specs.declared.query.Query.{Query}
use Rattle.modprobe_words.specs.declared.switches.Switches.{Switches}
use Rattle.modprobe_words.specs.declared.wishes.Wish.{Wish}
use Rattle.modprobe_words.specs.Asked.{Asked}
use Rattle.gz_modprobe_drive.specs.declared.job.Job.{Job}
use Rattle.gz_modprobe_drive.specs.declared.job.Job.TheVariants.{Lint, Why, Diff, Answer}
use Rattle.gz_modprobe_drive.specs.Begun.{AreBegun}
use Rattle.gz_modprobe_drive.specs.Ends.{WasAnswered}
use Rattle.gz_modprobe_drive.specs.Formed.{form_by}
use Rattle.gz_modprobe_drive.specs.Leads.{WasTold}
use Rattle.gz_modprobe_drive.specs.Linted.{WasLinted}
use Rattle.gz_modprobe_drive.specs.Outputs.{WasBegun}
use Rattle.gz_modprobe_drive.specs.Shapes.{shape_of}
use Rattle.gz_modprobe_drive.specs.Queries.{IsQueryOf, is_lint, is_why}

-- it is what is wished for, as the options and the words of a command line say
abbrev pub IsJob : Wish → Switches → List (List ℕ) → Job → Type 0
IsJob wish switches given Lint = is_lint wish ≡ true
IsJob wish switches given Why = is_why wish ≡ true
IsJob wish switches given Diff = is_why wish ≡ true
IsJob wish switches given (Answer query) = IsQueryOf wish switches given query

-- the greatest status
abbrev pub worst_job : Job → ℕ
worst_job Lint = 2
worst_job Why = 2
worst_job Diff = 2
worst_job (Answer query) = 1

-- it ended well
abbrev pub JobEnds : Job → Asked → Option (List ℕ) → Option (List ℕ) → Type 0
JobEnds Lint asked before after = WasLinted asked.kmod asked.switches.strict before after
JobEnds Why asked before after = WasTold (form_by asked.switches.explain) before after
JobEnds Diff asked before after = WasTold (form_by asked.switches.explain) before after
JobEnds (Answer query) asked before after = WasAnswered asked.kmod asked.switches.whole (shape_of asked.switches) query before after

-- a beginning of what it writes was written
abbrev pub JobBegun : Job → Asked → Option (List ℕ) → Option (List ℕ) → Type 0
JobBegun Lint asked before after = AreBegun (form_by asked.switches.explain) before after
JobBegun Why asked before after = AreBegun (form_by asked.switches.explain) before after
JobBegun Diff asked before after = AreBegun (form_by asked.switches.explain) before after
JobBegun (Answer query) asked before after = WasBegun asked.kmod asked.switches.whole (shape_of asked.switches) query before after

-- if anything was written, it is such a beginning
abbrev pub JobWrites : Job → Asked → Option (List ℕ) → Option (List ℕ) → Type 0
JobWrites job asked before after = after ≢ before → JobBegun job asked before after
