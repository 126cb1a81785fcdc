-- How often a leaf tried a get, as the steps that it made show it.
use Rattle.std.specs.Prelude.{ℕ}
use Rattle.dep_index.specs.declared.table.calls.Reply.{Reply}
use Rattle.root_row.specs.Seats.{Seated}
use Rattle.root_row.specs.StepsMade.{SameView}
use Rattle.root_row.specs.Views.{count_of}
use Rattle.use_indicator.specs.Counted.{TrySteps, GivenUp}

-- the leaf gave up a get of the slot after exactly so many tries, each of which was missed, and its view stays
abbrev pub GaveUp : ℕ → ℕ → Seated → Seated → Type 0
GaveUp tries slot old new = SameView old new × GivenUp tries slot old new

-- the leaf's get of the slot was answered so, after fewer missed tries than these
abbrev pub AnsweredWithin : ℕ → ℕ → Reply → Seated → Seated → Type 0
AnsweredWithin tries slot reply old new = TrySteps tries slot (count_of old.view slot) reply old new
