-- What no step does.
use Rattle.std.specs.Prelude.{◌≡◌, false, List, All}
use Rattle.dep_index.specs.Table.{Table, is_held}
use Rattle.table_adopt.specs.declared.step.Step.{Step}
use Rattle.table_adopt.specs.Steps.{slot_of}

-- No step is of a module that anybody holds.
abbrev pub LeavesHeldAlone : Table → List Step → Type 0
LeavesHeldAlone t steps = All (λ step. is_held t (slot_of step) ≡ false) steps
