-- The steps that bring a table to the modules of a kernel, and their lines.
use Rattle.std.specs.Prelude.{ℕ, true, false, List, [], ◌++◌, map, codes, Vec}
use Rattle.std.specs.declared.alloc.Global.{Global}
use Rattle.dep_index.specs.Catalogue.{Description, description_at}
use Rattle.table_adopt.specs.declared.step.Step.{Step}
use Rattle.table_adopt.specs.declared.step.Step.TheVariants.{BeginLoad, EndLoad, BeginRemove, EndRemove}

-- the module of a step
abbrev pub slot_of : Step → ℕ
slot_of (BeginLoad m) = m
slot_of (EndLoad m ok) = m
slot_of (BeginRemove m) = m
slot_of (EndRemove m) = m

-- what stands before the name
abbrev pub first_word : Step → List ℕ
first_word (BeginLoad m) = codes "begin_load "
first_word (EndLoad m ok) = codes "end_load "
first_word (BeginRemove m) = codes "begin_remove "
first_word (EndRemove m) = codes "end_remove "

-- what stands after it
abbrev pub last_word : Step → List ℕ
last_word (EndLoad m true) = codes " ok"
last_word (EndLoad m false) = codes " fail"
last_word _ = []

-- the line that makes the step
abbrev pub line_of : List Description → Step → List ℕ
line_of catalogue step = first_word step ++ ((description_at catalogue (slot_of step)).name ++ last_word step)

-- the bytes of each line
abbrev pub bytes_of : List (Vec ℕ Global) → List (List ℕ)
bytes_of lines = map (λ line. line.items) lines
