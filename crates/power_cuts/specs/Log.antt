-- Notes that only clauses read.
use Rattle.std.specs.Prelude.{List, [], ◌∷◌, ◌++◌}
use Rattle.power_cuts.specs.declared.log.Log.{Log, Empty, More'}

-- the values that were noted, oldest first
abbrev pub noted : {T : Type 0} → Log T → List T
noted Empty = []
noted (More' marker earlier last) = noted earlier ++ last.value ∷ []
