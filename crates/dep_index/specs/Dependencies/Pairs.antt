-- What the program keeps of a modules.dep text, as its pairs.
use Rattle.std.specs.Prelude.{ℕ, List, map, Vec}
use Rattle.std.specs.declared.alloc.Global.{Global}
use Rattle.dep_index.specs.Dependencies.{Pair}

-- an entry of the index of names, as a pair of a name and its dependencies
abbrev pub pair_of : Vec ℕ Global × Vec (List ℕ) Global → Pair
pair_of entry = (entry.0.items, entry.1.items)

-- the entries of the index, as pairs in their order
abbrev pub pairs_in : List (Vec ℕ Global × Vec (List ℕ) Global) → List Pair
pairs_in entries = map pair_of entries
