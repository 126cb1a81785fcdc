-- The names of the parameters of a module that is being read. These words serve proofs alone.
use Rattle.std.specs.Prelude.{ℕ, List, map, drop, Vec}
use Rattle.std.specs.declared.alloc.Global.{Global}
use Rattle.dep_index.specs.declared.catalogue.params.Param.{Param}

-- names of the code, as their bytes
abbrev pub names_in : List (Vec ℕ Global) → List (List ℕ)
names_in names = map (λ name. name.items) names

-- the names of all parameters but the first 16
abbrev pub later_names : List Param → List (List ℕ)
later_names params = map (λ p. p.name) (drop 16 params)
