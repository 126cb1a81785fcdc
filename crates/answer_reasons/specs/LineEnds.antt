-- Lines that end as those of another system do.
use Rattle.std.specs.Prelude.{ℕ, Bool, nat_eq, List, [], ◌∷◌}
use Rattle.std.specs.List.{ends_with}

-- a carriage return stands last
abbrev pub ends_with_cr : List ℕ → Bool
ends_with_cr line = ends_with nat_eq line (13 ∷ [])
