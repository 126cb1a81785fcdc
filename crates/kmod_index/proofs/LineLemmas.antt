-- Lines that were read, before later ones.
use Rattle.std.proofs.Common.{◌≡◌, List, [], ◌∷◌, ◌++◌, Option, Some, None, ap, append_assoc}
use Rattle.std.specs.List.{cons_option}
use Rattle.std.specs.Option.{option_to_list}
use Rattle.std.proofs.lemmas.List.{append-nil}

pub append-option : {X : Type 0} (front : List X) (x : Option X) (rest : List X) → (front ++ option_to_list x) ++ rest ≡ front ++ cons_option x rest
append-option front None rest = ap (λ l. l ++ rest) (append-nil front)
append-option front (Some x) rest = append_assoc front (x ∷ []) rest
