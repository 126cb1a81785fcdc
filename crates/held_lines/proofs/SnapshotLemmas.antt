-- The lines of one more module.
use Rattle.std.proofs.Common.{◌≡◌, ℕ, ◌+◌, ◌<◌, List, [], ◌∷◌, ◌++◌, length, get_or, take, sym, ap, ◌∙◌}
use Rattle.std.specs.List.{flat_map}
use Rattle.std.proofs.lemmas.List.{take_more, flat_map_more}

pub lines_more : (lines : ℕ → List (List ℕ)) (order : List ℕ) (place slot : ℕ) (old mid new : List (List ℕ)) → place < length order → slot ≡ get_or order place 0
    → mid ≡ old ++ flat_map lines (take place order) → new ≡ mid ++ lines slot → new ≡ old ++ flat_map lines (take (place + 1) order)
lines_more lines order place slot old mid new below is before pushed =
    pushed ∙ ap (λ ls. ls ++ lines slot) before ∙ flat_map_more lines old (take place order) slot
    ∙ ap (λ slots. old ++ flat_map lines slots) (ap (λ m. take place order ++ m ∷ []) is ∙ sym (take_more order place 0 below))
