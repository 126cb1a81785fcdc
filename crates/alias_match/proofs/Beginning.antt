-- A text that a pattern matches begins with the pattern's literal beginning.
use Rattle.std.proofs.Common.{◌≡◌, ℕ, List, [], ◌∷◌, ◌++◌, refl, ◌∙◌, ap}
use Rattle.alias_match.specs.Pattern.{byte, any_byte, run, one_of, BeginsLiterally, literal_beginning}

pub begins_literally : BeginsLiterally
begins_literally [] s m = (s, refl)
begins_literally (byte own ∷ ps) s (front, rest, split, single, later) =
    let behind : (end : List ℕ) × (rest ≡ literal_beginning ps ++ end) = begins_literally ps rest later in
    (behind.0, split ∙ ap (λ f. f ++ rest) single ∙ ap (λ t. own ∷ t) behind.1)
begins_literally (any_byte ∷ ps) s m = (s, refl)
begins_literally (run ∷ ps) s m = (s, refl)
begins_literally (one_of negated members ∷ ps) s m = (s, refl)
