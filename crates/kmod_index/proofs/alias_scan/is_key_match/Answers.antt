use Rattle.std.proofs.Common.{◌≡◌, ◌∙◌, ◌++◌, ◌∷◌, [], Bool, true, false, cond, ℕ, Option, Some, None, refl, ap, is_some}
use Rattle.kmod_names.specs.Patterns.{first_pattern}
use Rattle.kmod_index.specs.Tries.{matches_key, pattern_of_key}
use Rattle.kmod_index.proofs.alias_scan.is_key_match.Goals as goal

-- the place of the one pattern
abbrev place : Bool → Option ℕ
place matches = cond matches (Some 0) None

has_place : (matches : Bool) → is_some (place matches) ≡ matches
has_place true = refl
has_place false = refl

pub returns : goal.returns
returns c =
    c.is_some.ensures
    ∙ ap (λ (o : Option ℕ). is_some o) (c.in_ok-first.ensures ∙ ap (λ ps. first_pattern ps c.args.name.now) (c.in_ok-push_key.ensures.ok ∙ ap (λ ps. ps ++ pattern_of_key c.args.key.now ∷ []) c.new-patterns.ensures))
    ∙ has_place (matches_key c.args.key.now c.args.name.now)
