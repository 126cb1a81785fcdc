use Rattle.std.proofs.Common.{rules, ◌≡◌, ◌∙◌, ap, refl, ℕ, List, [], Option, Some, None}
use Rattle.std.specs.Prelude.{unwrap_or}
use Rattle.std.specs.Option.{option_map}
use Rattle.std.specs.Borrow.{Bor}
use Rattle.std.proofs.lemmas.Iterator.Search.{find_from_yields_List}
use Rattle.std.proofs.lemmas.Iterator.Splits.{YieldsList-from_slice_split}
use Rattle.text_parts.specs.Text.{is_blank, is_filled}
use Rattle.program_frame.proofs.line.first_word.Goals as goal

now_or : (found : Option (Bor (List ℕ))) (other : Bor (List ℕ)) → other.now ≡ [] → (unwrap_or found other).now ≡ unwrap_or (option_map (λ word. word.now) found) []
now_or None other is = is
now_or (Some word) other is = refl

pub returns : goal.returns
returns c =
    ap (λ (word : Bor (List ℕ)). word.now) c.unwrap_or.ensures
    ∙ now_or c.find.result _ refl
    ∙ ap (λ (found : Option (List ℕ)). unwrap_or found [])
    (find_from_yields_List is_filled _ _ _ c.find.ensures.ran
    (YieldsList-from_slice_split _ is_blank c.args.line.now c.split-parts.ensures.rest c.split-parts.ensures.done c.split-parts.ensures.closure (λ x r q k. search rules))
    (λ x b q k. search rules))
