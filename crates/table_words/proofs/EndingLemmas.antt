-- How several lines end.
use Rattle.std.proofs.Common.{◌≡◌, Bool, true, false, List, [], ◌∷◌, refl, ap, ◌∙◌}
use Rattle.std.specs.Prelude.{fold}
use Rattle.table_words.specs.declared.ending.Ending.{Ending}
use Rattle.table_words.specs.declared.ending.Ending.TheVariants.{Done}
use Rattle.table_words.specs.Endings.{behind, ending_of_lines, is_refusal}

behind_refusal : (ending next : Ending) → is_refusal ending ≡ true → behind ending next ≡ ending
behind_refusal ending next is = rw is refl

kept : (ending : Ending) (endings : List Ending) → is_refusal ending ≡ true → fold behind ending endings ≡ ending
kept ending [] is = refl
kept ending (next ∷ endings) is = ap (λ e. fold behind e endings) (behind_refusal ending next is) ∙ kept ending endings is

pub first_counts : (endings : List Ending) → fold behind Done endings ≡ ending_of_lines endings
first_counts [] = refl
first_counts (ending ∷ endings) = at (is_refusal ending) refl (first_counts endings) where
  at : (b : Bool) → is_refusal ending ≡ b → fold behind Done endings ≡ ending_of_lines endings → fold behind Done (ending ∷ endings) ≡ ending_of_lines (ending ∷ endings)
  at true is later = rw is (kept ending endings is)
  at false is later = rw is later
