-- Lines of modprobe.d without effect.
use Rattle.std.proofs.Common.{arith, ◌≡◌, false, ℕ, ◌<◌, List, [], ◌∷◌, length, refl, Bor}
use Rattle.text_parts.specs.Text.{texts_of}
use Rattle.table_folder.specs.Notices.{has_pattern}

-- a line of fewer than three words has none
pub few_words : (words : List (Bor (List ℕ))) → length words < 3 → has_pattern (texts_of words) ≡ false
few_words [] few = refl
few_words (a ∷ []) few = refl
few_words (a ∷ b ∷ []) few = refl
few_words (a ∷ b ∷ c ∷ rest) few = absurd (omega arith)
