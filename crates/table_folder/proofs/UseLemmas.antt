-- Lines of /proc/modules that name no user.
use Rattle.std.proofs.Common.{arith, ◌≡◌, ℕ, ◌<◌, List, [], ◌∷◌, length, refl, Bor}
use Rattle.text_parts.specs.Text.{texts_of}
use Rattle.table_folder.specs.Uses.{users_of}

-- a line of fewer than four words names none
pub few_words : (name : List ℕ) (words : List (Bor (List ℕ))) → length words < 4 → users_of name (texts_of words) ≡ []
few_words name [] few = refl
few_words name (a ∷ []) few = refl
few_words name (a ∷ b ∷ []) few = refl
few_words name (a ∷ b ∷ c ∷ []) few = refl
few_words name (a ∷ b ∷ c ∷ d ∷ rest) few = absurd (omega arith)
