-- Lines of /proc/locks that name no process.
use Rattle.std.proofs.Common.{arith, ◌≡◌, None, ℕ, ◌<◌, List, [], ◌∷◌, length, refl, Bor}
use Rattle.text_parts.specs.Text.{texts_of}
use Rattle.table_folder.specs.Locks.{locker_of}

-- a line of fewer than six words names no process
pub few_words : (file : List ℕ) (words : List (Bor (List ℕ))) → length words < 6 → locker_of file (texts_of words) ≡ None
few_words file [] few = refl
few_words file (a ∷ []) few = refl
few_words file (a ∷ b ∷ []) few = refl
few_words file (a ∷ b ∷ c ∷ []) few = refl
few_words file (a ∷ b ∷ c ∷ d ∷ []) few = refl
few_words file (a ∷ b ∷ c ∷ d ∷ e ∷ []) few = refl
few_words file (a ∷ b ∷ c ∷ d ∷ e ∷ f ∷ rest) few = absurd (omega arith)
