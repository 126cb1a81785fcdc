-- Which names are in normal form.
use Rattle.std.proofs.Common.{◌≡◌, ℕ, List, [], ◌∷◌, Bool, true, false, cond, length, refl, ap, ◌∙◌}
use Rattle.std.specs.Prelude.{◌==◌}
use Rattle.memchr.specs.Find.{Nowhere, Passes, is_byte}
use Rattle.text_parts.specs.Text.{normal_byte, normal_form}
use Rattle.text_parts.proofs.PlaceLemmas.{from_zero, here_not}

byte_at : (b : ℕ) (t : Bool) → (b == 45) ≡ t → normal_byte (cond t 95 b) ≡ cond t 95 b
byte_at b true e = refl
byte_at b false e = rw e refl

pub normal_again : (s : List ℕ) → normal_form (normal_form s) ≡ normal_form s
normal_again [] = refl
normal_again (b ∷ s) = ap (λ c. c ∷ normal_form (normal_form s)) (byte_at b (b == 45) refl) ∙ ap (λ l. normal_byte b ∷ l) (normal_again s)

-- a name without a dash stands in normal form
pub normal-no_dash : (s : List ℕ) → Nowhere (Passes (is_byte 45) s) 0 (length s) → normal_form s ≡ s
normal-no_dash [] none = refl
normal-no_dash (b ∷ s) none =
    rw (here_not (is_byte 45) b s (length s) none) (ap (λ l. b ∷ l) (normal-no_dash s (from_zero (is_byte 45) b s (length s) none)))
