-- Keys that are their normal form.
use Rattle.std.proofs.Common.{◌≡◌, ℕ, ◌==◌, Bool, true, false, ◌||◌, List, [], ◌∷◌, length, Some, refl, ap}
use Rattle.memchr.specs.Find.{Nowhere, Passes, is_byte3}
use Rattle.text_parts.proofs.PlaceLemmas.{from_zero, here_not}
use Rattle.kmod_names.specs.Names.{normal_alias, put_before}

first_not : (a b c : Bool) → (a || b || c) ≡ false → (a ≡ false) × (b ≡ false) × (c ≡ false)
first_not true b c h = absurd (cc)
first_not false true c h = absurd (cc)
first_not false false true h = absurd (cc)
first_not false false false h = (refl, refl, refl)

-- a key without `-`, `[` and `]`
pub normal-plain : (key : List ℕ) → Nowhere (Passes (is_byte3 45 91 93) key) 0 (length key) → normal_alias key ≡ Some key
normal-plain [] none = refl
normal-plain (b ∷ key) none =
    let not_here = first_not (b == 45) (b == 91) (b == 93) (here_not (is_byte3 45 91 93) b key (length key) none) in
    rw (not_here.0, not_here.1, not_here.2) (ap (put_before (b ∷ [])) (normal-plain key (from_zero (is_byte3 45 91 93) b key (length key) none)))
