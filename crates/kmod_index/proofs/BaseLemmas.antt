-- What stands after the last slash of a path.
use Rattle.std.proofs.Common.{◌≡◌, ◌==◌, ℕ, zero, suc, ◌+◌, ◌<◌, if◌then◌else◌, List, [], ◌∷◌, drop, length, refl, arith}
use Rattle.memchr.specs.Find.{Nowhere, Passes, is_byte}
use Rattle.text_parts.proofs.PlaceLemmas.{from_zero, here_not}
use Rattle.kmod_names.specs.Names.{base_from}

pub base_none : (base path : List ℕ) → Nowhere (Passes (is_byte 47) path) 0 (length path) → base_from base path ≡ base
base_none base [] none = refl
base_none base (b ∷ path) none =
    rw (here_not (is_byte 47) b path (length path) none) (base_none base path (from_zero (is_byte 47) b path (length path) none))

pub base_at : (base path : List ℕ) (k : ℕ) → k < length path → Nowhere (Passes (is_byte 47) path) (k + 1) (length path) → Passes (is_byte 47) path k → base_from base path ≡ drop (suc k) path
base_at base [] k below none is = absurd (omega arith)
base_at base (b ∷ path) zero below none is =
    rw is (base_none path path (λ j low high yes. none (suc j) (omega arith) (omega arith) yes))
base_at base (b ∷ path) (suc k) below none is =
    base_at (if b == 47 then path else base) path k (omega arith) (λ j low high yes. none (suc j) (omega arith) (omega arith) yes) is
