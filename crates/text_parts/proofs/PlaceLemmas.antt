-- Places of a list that pass no test: of its first element, and of the rest.
use Rattle.std.proofs.Common.{◌≡◌, ℕ, suc, List, ◌∷◌, Bool, false, arith}
use Rattle.std.proofs.lemmas.Bool.{false_from_ne_true}
use Rattle.memchr.specs.Find.{Nowhere, Passes}

pub from_zero : (test : ℕ → Bool) (b : ℕ) (s : List ℕ) (j : ℕ) → Nowhere (Passes test (b ∷ s)) 0 (suc j) → Nowhere (Passes test s) 0 j
from_zero test b s j none k low high is = none (suc k) (omega arith) (omega arith) is

pub here_not : (test : ℕ → Bool) (b : ℕ) (s : List ℕ) (j : ℕ) → Nowhere (Passes test (b ∷ s)) 0 (suc j) → test b ≡ false
here_not test b s j none = false_from_ne_true (test b) (λ is. none 0 (omega arith) (omega arith) is)
