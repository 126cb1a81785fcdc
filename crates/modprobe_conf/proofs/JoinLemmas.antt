-- How joined lines go on.
use Rattle.std.proofs.Common.{◌≡◌, ℕ, List, [], Bool, true, false}
use Rattle.modprobe_conf.specs.Configuration.{onto_next, joined_lines}

-- what is left to join: a line that is begun goes on
abbrev pub joined_from : Bool → ℕ → List ℕ → List (ℕ × List ℕ) → List (ℕ × List ℕ)
joined_from true number front later = onto_next number front later
joined_from false number front later = later

-- what is left, with the line that is begun, is all that there was; one that is not begun is empty
pub record Joins (is_begun : Bool) (first : ℕ) (line : List ℕ) (number : ℕ) (rest : List (List ℕ)) (all : List (ℕ × List ℕ)) : Type 0 where
  pub joined : joined_from is_begun first line (joined_lines number rest) ≡ all
  pub number_of : is_begun ≡ false → first ≡ number
  pub line_of : is_begun ≡ false → line ≡ []
