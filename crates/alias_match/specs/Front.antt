-- By which number a look-up passes over an alias: how each text begins that its pattern matches.
use Rattle.std.specs.Prelude.{◌≡◌, ◌≤◌, ℕ, List, take}
use Rattle.alias_match.specs.declared.front.Front.{Front}
use Rattle.alias_match.specs.Pattern.{Piece, Matches}
use Rattle.alias_match.specs.Marks.{mark}

-- the first bytes, as many as counted, of each text that the pattern matches are this number
pub record IsFrontOf (front : Front) (ps : List Piece) : Type 0 where
  pub few : front.count ≤ 8
  pub begins : (s : List ℕ) → Matches ps s → mark (take front.count s) ≡ front.number
