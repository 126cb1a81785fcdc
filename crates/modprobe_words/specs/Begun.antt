-- What was written of a text, if writes may fail.
use Rattle.std.specs.Prelude.{ℕ, List, take, Option}
use Rattle.std.specs.Io.KnownBytes.{Appends}

-- a beginning of a text was written: all of it, or what writes took before one failed
pub record IsBegun (before after : Option (List ℕ)) (text : List ℕ) : Type 0 where
  pub count : ℕ
  pub written : Appends before after (take count text)
