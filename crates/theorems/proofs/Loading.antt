-- The branch of a call by a leaf that holds the slot.
use Rattle.std.proofs.Common.{◌≡◌, Bool, true, false}
use Rattle.std.specs.Prelude.{MatchBool}

pub otherwise : (b : Bool) (A B : Type 0) → b ≡ false → MatchBool b A B → B
otherwise true A B is h = absurd (cc)
otherwise false A B is h = h
