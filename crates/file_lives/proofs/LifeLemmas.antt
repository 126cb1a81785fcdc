-- What a call did that may have failed.
use Rattle.std.proofs.Common.{◌≡◌, ◌≢◌, Result, Ok, Err, OnOk, OnErr}

-- if no fault is left, it did what it does when it works
pub did_unless_fault : {T E F : Type 0} {fault none : F} {Does : Type 0} (result : Result T E) → OnOk result Does → OnErr result (fault ≢ none) → fault ≡ none → Does
did_unless_fault (Ok done) does fails no_fault = does
did_unless_fault (Err error) does fails no_fault = absurd (fails no_fault)
