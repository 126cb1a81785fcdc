-- What a handle owns may go to another thread, as a box of its value may.
use mir.Raw.{raw}
use mathlib.Core.Bool.{Bool, true, false}
use base.Shift.{Keyless}
use denote.RattleType.{RattleType}
use denote.Memory.{lone}
use denote.RawPtr.{Ptr}
use denote.Param.Send.{IsSend}
use Rattle.std.specs.Global.{Global}
use Rattle.std.proofs.Crossing as heap
use Rattle.std_alloc.proofs.SendSync.{lies}
use Rattle.gourzhiel.specs.Held.{held_owns}

pub owned : (R : RattleType) → IsSend R → (full : Bool) (a : Global) (p : Ptr) (x : R.Denot) → Keyless (held_owns R full a p x)
owned R held true a p x = (lies R held p x, heap.frees.frees a (raw (lone R.mir)) p)
owned R held false a p x = tt
