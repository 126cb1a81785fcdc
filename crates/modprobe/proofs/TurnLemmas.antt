-- The turns that are spent, and the bytes that a source gives for them.
use Rattle.std.proofs.Common.{arith, ◌≡◌, ℕ, true, List, refl, Option, Some, None}
use Rattle.modprobe.specs.Lines.{PaysTurns, GaveAtLeast, IsPaid, StopsForTurns}
use Rattle.std.proofs.lemmas.Bool.{false≢true}
use Rattle.modprobe.specs.declared.lines.Lines.{Lines}
use Rattle.modprobe.specs.declared.fault.RunFault.{RunFault}
use Rattle.modprobe.specs.declared.fault.RunFault.TheVariants.{Read, Write, Memory, Turns, LongLine}
use Rattle.modprobe.specs.Run.{is_turns}

pub pays_none : (n : ℕ) (a : Option (List ℕ)) → PaysTurns n n a a
pays_none n None = tt
pays_none n (Some x) = omega arith

pub pays_trans : (l m n : ℕ) (a b c : Option (List ℕ)) → PaysTurns l m a b → PaysTurns m n b c → PaysTurns l n a c
pays_trans l m n None b c ab bc = tt
pays_trans l m n (Some x) None c ab bc = absurd ab
pays_trans l m n (Some x) (Some y) None ab bc = absurd bc
pays_trans l m n (Some x) (Some y) (Some z) ab bc = omega arith

pub paid_none : {R : Type 0} (remaining : R → Option (List ℕ)) (a : Lines R) → IsPaid remaining a a
paid_none remaining a going = (going, pays_none a.turns (remaining a.reader.now))

pub paid_trans : {R : Type 0} (remaining : R → Option (List ℕ)) (a b c : Lines R) → IsPaid remaining a b → IsPaid remaining b c → IsPaid remaining a c
paid_trans remaining a b c ab bc going =
    let later = bc going in
    let first = ab later.0 in
    (first.0, pays_trans a.turns b.turns c.turns (remaining a.reader.now) (remaining b.reader.now) (remaining c.reader.now) first.1 later.1)

-- The turns run out behind lines that are paid.
pub turns_in_all : {R : Type 0} (remaining : R → Option (List ℕ)) (a b c : Lines R) → IsPaid remaining a b → StopsForTurns remaining b c → GaveAtLeast a.turns (remaining a.reader.now) (remaining c.reader.now)
turns_in_all remaining a b c ab stops =
    pays_trans a.turns b.turns 0 (remaining a.reader.now) (remaining b.reader.now) (remaining c.reader.now) (ab stops.1).1 stops.2

pub turns_fault : (fault : RunFault) → is_turns fault ≡ true → fault ≡ Turns
turns_fault Read is = absurd (false≢true is)
turns_fault Write is = absurd (false≢true is)
turns_fault Memory is = absurd (false≢true is)
turns_fault Turns is = refl
turns_fault LongLine is = absurd (false≢true is)
