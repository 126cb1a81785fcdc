use Rattle.std.proofs.Common.{◌≡◌, ℕ, ◌<◌, ◌≤◌, length, get_or}
use Rattle.hold_turns.specs.declared.call.Call.{Call}
use Rattle.hold_machine.specs.declared.asked.Asked.{Asked}
use Rattle.hold_machine.specs.Runs.{IsBegun}
use Rattle.hold_machine.proofs.asked.begin_all.Given as goal

abbrev pub invariant-loop-one : goal.invariant-loop-one
invariant-loop-one l = record {
  len : length l.calls.items ≡ l.one-index;
  within : l.one-index ≤ length l.asked;
  each : (k : ℕ) (none : Asked) (other : Call) → k < l.one-index → IsBegun (get_or l.asked k none) (get_or l.calls.items k other);
}
