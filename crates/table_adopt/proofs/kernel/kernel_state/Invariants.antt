use Rattle.std.proofs.Common.{◌≡◌, drop}
use Rattle.table_adopt.specs.Kernel.{kernel_state}
use Rattle.table_adopt.proofs.kernel.kernel_state.Given as goal

abbrev pub invariant-loop-entry : goal.invariant-loop-entry
invariant-loop-entry l = kernel_state (drop l.entry-index l.kernel) l.name ≡ kernel_state l.kernel l.name
