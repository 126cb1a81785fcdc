use Rattle.std.proofs.Common.{◌≡◌, ◌≤◌, ◌+◌, length}
use Rattle.table_adopt.specs.Kernel.{modules_from, modules_of_text}
use Rattle.table_adopt.proofs.KernelLemmas.{after}
use Rattle.table_adopt.proofs.kernel.read_modules.Given as goal

-- the modules of the lines that are left follow those that were found
abbrev pub invariant-loop-line : goal.invariant-loop-line
invariant-loop-line l = record {
  same : after l.found.items (modules_from l.number l.lines) ≡ modules_of_text l.fn.text;
  few : l.number + length l.lines ≤ length l.fn.text + 1;
}

abbrev pub decreases-loop-line : goal.decreases-loop-line
decreases-loop-line l = length l.lines
