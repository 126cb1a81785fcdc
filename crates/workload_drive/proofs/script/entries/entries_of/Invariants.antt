use Rattle.std.proofs.Common.{◌≡◌, drop, []}
use Rattle.workload_drive.specs.Script.{has_works, entries_of}
use Rattle.workload_drive.specs.ForProofs.{statements_in}
use Rattle.workload_drive.proofs.script.entries.entries_of.Given as goal

-- the statements that are left go on from the lines so far
abbrev pub invariant-loop-said : goal.invariant-loop-said
invariant-loop-said l = record {
  works : l.after_works ≡ has_works l.entries.items;
  same : entries_of l.catalogue l.workers l.entries.items (statements_in (drop l.said-index l.statements)) ≡ entries_of l.catalogue l.workers [] (statements_in l.statements);
}
