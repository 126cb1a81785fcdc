use Rattle.std.proofs.Common.{◌≡◌}
use Rattle.dep_index.specs.Catalogue.{modules_of}
use Rattle.text_tests.proofs.listings.table_after.Given as goal

abbrev pub invariant-loop-call : goal.invariant-loop-call
invariant-loop-call l = l.table.catalogue ≡ modules_of l.catalogue
