use Rattle.std.proofs.Common.{◌∙◌, sym, arith}
use Rattle.std.specs.List.{enumerate_from}
use Rattle.std.specs.Str.Lines.{lines}
use Rattle.std.proofs.lemmas.Grind.{common_steps}
use Rattle.kmod_index.proofs.ColonLemmas.{no_line}
use Rattle.kmod_index.proofs.ScanLemmas.{line_found}
use Rattle.kmod_index.proofs.dep_scan.find_line.Goals as goal

pub returns-then-contains : goal.returns-then-contains
returns-then-contains c = sym (no_line c.args.name.now (sym c.contains.ensures.value ∙ c.if-contains.true) (enumerate_from 1 (lines c.args.text.now)))

pub lines-preserved : goal.lines-preserved
lines-preserved c = record {
  said = grind (arith, common_steps, line_found);
  few = grind (arith, common_steps);
}
