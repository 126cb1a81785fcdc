use Rattle.std.proofs.Common.{◌∙◌, ◌+◌, ◌++◌, List, ℕ, take, ap, arith}
use Rattle.std.specs.List.{enumerate_from, filter_map}
use Rattle.std.specs.Str.Lines.{lines}
use Rattle.std.proofs.lemmas.Grind.{common_steps}
use Rattle.kmod_index.specs.Aliases.{alias_of_line}
use Rattle.kmod_index.specs.Tries.{matching_lines}
use Rattle.kmod_index.proofs.PassLemmas.{first_and_later}
use Rattle.kmod_index.proofs.alias_scan.matching_aliases.Goals as goal

pub lines-preserved : goal.lines-preserved
lines-preserved c =
    let name = c.args.name.now in
    let later = λ (ls : List (List ℕ)). matching_lines (filter_map alias_of_line (enumerate_from (c.lines.number + 1) ls)) name in
    record {
      said =
          ap (λ found. found ++ later (lines c.after_line-rest.result.now)) c.in_ok-add_first_line.ensures
          ∙ ap (λ ls. (c.lines.found.items ++ matching_lines (filter_map alias_of_line (enumerate_from c.lines.number (take 1 (lines c.lines.rest.now)))) name) ++ later ls) c.after_line-rest.ensures.lines
          ∙ first_and_later c.lines.found.items c.lines.number name (lines c.lines.rest.now)
          ∙ c.lines.invariant.said;
      few = grind (arith, common_steps);
    }
