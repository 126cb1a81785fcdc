use Rattle.std.proofs.Common.{◌≡◌, arith}
use Rattle.std.proofs.lemmas.Grind.{common_steps}
use Rattle.std.specs.List.{enumerate_from}
use Rattle.std.specs.Str.Lines.{lines}
use Rattle.alias_match.specs.Aliases.{alias_of}
use Rattle.alias_match.specs.Idle.{idle_aliases, why_no_alias}
use Rattle.alias_match.proofs.IdleLemmas.{idle_are_skipped}
use Rattle.alias_match.proofs.idle.idle_aliases.Goals as goal

pub returns-clause-skipped : goal.returns-clause-skipped
returns-clause-skipped c =
    let text = c.args.text.now in
    let whole : c.lines.idle.items ≡ idle_aliases text = grind (arith, common_steps) in
    rw whole (idle_are_skipped alias_of why_no_alias (enumerate_from 1 (lines text)))

pub lines-preserved : goal.lines-preserved
lines-preserved c = grind (arith, common_steps)
