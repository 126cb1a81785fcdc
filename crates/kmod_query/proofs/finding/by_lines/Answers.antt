use Rattle.std.proofs.Common.{◌≤◌, ◌∙◌, arith, length}
use Rattle.kmod_query.specs.LookUp.{by_one_alias}
use Rattle.kmod_query.specs.World.{name_of}
use Rattle.kmod_query.proofs.TextLemmas.{map-both}
use Rattle.std.proofs.lemmas.Grind.{common_steps}
use Rattle.kmod_query.proofs.finding.by_lines.Goals as goal

pub returns : goal.returns
returns c =
    let over : length c.args.lines.now ≤ c.lines.line-index = omega arith in
    c.lines.invariant ∙ map-both name_of (by_one_alias c.args.alias.now c.args.builtin) c.lines.line-index c.args.lines.now over

pub lines-preserved : goal.lines-preserved
lines-preserved c = grind (arith, common_steps)
