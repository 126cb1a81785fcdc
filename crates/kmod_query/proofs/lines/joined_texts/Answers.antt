use Rattle.std.proofs.Common.{◌≤◌, ◌∙◌, [], arith, length}
use Rattle.std.specs.Borrow.{Bor}
use Rattle.kmod_conf.specs.declared.line.TextLine.{TextLine}
use Rattle.kmod_query.specs.Lines.{joined}
use Rattle.kmod_query.specs.World.{text_of}
use Rattle.kmod_query.proofs.TextLemmas.{fold-all}
use Rattle.std.proofs.lemmas.Grind.{common_steps}
use Rattle.kmod_query.proofs.lines.joined_texts.Goals as goal

pub returns : goal.returns
returns c =
    let over : length c.args.lines.now ≤ c.lines.line-index = omega arith in
    c.lines.invariant ∙ fold-all (λ (line : Bor TextLine). line.now) text_of joined [] c.lines.line-index c.args.lines.now over

pub lines-preserved : goal.lines-preserved
lines-preserved c = grind (arith, common_steps)
