use Rattle.std.proofs.Common.{arith, ◌≡◌, ◌∙◌, [], sym, ap}
use Rattle.std.proofs.lemmas.Grind.{common_steps}
use Rattle.modprobe.specs.AliasText.{targets_in_lines, with_free}
use Rattle.modprobe.proofs.AliasTextLemmas.{free_whole}
use Rattle.modprobe.proofs.alias_text.free_in_text.Goals as goal

pub returns : goal.returns
returns c =
    let none : c.lines.lines ≡ [] = grind (arith, common_steps) in
    ap (λ ls. with_free c.args.configuration.now c.lines.found.items (targets_in_lines ls c.args.name.now)) (sym none)
    ∙ c.lines.invariant
    ∙ free_whole c.args.configuration.now c.args.text.now c.args.name.now
