use Rattle.std.proofs.Common.{◌≤◌, ◌∙◌, ◌++◌, ap, arith, length, Vec, ℕ}
use Rattle.std.specs.Global.{Global}
use Rattle.kmod_query.specs.Removal.{unused_line}
use Rattle.kmod_query.specs.World.{facts_of}
use Rattle.kmod_query.proofs.TextLemmas.{flat_map-all}
use Rattle.std.proofs.lemmas.Grind.{common_steps}
use Rattle.kmod_query.proofs.removal_lines.push_all_unused.Goals as goal

pub returns : goal.returns
returns c =
    let over : length c.args.names.now ≤ c.names.name-index = omega arith in
    c.names.invariant ∙ ap (λ l. c.args.lines.now.items ++ l) (flat_map-all (λ (name : Vec ℕ Global). name.items) (unused_line (facts_of c.args.world.now)) c.names.name-index c.args.names.now over)

pub names-preserved : goal.names-preserved
names-preserved c = grind (arith, common_steps)
