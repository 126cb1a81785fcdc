use Rattle.std.proofs.Common.{◌≤◌, ◌∙◌, arith, length, rules}
use Rattle.kmod_query.specs.Loading.{line_unless_passed}
use Rattle.kmod_query.specs.Objects.{object_of}
use Rattle.kmod_query.specs.World.{facts_of}
use Rattle.kmod_query.proofs.TextLemmas.{flat_map-all}
use Rattle.std.proofs.lemmas.Grind.{common_steps}
use Rattle.kmod_query.proofs.loading.lines_of.Goals as goal

pub returns-clause-lines : goal.returns-clause-lines
returns-clause-lines c =
    let over : length c.args.list.now ≤ c.objects.object-index = omega arith in
    c.objects.invariant.lines ∙ flat_map-all object_of (line_unless_passed (facts_of c.args.asked.now.world) c.args.asked.now.query c.args.parameters.now (object_of c.args.top.now)) c.objects.object-index c.args.list.now over

pub objects-preserved : goal.objects-preserved
objects-preserved c = record { soft = search rules; lines = grind (arith, common_steps) }
