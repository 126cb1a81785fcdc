use Rattle.std.proofs.Common.{◌∙◌, ap, ◌<◌, length, arith, subst, sym}
use Rattle.dep_index.specs.Table.{Table}
use Rattle.dep_index.specs.Laws.{IsShaped}
use Rattle.dep_index.specs.declared.table.calls.Call.TheVariants.{Put}
use Rattle.dep_index.proofs.RunLaws.{next_shaped}
use Rattle.held_lines.specs.Held.{given_back}
use Rattle.held_lines.proofs.GiveLemmas.{given_more}
use Rattle.held_lines.proofs.puts.give_back.Goals as goal

pub loop-table-preserved : goal.loop-table-preserved
loop-table-preserved g c =
    let before = c.loop-table.invariant in
    let catalogue = g.M.Modules.catalogue c.loop-table.table in
    let t = g.M.Modules.table c.loop-table.table in
    let slots = length (g.M.Modules.catalogue c.args.table.now) in
    let workers = length (g.M.Modules.table c.args.table.now).rows in
    let number = c.args.number in
    let slot = c.args.slot in
    let below : number < length t.rows = omega (arith, before.shape.rows, c.requires.number) in
    record {
      over = c.put.ensures.over ∙ before.over;
      named = c.put.ensures.named ∙ before.named;
      shape = subst (λ (u : Table). IsShaped slots workers u) (sym c.put.ensures.becomes) (next_shaped slots workers catalogue t (Put number slot) before.shape);
      same = ap (given_back number slot) c.put.ensures.becomes ∙ given_more catalogue number slot t below ∙ before.same;
    }
