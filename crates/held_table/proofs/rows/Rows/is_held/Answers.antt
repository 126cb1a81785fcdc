use Rattle.std.proofs.Common.{ap, sym, ◌∙◌, ltb}
use Rattle.held_table.proofs.RowLemmas.{held_total}
use Rattle.held_table.proofs.rows.Rows.is_held.Goals as goal

pub returns : goal.returns
returns c = ap (ltb 0) c.total.ensures.sum ∙ sym (held_total c.args.self.now.rows c.args.slot)
