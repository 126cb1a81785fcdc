use Rattle.std.proofs.Common.{◌≡◌, [], length, get_or, ap, sym, subst, ◌∙◌, arith, ℕ}
use Rattle.std.proofs.Math.ListN.{set, replicate}
use Rattle.std.proofs.lemmas.List.{length-set}
use Rattle.std.proofs.lemmas.List.Sums.{sum_by-set}
use Rattle.held_table.proofs.RowLemmas.{clear_one, idle_is}
use Rattle.held_table.proofs.rows.Rows.clear.Goals as goal

pub loop-slot-preserved : goal.loop-slot-preserved
loop-slot-preserved c =
    let inv = c.loop-slot.invariant in
    let number = c.args.number in
    let one = clear_one c.args.self.now.rows c.loop-slot.self.rows c.set_count.new.self.rows number c.in-Some.slot c.requires.number inv.rows c.set_count.ensures.rows in
    record {
      rows = one.1;
      row = ap length one.0 ∙ length-set (get_or c.loop-slot.self.rows number []) c.in-Some.slot 0 ∙ inv.row ∙ sym c.set_count.ensures.slots;
      slots = c.set_count.ensures.slots ∙ inv.slots;
    }

pub returns-clause-rows : goal.returns-clause-rows
returns-clause-rows c =
    let inv = c.loop-slot.invariant in
    inv.rows ∙ ap (set c.args.self.now.rows c.args.number)
    (idle_is (get_or c.loop-slot.self.rows c.args.number []) c.in_default.ensures.none ∙ ap (λ n. replicate n 0) (inv.row ∙ inv.slots))
