use Rattle.std.proofs.Common.{◌≡◌, ◌+◌, length, take, ◌∙◌, None}
use Rattle.held_lines.specs.Holds.{gets}
use Rattle.held_lines.proofs.GetLemmas.{gets_shaped}
use Rattle.held_lines.proofs.UndoLemmas.{take_step, take_stop}
use Rattle.held_lines.proofs.gets.take_each.Goals as goal

pub loop-i-preserved : goal.loop-i-preserved
loop-i-preserved g c =
    let s = c.args.setup.now in
    let number = c.args.number in
    let slots = c.args.slots.now in
    let start = g.M.Modules.table c.args.table.now in
    let now = g.M.Modules.table c.take.new.table in
    let before = c.loop-i.invariant in
    let done : gets s number (take (c.loop-i.i + 1) slots) start ≡ (None, now) =
    take_step s number slots c.loop-i.i _ start (g.M.Modules.table c.loop-i.table) now c.loop-i-test.true before.done c.in_default.ensures.ok in
    record {
      over = c.take.ensures.over ∙ before.over;
      named = c.take.ensures.named ∙ before.named;
      workers = (gets_shaped (length (g.M.Modules.catalogue c.args.table.now)) (length start.rows) s number (take (c.loop-i.i + 1) slots) start now c.laws.ensures.shaped done).rows;
      done = done;
    }

pub returns-in-Err-clause-refused : goal.returns-in-Err-clause-refused
returns-in-Err-clause-refused g c =
    take_stop c.args.setup.now c.args.number c.args.slots.now c.loop-i.i _ (g.M.Modules.table c.args.table.now) (g.M.Modules.table c.loop-i.table) c.in-Err.error c.loop-i-test.true
    c.loop-i.invariant.done c.in-Err.ensures.refused
