use Rattle.std.proofs.Common.{◌≡◌, ◌≤◌, [], ◌∷◌, ◌++◌, drop}
use Rattle.durable_table.specs.Durable.{Stands}
use Rattle.tenures.specs.Steps.{groups_of}
use Rattle.tenures.specs.Kept.{IsKeptSince}
use Rattle.tenures.proofs.KeptLemmas.{GoesOn, Ending, tenure_of}
use Rattle.tenures.proofs.process.answer.Given as goal

abbrev pub invariant-loop-step : goal.invariant-loop-step
invariant-loop-step g l =
    let s = l.fn.table.session.setup.now in
    let before = g.W.World.past l.fn.world in
    let begun = g.W.World.replies l.world in
    let h = l.table.session.holders.held in
    record {
      setup : l.table.session.setup ≡ l.fn.table.session.setup;
      past : g.W.World.past l.world ≡ before;
      file : g.W.World.found l.world ≡ g.W.World.found l.fn.world;
      goes : GoesOn s before (groups_of l.steps) (groups_of (drop l.step-index l.steps)) begun h;
      stands : Stands g.D.Device.content g.D.Device.history s h l.table.journal;
      since : g.W.World.since l.world ≤ (g.D.Device.history l.table.journal.lines.device).now;
      cut_off : g.W.World.cut_offs l.world ≡ g.W.World.cut_offs l.fn.world;
      failed : g.D.Device.faults l.fn.table.journal.lines.device ≤ g.D.Device.faults l.table.journal.lines.device;
      kept : (ended : Ending) → IsKeptSince s (before ++ tenure_of (g.W.World.found l.fn.world) (groups_of l.steps) begun ended ∷ []) (g.D.Device.history l.table.journal.lines.device) (g.W.World.since l.world);
    }
