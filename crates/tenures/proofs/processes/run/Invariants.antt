use Rattle.std.proofs.Common.{◌≡◌, List, [], ◌++◌, map, take}
use Rattle.tenures.specs.Tenures.{Tenure, asked_of}
use Rattle.tenures.specs.Endings.{HaveEnded}
use Rattle.tenures.specs.Steps.{groups_of}
use Rattle.tenures.specs.Kept.{IsKept}
use Rattle.tenures.proofs.processes.run.Given as goal

abbrev pub invariant-loop-steps : goal.invariant-loop-steps
invariant-loop-steps g l =
    record {
      asked : asked_of (g.W.World.past l.world) ≡ asked_of (g.W.World.past l.fn.world) ++ map (λ steps. groups_of steps.items) (take l.steps-index l.processes);
      ended : (tenures : List Tenure) × (g.W.World.past l.world ≡ g.W.World.past l.fn.world ++ tenures)
          × HaveEnded l.repair (g.W.World.cut_offs l.fn.world) (g.W.World.cut_offs l.world) (g.D.Device.faults l.fn.device) (g.D.Device.faults l.device) tenures;
      kept : IsKept l.setup (g.W.World.past l.world) (g.D.Device.history l.device);
      none : g.W.World.replies l.world ≡ [];
      since : g.W.World.since l.world ≡ (g.D.Device.history l.device).now;
      file : g.W.World.found l.world ≡ g.D.Device.content l.device;
    }
