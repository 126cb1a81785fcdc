use Rattle.std.proofs.Common.{◌≡◌, ◌⊎◌, ◌++◌, take}
use Rattle.tenures.specs.Steps.{outcomes_of}
use Rattle.tenures.proofs.making.begin_replies.Given as goal

abbrev pub invariant-loop-reply : goal.invariant-loop-reply
invariant-loop-reply g l =
    record {
      past : g.W.World.past l.world ≡ g.W.World.past l.fn.world;
      file : g.W.World.found l.world ≡ g.W.World.found l.fn.world;
      alive : g.W.World.cut_offs l.world ≡ g.W.World.cut_offs l.fn.world;
      grows : g.W.World.replies l.world ≡ g.W.World.replies l.fn.world ++ outcomes_of (take l.reply-index l.replies);
      moment : ((l.reply-index ≡ 0) × (g.W.World.since l.world ≡ g.W.World.since l.fn.world)) ⊎ (g.W.World.since l.world ≡ (g.D.Device.history l.device).now);
    }
