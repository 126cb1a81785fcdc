use Rattle.std.proofs.Common.{rules, ◌≡◌, ◌<◌, true, length, arith, subst, sym}
use Rattle.load_plan.specs.Parts.{known_at, AreClosed}
use Rattle.load_plan.proofs.Reaching.{Closing-begin, Closing-read, Closing-slot}
use Rattle.load_plan.proofs.reach.closed_with.Goals as goal

pub modules-init : goal.modules-init
modules-init c = record {
  closing = Closing-begin c.new.ensures.items (subst (λ known. AreClosed c.args.graph.now c.args.settled.now known) (sym c.in_ok-from_slice.ensures.items) c.requires.closed) c.in_ok-add.ensures.adds;
  start = c.in_ok-add.ensures.here;
}

pub bounds-settled-slot : goal.bounds-settled-slot
bounds-settled-slot c =
    let inside : c.in-Some.slot < length c.args.graph.now = Closing-slot c.pop.new.self.items c.in-Some.slot (rw c.in-Some.ensures.items at c.modules.invariant.closing) in
    omega (arith, inside, c.requires.long)

pub modules-preserved : goal.modules-preserved
modules-preserved c =
    let own : known_at c.args.settled.now c.in-Some.slot ≡ true = search rules in
    record {
      closing = Closing-read c.pop.new.self.items c.in-Some.slot (rw c.in-Some.ensures.items at c.modules.invariant.closing) own c.in_ok-add_named.ensures.adds c.in_ok-add_named.ensures.all;
      start = c.in_ok-add_named.ensures.adds.grows c.args.start c.modules.invariant.start;
    }
