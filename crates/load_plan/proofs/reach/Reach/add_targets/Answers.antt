use Rattle.std.proofs.Common.{◌≡◌, ◌+◌, ◌-◌, arith, drop, length, sym, ◌∙◌, ap}
use Rattle.std.specs.List.{list_all}
use Rattle.std.proofs.lemmas.List.{at_drop_all}
use Rattle.load_plan.specs.Graph.{is_within}
use Rattle.load_plan.specs.Parts.{is_target_in, known_at}
use Rattle.load_plan.proofs.Lists.{passes_contained}
use Rattle.load_plan.proofs.Reaching.{adds-none, adds-both, targets-from}
use Rattle.load_plan.proofs.reach.Reach.add_targets.Goals as goal

pub last-init : goal.last-init
last-init c = record {
  adds = adds-none c.args.self.now.known.items c.args.self.now.left.items;
  within = omega arith;
  all = at_drop_all (list_all (is_target_in (known_at c.args.self.now.known.items))) c.args.targets.now (length c.args.targets.now) (omega arith);
}

pub add_target-requires : goal.add_target-requires
add_target-requires c = rw c.last.invariant.adds.long (passes_contained (is_within (length c.args.self.now.known.items)) c.args.targets.now c.index-targets-place.result c.requires (c.last.place - 1) (omega (arith, c.last.invariant.within, c.last-test.true)) (sym c.index-targets-place.is))

pub last-preserved : goal.last-preserved
last-preserved c =
    let next : (c.last.place - 1) + 1 ≡ c.last.place = omega (arith, c.last-test.true) in
    record {
      adds = adds-both c.last.invariant.adds c.in_ok-add_target.ensures.adds;
      within = omega (arith, c.last.invariant.within);
      all = targets-from c.last.self.known.items c.add_target.new.self.known.items c.args.targets.now (c.last.place - 1) c.index-targets-place.result (omega (arith, c.last.invariant.within, c.last-test.true)) c.index-targets-place.is c.in_ok-add_target.ensures.adds.grows c.in_ok-add_target.ensures.here
          (ap (λ n. list_all (is_target_in (known_at c.last.self.known.items)) (drop n c.args.targets.now)) next ∙ c.last.invariant.all);
    }

pub returns-clause-all : goal.returns-clause-all
returns-clause-all c =
    let none : 0 ≡ c.last.place = omega (arith, c.last-test.false) in
    ap (λ n. list_all (is_target_in (known_at c.last.self.known.items)) (drop n c.args.targets.now)) none ∙ c.last.invariant.all
