use Rattle.proc_modules.proofs.ListingLemmas.{newest_step}
use Rattle.std.proofs.Common.{arith}
use Rattle.std.proofs.lemmas.Grind.{common_steps}
use Rattle.std.proofs.lemmas.List.Elements.{All-push}
use Rattle.proc_modules.proofs.users.newest_first.Goals as goal

pub loop-age-preserved : goal.loop-age-preserved
loop-age-preserved g c =
    record {
      order = newest_step (g.M.Modules.table c.args.table.now).book.order c.loop-age.found.items c.push.new.self.items c.loop-age.age c.loaded-loaded.result c.loaded_at-slot.result
          c.loaded-loaded.ensures.all c.loop-age-test.true c.loop-age.invariant.order c.loaded_at-slot.ensures.element c.in_ok-push.ensures.items;
      slots = grind (arith, common_steps, All-push);
      len = grind (arith, common_steps);
    }

pub returns-clause-few : goal.returns-clause-few
returns-clause-few g c = omega (arith, c.loop-age.invariant.len, c.loop-age.auto.age-end, c.loaded-loaded.ensures.limit)
