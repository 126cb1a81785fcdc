use Rattle.std.proofs.Common.{◌∙◌, ◌<◌, List, ℕ, All, length, get_or, sym, subst, arith}
use Rattle.std.proofs.lemmas.Grind.{common_steps}
use Rattle.dep_index.specs.Catalogue.{needs_of}
use Rattle.seq_table.specs.Rows.{rows_of}
use Rattle.seq_table.proofs.Kept.{length-rows_of}
use Rattle.proc_modules.specs.UserRows.{EachOnce}
use Rattle.proc_modules.proofs.NeedLemmas.{needs_once, needs_within}
use Rattle.proc_modules.proofs.ListingLemmas.{users_step}
use Rattle.proc_modules.proofs.users.users_by_slot.Goals as goal

pub push_to_needs-requires-clause-within : goal.push_to_needs-requires-clause-within
push_to_needs-requires-clause-within c =
    subst (λ (needs : List ℕ). All (λ n. n < length c.loop-user.rows.items) needs) (sym c.needs.ensures)
    (subst (λ (len : ℕ). All (λ n. n < len) (needs_of c.args.catalogue.now (get_or c.args.modules.now c.loop-user.user-index 0))) (sym c.loop-user.invariant.len)
    (needs_within c.args.catalogue.now _))

pub push_to_needs-requires-clause-once : goal.push_to_needs-requires-clause-once
push_to_needs-requires-clause-once c = subst EachOnce (sym c.needs.ensures) (needs_once c.args.catalogue.now _)

pub loop-user-preserved : goal.loop-user-preserved
loop-user-preserved c =
    record {
      users = users_step c.args.catalogue.now (rows_of c.loop-user.rows.items) (rows_of c.push_to_needs.new.rows.items) c.args.modules.now c.needs.result.now c.loop-user.user-index 0
          c.loop-user-test.true c.requires (length-rows_of c.loop-user.rows.items ∙ c.loop-user.invariant.len) c.needs.ensures c.loop-user.invariant.users c.in_ok-push_to_needs.ensures.after;
      len = grind (arith, common_steps, c.in_ok-push_to_needs.ensures.len, c.loop-user.invariant.len);
    }
