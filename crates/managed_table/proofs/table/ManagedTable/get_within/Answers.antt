use Rattle.std.proofs.Common.{rules, sym, subst}
use Rattle.dep_index.specs.Refusals.{reply_of, get_refusal}
use Rattle.managed_table.specs.Attempts.{LeafEnded, GetGivenUp, GetDid}
use Rattle.managed_table.proofs.Trying.{got}
use Rattle.managed_table.proofs.table.ManagedTable.get_within.Goals as goal

pub returns-clause-call : goal.returns-clause-call
returns-clause-call c =
    let before = c.args.caller.now in
    let after = c.try_leaf_turn-ended.new.caller in
    let worker = c.args.worker in
    let slot = c.args.slot in
    let tries = c.args.tries in
    subst (λ o. LeafEnded worker slot tries (GetGivenUp worker slot tries before after) (λ r. GetDid worker slot tries before after (reply_of get_refusal r)) before o after) (sym c.missed_or_answered.ensures)
    (got c.args.self.now before after c.requires.own worker slot tries _ (λ x y h. search rules) (λ r. reply_of get_refusal r) (λ r x y h. search rules) c.try_leaf_turn-ended.result c.try_leaf_turn-ended.ensures.turn)
