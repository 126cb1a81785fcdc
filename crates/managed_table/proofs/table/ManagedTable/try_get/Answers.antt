use Rattle.std.proofs.Common.{rules, sym, ap, ◌∙◌, subst}
use Rattle.dep_index.specs.Refusals.{reply_of, get_refusal}
use Rattle.managed_table.specs.Callers.{IsInside, IsOutside}
use Rattle.managed_table.specs.Attempts.{Ended, GetGivenUp, GetDid, missed_or}
use Rattle.managed_table.proofs.Waiting.{got_waiting}
use Rattle.managed_table.proofs.table.ManagedTable.try_get.Goals as goal

pub returns-clause-call : goal.returns-clause-call
returns-clause-call g c =
    let table = c.args.self.now in
    let before = c.args.caller.now in
    let after = c.leaf_turn-turned.new.caller in
    let worker = c.args.worker in
    let slot = c.args.slot in
    let tries = c.args.tries in
    subst (λ o. Ended (IsOutside table worker slot) (IsInside table worker slot) ⊥ (GetGivenUp worker slot tries before after) (λ r. GetDid worker slot tries before after (reply_of get_refusal r)) before o after)
    (sym (c.missed_or_answered.ensures ∙ ap missed_or c.attempted.ensures))
    (got_waiting table before after c.requires.own worker slot tries _ (λ x y h. search rules) (λ r. reply_of get_refusal r) (λ r x y h. search rules) c.leaf_turn-turned.ensures.book
    c.leaf_turn-turned.result c.leaf_turn-turned.ensures.range c.leaf_turn-turned.ensures.turn)
