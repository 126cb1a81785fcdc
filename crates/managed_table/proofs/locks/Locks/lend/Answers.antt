use Rattle.std.proofs.Common.{rules, ◌≡◌, [], ◌∷◌, ◌∙◌, ap}
use Rattle.atomic_table.specs.Table.{rest}
use Rattle.managed_table.proofs.locks.Locks.lend.Goals as goal

pub returns-clause-did : goal.returns-clause-did
returns-clause-did g c =
    let none_left : rest c.args.seat.now.me.1 ≡ [] = ap rest c.requires.hand.1 in record {
      taken = c.slot_mut.result.now;
      left = c.act.new.arg2;
      was = c.slot_mut.ensures.value ∙ ap (λ l. (c.args.lock, c.slot_mut.result.now) ∷ l) none_left;
      is = ap (λ l. (c.args.lock, c.act.new.arg2) ∷ l) none_left;
      did = search rules;
    }
