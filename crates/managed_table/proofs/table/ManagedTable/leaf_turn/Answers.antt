use Rattle.std.proofs.Common.{◌≡◌, [], sym, ap, ◌∙◌, subst, arith}
use Rattle.std.specs.Fn.{FnOnceReturnsAtMut}
use Rattle.root_row.specs.World.{slots}
use Rattle.atomic_table.specs.declared.shared.Seat.{Seat}
use Rattle.use_indicator.specs.declared.leaf.Leaf.{Leaf}
use Rattle.managed_table.specs.declared.view.Passes.{Passes}
use Rattle.managed_table.specs.Kept.{shown, leaf_fits}
use Rattle.managed_table.specs.Turns.{pass_of, HasTaken, MadeTurn}
use Rattle.managed_table.specs.Passes.{MayActOn}
use Rattle.managed_table.specs.Callers.{ManagedIs, CallerIs}
use Rattle.managed_table.proofs.Missing.{took_later}
use Rattle.managed_table.proofs.Turning.{goes_back, made}
use Rattle.managed_table.proofs.table.ManagedTable.leaf_turn.Goals.{then-not-try_take, else-not-try_take}
use Rattle.managed_table.proofs.table.ManagedTable.leaf_turn.Goals as goal

pub put_back-requires-clause-holds : goal.put_back-requires-clause-holds
put_back-requires-clause-holds g c =
    let before = c.caller.inside.leaves.me in
    let took : HasTaken leaf_fits shown c.args.worker [] (pass_of before.0) c.if-not-try_take.seat.me = elim c.if-not-try_take.branch [
      | then-not-try_take w ↦ subst (λ (s : Seat Leaf Passes). HasTaken leaf_fits shown c.args.worker [] (pass_of before.0) s.me) (sym w.seat-is) (took_later _ _ c.args.worker 1 before _ _ w.if-not-try_take.ensures.told w.wait_for.ensures.taken)
      | else-not-try_take w ↦ subst (λ (s : Seat Leaf Passes). HasTaken leaf_fits shown c.args.worker [] (pass_of before.0) s.me) (sym w.seat-is) w.if-not-try_take.ensures.told
    ] in
    let row : (pass_of before.0).row.value ≡ c.args.self.now.row = ap (λ (k : CallerIs). k.leaves.pass.row.value) c.caller.view_is ∙ c.requires.own.1 in
    let outside = c.if-slot-slots.false in
    let count = c.slots.ensures in
    let same : slots c.self.inside.row.world ≡ slots c.args.self.now.row.world = ap (λ (t : ManagedIs). slots t.row.world) c.self.view_is in
    let may : MayActOn g.F.FnOnce leaf_fits shown c.args.self.now.row c.args.worker c.args.act = c.requires.may (omega arith) in
    goes_back _ _ _ _ _ _ _ _ took row may _ c.lend-answer.new.seat.me c.lend-answer.ensures.did c.lend-answer.ensures.view

pub returns-clause-turn : goal.returns-clause-turn
returns-clause-turn g c =
    let before = c.caller.inside.leaves.me in
    let took : HasTaken leaf_fits shown c.args.worker [] (pass_of before.0) c.if-not-try_take.seat.me = elim c.if-not-try_take.branch [
      | then-not-try_take w ↦ subst (λ (s : Seat Leaf Passes). HasTaken leaf_fits shown c.args.worker [] (pass_of before.0) s.me) (sym w.seat-is) (took_later _ _ c.args.worker 1 before _ _ w.if-not-try_take.ensures.told w.wait_for.ensures.taken)
      | else-not-try_take w ↦ subst (λ (s : Seat Leaf Passes). HasTaken leaf_fits shown c.args.worker [] (pass_of before.0) s.me) (sym w.seat-is) w.if-not-try_take.ensures.told
    ] in
    let row : (pass_of before.0).row.value ≡ c.args.self.now.row = ap (λ (k : CallerIs). k.leaves.pass.row.value) c.caller.view_is ∙ c.requires.own.1 in
    let outside = c.if-slot-slots.false in
    let count = c.slots.ensures in
    let same : slots c.self.inside.row.world ≡ slots c.args.self.now.row.world = ap (λ (t : ManagedIs). slots t.row.world) c.self.view_is in
    let may : MayActOn g.F.FnOnce leaf_fits shown c.args.self.now.row c.args.worker c.args.act = c.requires.may (omega arith) in
    let after = c.put_back.new.seat.me.0 in
    subst (λ (k : CallerIs). MadeTurn leaf_fits shown c.args.worker (λ x y. FnOnceReturnsAtMut g.F.FnOnce c.args.act x c.lend-answer.result y) k.leaves.pass (pass_of after)) c.caller.view_is
    (made _ _ _ _ _ _ _ _ took row may _ c.lend-answer.new.seat.me c.lend-answer.ensures.did c.lend-answer.ensures.view after c.put_back.ensures.turn)
