-- Calls that have not begun know what they need.
use Rattle.std.proofs.Common.{◌≡◌, ◌<◌, ℕ, List, [], length, get_or, sym, subst, arith}
use Rattle.hold_turns.specs.declared.call.Call.{Call}
use Rattle.hold_turns.specs.declared.call.State.{State}
use Rattle.hold_turns.specs.Views.{TableView, HandsView}
use Rattle.hold_turns.specs.Rule.{AllKnow, KnowsIn}
use Rattle.theorems.specs.Kernel.{HaveNotBegun}

within_none : (k : ℕ) → k < 0 → ⊥
within_none k lt = omega (arith, lt)

pub all_know : (calls : List Call) (table : TableView) (hands : HandsView) → HaveNotBegun calls hands → AllKnow calls table hands
all_know calls table hands new i none within =
    let it = new i none within in
    subst (λ (s : State). KnowsIn s i (get_or calls i none) table hands) (sym it.state)
    (record { locks = λ k d lt. absurd (within_none k (subst (λ (slots : List ℕ). k < length slots) it.locks lt)); idle = it.idle })
