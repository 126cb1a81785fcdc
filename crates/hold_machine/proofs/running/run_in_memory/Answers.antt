use Rattle.std.proofs.Common.{List, sym, subst}
use Rattle.hold_turns.specs.declared.call.Call.{Call}
use Rattle.hold_turns.specs.Course.{AreMade}
use Rattle.hold_machine.specs.Runs.{AreBegun}
use Rattle.hold_machine.specs.Hands.{view_of as hands_view}
use Rattle.hold_machine.specs.Table.{view_of as table_view}
use Rattle.hold_machine.proofs.RunLemmas.{one_at_first, all_know_at_first, made_length, written_back}
use Rattle.hold_machine.proofs.running.run_in_memory.Goals as goal

pub holds_keep_modules-requires-clause-one : goal.holds_keep_modules-requires-clause-one
holds_keep_modules-requires-clause-one c = one_at_first (table_view c.in_ok-table.table) (hands_view c.in_ok-hands.hands) c.in_ok-table.ensures c.in_ok-hands.ensures

pub holds_keep_modules-requires-clause-know : goal.holds_keep_modules-requires-clause-know
holds_keep_modules-requires-clause-know c =
    all_know_at_first c.args.asked.now c.deref_mut.result.now (table_view c.in_ok-table.table) (hands_view c.in_ok-hands.hands) c.in_ok-hands.ensures
    (subst (λ (calls : List Call). AreBegun c.args.asked.now calls) (sym c.deref_mut.ensures.value) c.in_ok-calls.ensures)

pub returns-clause-made : goal.returns-clause-made
returns-clause-made c =
    let begun = c.in_ok-calls.calls.items in
    let ends = c.holds_keep_modules.new.calls in
    let made = subst (λ (old : List Call). AreMade old c.args.choices.now ends) c.deref_mut.ensures.value c.holds_keep_modules.ensures.made in (
      begun,
      c.in_ok-calls.ensures,
      subst (λ (calls : List Call). AreMade begun c.args.choices.now calls)
          (sym (written_back begun ends c.in_ok-calls.calls.len c.in_ok-calls.calls.ok.0 (made_length begun ends c.args.choices.now made))) made,
    )
