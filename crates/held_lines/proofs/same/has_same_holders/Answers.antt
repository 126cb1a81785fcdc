use Rattle.std.proofs.Common.{◌≡◌, rules, ◌<◌, true, [], length}
use Rattle.std.proofs.lemmas.List.{take_more_same}
use Rattle.held_lines.proofs.same.has_same_holders.Goals as goal

pub loop-number-preserved : goal.loop-number-preserved
loop-number-preserved c =
    let number = c.loop-number.number in
    let names = c.args.holders.now.held.names in
    let others = c.args.other.now.held.names in
    let rows = c.args.holders.now.held.table.rows in
    let other_rows = c.args.other.now.held.table.rows in
    let named : c.has_same_name.result ≡ true = search rules in
    let held : c.holds_same.result ≡ true = search rules in
    let in_rows : number < length rows = search rules in
    let in_others : number < length other_rows = search rules in
    let in_names : number < length names = search rules in
    let in_other_names : number < length others = search rules in (
      take_more_same others names number [] in_other_names in_names c.loop-number.invariant.0 (c.has_same_name.ensures.is named),
      take_more_same other_rows rows number [] in_others in_rows c.loop-number.invariant.1 (c.holds_same.ensures.is held),
    )
