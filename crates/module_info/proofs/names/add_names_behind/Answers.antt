use Rattle.std.proofs.Common.{append_assoc, length, arith}
use Rattle.std.proofs.lemmas.Grind.{common_steps}
use Rattle.std.proofs.lemmas.List.{take_rest}
use Rattle.module_info.proofs.MarkLemmas.{first_behind, none_behind}
use Rattle.module_info.proofs.names.add_names_behind.Goals as goal

pub loop-place-preserved : goal.loop-place-preserved
loop-place-preserved c =
    let marked = c.split_at.result.1.now in
    let mark = c.args.mark.now in
    let first = first_behind mark c.loop-place.rest.now c.in-Some.place c.requires c.in-Some.ensures.0 c.in-Some.ensures.1 in
    rw (c.in_ok-push.ensures.items, c.in_ok-leading_name.ensures, take_rest marked (length mark), take_rest marked 1, c.split_at.ensures.back, append_assoc, ← first) c.loop-place.invariant

pub returns : goal.returns
returns c =
    let none = none_behind c.args.mark.now c.loop-place.rest.now c.in_default.ensures in
    grind (arith, common_steps, none)
