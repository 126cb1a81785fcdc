use Rattle.std.proofs.Common.{arith, ◌<◌, length}
use Rattle.std.proofs.lemmas.Grind.{common_steps}
use Rattle.modprobe.proofs.WholeLemmas.{first_ended, last_line}
use Rattle.modprobe.proofs.whole.first_line.Goals as goal

pub returns-in-Some : goal.returns-in-Some
returns-in-Some c = first_ended c.args.text.now c.in-Some.part.now c.in-Some.rest.now c.ended.result c.in-Some.ensures c.ended.ensures.line c.ended.ensures.rest

pub returns-in-None : goal.returns-in-None
returns-in-None c =
    let some : 0 < length c.args.text.now = grind (arith, common_steps) in
    record { lines = last_line c.args.text.now c.in-None.ensures some; shorter = some }
