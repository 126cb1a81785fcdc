use Rattle.std.proofs.Common.{◌+◌, ◌<◌, arith, length}
use Rattle.std.proofs.lemmas.List.{length-set}
use Rattle.alias_match.proofs.FrontLemmas.{numbers_more}
use Rattle.alias_match.proofs.front.NumberedText.of.Goals as goal

pub loop-count-preserved : goal.loop-count-preserved
loop-count-preserved c =
    let within : c.loop-count.count + 1 < length c.loop-count.numbers = omega (arith, c.loop-count.invariant.size) in
    record {
      size = omega (arith, length-set c.loop-count.numbers (c.loop-count.count + 1) c.next_number.result, c.loop-count.invariant.size);
      known = numbers_more c.loop-count.numbers c.loop-count.count c.next_number.result c.args.bytes.now c.loop-count.invariant.known within c.next_number.ensures;
    }
