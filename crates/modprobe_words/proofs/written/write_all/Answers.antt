use Rattle.modprobe_words.proofs.BegunLemmas.{more-begun}
use Rattle.modprobe_words.proofs.written.write_all.Goals as goal

pub loop-turn-preserved : goal.loop-turn-preserved
loop-turn-preserved g c =
    let more = more-begun (g.O.Write.contents c.args.output.now) (g.O.Write.contents c.loop-turn.output) (g.O.Write.contents c.write_some.new.output) c.args.text.now c.loop-turn.done c.in_ok-done.field-0
    c.loop-turn.invariant.within c.in_ok-done.ensures.within c.loop-turn.invariant.begun c.in_ok-done.ensures.taken in
    record { within = more.within; begun = more.begun }
