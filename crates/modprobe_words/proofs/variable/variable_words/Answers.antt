use Rattle.std.proofs.Common.{◌≡◌, ◌≤◌, suc, ◌∙◌, sym, ap, arith, [], length, drop, drop-cons, drop_of_length-le, add-one}
use Rattle.std.proofs.lemmas.Grind.{common_steps}
use Rattle.modprobe_words.specs.Readings.{whole}
use Rattle.modprobe_words.specs.Variable.{words_of}
use Rattle.modprobe_words.proofs.variable.variable_words.Goals as goal

pub loop-byte-init : goal.loop-byte-init
loop-byte-init c = grind (arith, common_steps)

-- the byte goes from what is left to what was read
pub loop-byte-preserved : goal.loop-byte-preserved
loop-byte-preserved c =
    rw add-one
    (c.in_ok-take.ensures (drop (suc c.loop-byte.byte-index) c.args.text.now)
    ∙ ap (whole c.loop-byte.reading) (sym (drop-cons c.args.text.now c.loop-byte.byte-index 0 c.loop-byte-test.true))
    ∙ c.loop-byte.invariant)

-- nothing is left
pub returns : goal.returns
returns c =
    let text = c.args.text.now in
    let over : length text ≤ c.loop-byte.byte-index = omega arith in
    let all : whole c.loop-byte.reading [] ≡ words_of text =
    ap (whole c.loop-byte.reading) (sym (drop_of_length-le text over)) ∙ c.loop-byte.invariant in
    rw all at c.finish.ensures
