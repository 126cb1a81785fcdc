use Rattle.std.proofs.Common.{◌∙◌, sym, arith}
use Rattle.std.proofs.lemmas.Grind.{common_steps}
use Rattle.proc_modules.proofs.ReadingLemmas.{users_in-step}
use Rattle.proc_modules.proofs.read.users_in.Goals as goal

pub loop-i-preserved : goal.loop-i-preserved
loop-i-preserved c =
    users_in-step c.args.parts.now _ c.loop-i.users c.push.new.self c.loop-i.i c.in_ok-name.name _ c.loop-i-test.true
    (grind (arith, common_steps)) c.loop-i.invariant
    (sym c.is_empty.ensures ∙ c.if-is_empty.false)
    (sym c.is_last_mark.ensures ∙ c.if-is_last_mark.false)
    (sym c.is_line_name.ensures ∙ c.if-not-is_line_name.false)
    c.in_ok-name.ensures c.in_ok-push.ensures.added
