use Rattle.std.proofs.Common.{◌∙◌, arith}
use Rattle.std.proofs.lemmas.Grind.{common_steps}
use Rattle.kmod_conf.proofs.EntryLemmas.{space_read}
use Rattle.kmod_conf.proofs.conf.Conf.add_command_line.Goals as goal

pub loop-byte-preserved-in_ok-add_word : goal.loop-byte-preserved-in_ok-add_word
loop-byte-preserved-in_ok-add_word c =
    space_read c.loop-byte.self c.add_word.new.self _ c.loop-byte.is_quoted c.loop-byte.word.items c.clear.new.self.items c.in-Some.byte.now c.in-Some.later.now c.loop-byte.rest.now
    c.in-Some.ensures.cases.0 (grind (arith, common_steps)) (grind (arith, common_steps)) c.clear.ensures.items (grind (arith, common_steps))
    ∙ c.loop-byte.invariant

pub loop-byte-preserved : goal.loop-byte-preserved
loop-byte-preserved c = grind (arith, common_steps)
