use Rattle.machine_lint.proofs.OptionLemmas.{words_from-none}
use Rattle.machine_lint.proofs.options.option_words.Goals as goal

pub loop-byte-init : goal.loop-byte-init
loop-byte-init c = rw (c.new-words.ensures.items, c.new-part.ensures.items) (words_from-none c.args.text.now)
