use Rattle.std.proofs.Common.{◌≡◌, [], drop}
use Rattle.text_parts.specs.Text.{texts_of}
use Rattle.answer_reasons.specs.KernelList.{kernel_list}
use Rattle.answer_reasons.proofs.kernel_list.kernel_list.Given as goal

-- the words that are left make of the list what all make of none
abbrev pub invariant-loop-word : goal.invariant-loop-word
invariant-loop-word l = kernel_list l.list (texts_of (drop l.word-index l.words)) ≡ kernel_list [] (texts_of l.words)
