use Rattle.std.proofs.Common.{◌≡◌, ◌++◌, take}
use Rattle.text_parts.specs.Text.{texts_of}
use Rattle.load_plan.proofs.options.Options.add_options.Given as goal

abbrev pub invariant-loop-word : goal.invariant-loop-word
invariant-loop-word l = texts_of l.self-inside.words.items ≡ l.fn.self ++ take l.word-index l.words
