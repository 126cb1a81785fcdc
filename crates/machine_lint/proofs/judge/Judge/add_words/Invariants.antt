use Rattle.std.proofs.Common.{◌≡◌, ◌++◌, take}
use Rattle.std.specs.List.{filter_map}
use Rattle.machine_lint.specs.Notes.{facts_by, word_note}
use Rattle.machine_lint.specs.Options.{words_of}
use Rattle.machine_lint.proofs.judge.Judge.add_words.Given as goal

abbrev pub invariant-loop-word : goal.invariant-loop-word
invariant-loop-word l =
    l.notes.items ≡ l.initial.notes.items
    ++ filter_map (word_note (facts_by l.self) l.origin l.line (words_of l.line.name l.self.conf.now)) (take l.word-index l.word-items)
