use Rattle.machine_lint.specs.Notes.{facts_by, word_note}
use Rattle.machine_lint.specs.Options.{words_of}
use Rattle.machine_lint.proofs.ListLemmas.{filter_more}
use Rattle.machine_lint.proofs.judge.Judge.add_words.Goals as goal

pub loop-word-preserved : goal.loop-word-preserved
loop-word-preserved c =
    let line = c.args.line.now in
    let facts = facts_by c.args.self.now in
    filter_more (word_note facts c.args.origin line (words_of line.name c.args.self.now.conf.now))
    c.args.notes.now.items c.loop-word.notes.items c.push.new.notes.items c.deref-word-items.result.now c.loop-word.word-index c.word-item.result c.in_ok-note.note
    c.loop-word-test.true c.word-item.is c.loop-word.invariant
    (cc (c.in_ok-note.ensures, c.in_ok-all.ensures, c.deref.ensures.value, c.as_bytes.ensures, c.name.ensures))
    c.in_ok-push.ensures
