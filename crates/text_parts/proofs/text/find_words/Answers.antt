use Rattle.std.proofs.Common.{◌≡◌, ◌+◌, ◌++◌, ◌∙◌, ap, sym, take, drop, length, ◌-◌}
use Rattle.text_parts.specs.Text.{words, texts_of}
use Rattle.text_parts.proofs.WordLemmas.{as_words, words_more, rest_after, words-none}
use Rattle.text_parts.proofs.text.find_words.Goals as goal

pub loop-end-preserved : goal.loop-end-preserved
loop-end-preserved c =
    let line = c.loop-end.rest.now in
    let first : texts_of c.push_word.new.found.items ≡ texts_of c.loop-end.found.items ++ as_words (take c.in-Some.end line) = rw (← c.split_at.ensures.front) c.in_ok-push_word.ensures in
    let later : take (length c.split_at.result.1.now - 1) (drop 1 c.split_at.result.1.now) ≡ drop (c.in-Some.end + 1) line = rw c.split_at.ensures.back (rest_after line c.in-Some.end) in
    words_more (texts_of c.loop-end.found.items) (texts_of c.push_word.new.found.items) (words c.args.line.now) line _ c.in-Some.end
    c.in-Some.ensures.0.high c.in-Some.ensures.0.before c.in-Some.ensures.1 c.loop-end.invariant first later

pub returns : goal.returns
returns c = c.in_ok-push_word-2.ensures ∙ ap (λ l. texts_of c.loop-end.found.items ++ l) (sym (words-none c.loop-end.rest.now c.in_default.ensures)) ∙ c.loop-end.invariant
