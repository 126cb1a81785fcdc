use Rattle.std.proofs.Common.{[], ◌∷◌, ◌++◌, List, ℕ, take, sym, ◌∙◌, ap}
use Rattle.line_journal.specs.Lines.{bytes_of, with_gates}
use Rattle.line_journal.proofs.GroupLemmas.{one_more, waiting_more}
use Rattle.line_journal.proofs.text.text_waiting.Goals as goal

pub loop-line-preserved : goal.loop-line-preserved
loop-line-preserved c =
    let lines = c.args.lines.now in
    let index = c.loop-line.line-index in
    let line = c.line-item.result in
    let is = c.in_ok-extend_from_slice-2.ensures.items ∙ ap (λ (l : List ℕ). l ++ 10 ∷ 32 ∷ []) (c.in_ok-extend_from_slice.ensures.items ∙ ap (λ (l : List ℕ). c.loop-line.bytes.items ++ l) c.deref.ensures.value) in
    waiting_more c.loop-line.bytes.items line.items _ (take index (bytes_of lines)) c.loop-line.invariant is
    ∙ ap (λ (ls : List (List ℕ)). with_gates [] ls) (sym (one_more lines index line c.loop-line-test.true c.line-item.is))
