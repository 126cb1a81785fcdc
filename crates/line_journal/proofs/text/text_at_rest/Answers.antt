use Rattle.std.proofs.Common.{[], ◌∷◌, ◌++◌, List, ℕ, take, sym, ◌∙◌, ap}
use Rattle.line_journal.specs.Lines.{bytes_of, open_text}
use Rattle.line_journal.proofs.GroupLemmas.{one_more}
use Rattle.line_journal.proofs.LineLemmas.{open_more}
use Rattle.line_journal.proofs.text.text_at_rest.Goals as goal

pub loop-line-preserved : goal.loop-line-preserved
loop-line-preserved c =
    let lines = c.args.lines.now in
    let index = c.loop-line.line-index in
    let line = c.line-item.result in
    let is = c.in_ok-push-2.ensures.items ∙ ap (λ (l : List ℕ). l ++ 10 ∷ []) (c.in_ok-extend_from_slice.ensures.items ∙ ap (λ (l : List ℕ). c.push.new.self.items ++ l) c.deref.ensures.value ∙ ap (λ (l : List ℕ). l ++ line.items) c.in_ok-push.ensures.items) in
    open_more c.loop-line.bytes.items line.items _ (take index (bytes_of lines)) c.loop-line.invariant is
    ∙ ap (λ (ls : List (List ℕ)). open_text ls) (sym (one_more lines index line c.loop-line-test.true c.line-item.is))
