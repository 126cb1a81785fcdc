use Rattle.std.proofs.Common.{◌≡◌, ◌++◌, List, ℕ, length, take, drop, refl, sym, ◌∙◌, ap, arith}
use Rattle.line_journal.specs.Lines.{lines_of, open_text, behind}
use Rattle.line_journal.proofs.BehindLemmas.{lines_behind, end_behind, same_behind}
use Rattle.line_journal.proofs.RepairLemmas.{end_within}
use Rattle.line_journal.proofs.reading.peek_from.Goals as goal

pub overflow_add-found : goal.overflow_add-found
overflow_add-found g c =
    let file = g.D.Device.content c.args.device.now in
    let rest : c.deref.result.now ≡ drop c.args.from file = c.deref.ensures.value ∙ c.in_ok-bytes.ensures.bytes in
    let ends = end_behind file c.args.from c.requires.within c.requires.whole c.in_ok-found.found.end (c.in_ok-found.ensures.ends ∙ ap (λ (f : List ℕ). length (open_text (lines_of f))) rest) in
    omega (arith, ends, end_within file (length (open_text (lines_of file))) refl, c.in_ok-bytes.ensures.fits)

pub returns-clause-lines : goal.returns-clause-lines
returns-clause-lines g c =
    let file = g.D.Device.content c.args.device.now in
    let known = lines_of (take c.args.from file) in
    let rest : c.deref.result.now ≡ drop c.args.from file = c.deref.ensures.value ∙ c.in_ok-bytes.ensures.bytes in
    lines_behind file c.args.from c.requires.within c.requires.whole ∙ ap (λ (ls : List (List ℕ)). known ++ ls) (sym (c.in_ok-found.ensures.lines ∙ ap lines_of rest))

pub returns-clause-end : goal.returns-clause-end
returns-clause-end g c =
    let file = g.D.Device.content c.args.device.now in
    let rest : c.deref.result.now ≡ drop c.args.from file = c.deref.ensures.value ∙ c.in_ok-bytes.ensures.bytes in
    end_behind file c.args.from c.requires.within c.requires.whole c.in_ok-found.found.end (c.in_ok-found.ensures.ends ∙ ap (λ (f : List ℕ). length (open_text (lines_of f))) rest)

pub returns-clause-behind : goal.returns-clause-behind
returns-clause-behind g c =
    let file = g.D.Device.content c.args.device.now in
    let rest : c.deref.result.now ≡ drop c.args.from file = c.deref.ensures.value ∙ c.in_ok-bytes.ensures.bytes in
    c.in_ok-found.ensures.rest ∙ ap behind rest ∙ same_behind file c.args.from c.requires.within c.requires.whole
