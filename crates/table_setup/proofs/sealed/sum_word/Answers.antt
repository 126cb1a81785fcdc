use Rattle.std.proofs.Common.{◌++◌, ap, sym, ◌∙◌, decimal, ◌≡◌}
use Rattle.table_setup.proofs.SealLemmas.{ended, no_blank_there, no_front, no_number_there}
use Rattle.table_setup.proofs.sealed.sum_word.Goals as goal

pub returns-in_err-number : goal.returns-in_err-number
returns-in_err-number c = rw c.from_residual.ensures (no_front c.args.line.now c.args.length c.in_err-number.ensures)

pub returns-in_err-blank : goal.returns-in_err-blank
returns-in_err-blank c =
    let digits : c.as_bytes.result.now ≡ decimal c.args.length = c.as_bytes.ensures.value ∙ c.format.ensures.text in
    rw c.from_residual-in_err-blank.ensures (no_number_there c.args.line.now c.in_ok-number.number.now c.args.length c.in_ok-number.ensures (λ rest is. c.in_err-blank.ensures rest (is ∙ ap (λ l. l ++ rest) (sym digits))))

pub returns-in_err-word : goal.returns-in_err-word
returns-in_err-word c =
    let digits : c.as_bytes.result.now ≡ decimal c.args.length = c.as_bytes.ensures.value ∙ c.format.ensures.text in
    rw c.from_residual-in_err-word.ensures
    (no_blank_there c.args.line.now c.in_ok-number.number.now c.in_ok-blank.blank.now c.args.length c.in_ok-number.ensures (c.in_ok-blank.ensures ∙ ap (λ l. l ++ c.in_ok-blank.blank.now) digits) c.in_err-word.ensures)

pub returns : goal.returns
returns c =
    let digits : c.as_bytes.result.now ≡ decimal c.args.length = c.as_bytes.ensures.value ∙ c.format.ensures.text in
    ended c.args.line.now c.in_ok-number.number.now c.in_ok-blank.blank.now c.in_ok-word.word.now c.args.length c.cut_end.result c.in_ok-number.ensures (c.in_ok-blank.ensures ∙ ap (λ l. l ++ c.in_ok-blank.blank.now) digits) c.in_ok-word.ensures c.cut_end.ensures
