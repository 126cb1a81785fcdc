use Rattle.std.proofs.Common.{◌≡◌, ◌-◌, true, suc, ◌∷◌, length, ◌∙◌, ap, sym, refl, arith}
use Rattle.std.specs.List.{list_all}
use Rattle.text_parts.specs.Text.{is_digit, digits_from}
use Rattle.text_parts.proofs.NumberLemmas.{FewDigits, number_is, digit_of, rest_of, more_digits, one_at}
use Rattle.text_parts.proofs.text.value.Goals as goal

pub loop-digit-init : goal.loop-digit-init
loop-digit-init c =
    let facts : FewDigits c.args.word.now = number_is c.args.word.now c.requires in
    record { same = refl; digits = facts.digits; few = facts.few; small = one_at _ }

pub loop-digit-preserved : goal.loop-digit-preserved
loop-digit-preserved c =
    let rest = c.loop-digit.rest.now in
    let digit = c.in-Some.digit.now in
    let later = c.in-Some.later.now in
    let cut : rest ≡ digit ∷ later = c.in-Some.ensures.cases.0 in
    let digits : list_all is_digit (digit ∷ later) ≡ true = ap (list_all is_digit) (sym cut) ∙ c.loop-digit.invariant.digits in
    let more : length rest ≡ suc (length later) = ap length cut in
    record {
      same = ap (digits_from c.loop-digit.value) (sym cut) ∙ c.loop-digit.invariant.same;
      digits = rest_of digit later digits;
      few = omega arith;
      small = more_digits c.loop-digit.value (digit - 48) (10 - length rest) (10 - length later) c.loop-digit.invariant.small (omega arith) (digit_of digit later digits);
    }
