use Rattle.std.proofs.Common.{◌≡◌, true, ◌-◌, ◌<◌, ◌≤◌, ◌^◌, length}
use Rattle.std.specs.List.{list_all}
use Rattle.text_parts.specs.Text.{is_digit, digits_from}
use Rattle.text_parts.proofs.text.value.Given as goal

-- the digits of the rest go on from the value of those before them
abbrev pub invariant-loop-digit : goal.invariant-loop-digit
invariant-loop-digit l = record {
  same : digits_from l.value l.rest ≡ digits_from 0 l.fn.word;
  digits : list_all is_digit l.rest ≡ true;
  few : length l.rest ≤ 10;
  small : l.value < 10 ^ (10 - length l.rest);
}

abbrev pub decreases-loop-digit : goal.decreases-loop-digit
decreases-loop-digit l = length l.rest
