-- What is too large stays too large.
use Rattle.std.proofs.Common.{◌≡◌, ℕ, ◌+◌, ◌*◌, ◌<◌, arith, false, List, [], ◌∷◌, Option, Some, None, refl}
use Rattle.std.proofs.lemmas.Bool.{lt-leb}
use Rattle.load_plan.specs.declared.values.Base.{Base}
use Rattle.load_plan.specs.declared.values.Base.TheVariants.{Decimal, Hexadecimal}
use Rattle.load_plan.specs.Parameters.{digit_of, radix, with_digit, number_from, at_most}

grown : (base : Base) (limit high digit : ℕ) → limit < high → limit < high * radix base + digit
grown Decimal limit high digit above = omega arith
grown Hexadecimal limit high digit above = omega arith

pub too_large : (base : Base) (limit high : ℕ) (bytes : List ℕ) → limit < high → at_most limit (number_from base high bytes) ≡ false
too_large base limit high [] above = lt-leb high limit above
too_large base limit high (byte ∷ bytes) above = behind (digit_of base byte) (λ digit. too_large base limit (high * radix base + digit) bytes (grown base limit high digit above))
  where
    behind : (o : Option ℕ) → ((digit : ℕ) → at_most limit (number_from base (high * radix base + digit) bytes) ≡ false) → at_most limit (with_digit base high o (λ next. number_from base next bytes)) ≡ false
    behind None later = refl
    behind (Some digit) later = later digit
