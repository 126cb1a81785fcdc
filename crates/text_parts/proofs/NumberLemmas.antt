-- The value of decimal digits, digit by digit.
use Rattle.std.proofs.Common.{◌≡◌, ℕ, suc, ◌+◌, ◌*◌, ◌-◌, ◌<◌, ◌≤◌, ◌^◌, Bool, true, false, ◌∷◌, List, length, refl, ap, ◌∙◌, arith}
use Rattle.std.specs.Prelude.{◌&&◌, nat_le}
use Rattle.std.specs.List.{list_all}
use Rattle.std.proofs.lemmas.Bool.{leb-true}
use Rattle.text_parts.specs.Text.{is_digit, is_number}
use Rattle.std.proofs.Math.Nat.{one-le-pow, pow-suc, pow-le-pow_right}

-- ten times as much is the bound behind one more digit
pub more_digits : (value digit k n : ℕ) → value < 10 ^ k → n ≡ suc k → digit ≤ 9 → value * 10 + digit < 10 ^ n
more_digits value digit k n small is few =
    let power : 10 ^ n ≡ 10 ^ k * 10 = ap (λ m. 10 ^ m) is ∙ pow-suc 10 k in
    omega (arith, power)

pub small_number : (value k : ℕ) → value < 10 ^ k → k ≤ 9 → value < 1000000000
small_number value k small few =
    let most : 10 ^ k ≤ 10 ^ 9 = pow-le-pow_right {n = 10} (omega arith) {i = k} {j = 9} few in
    let is : 10 ^ 9 ≡ 1000000000 = refl in
    omega (arith, most, is)

pub one_at : (k : ℕ) → 0 < 10 ^ k
one_at k = one-le-pow k 10 (omega arith)

both : (p q : Bool) → (p && q) ≡ true → (p ≡ true) × (q ≡ true)
both true q is = (refl, is)
both false q is = absurd (cc)

-- what a number has
pub record FewDigits (word : List ℕ) : Type 0 where
  pub digits : list_all is_digit word ≡ true
  pub few : length word ≤ 10

pub number_is : (word : List ℕ) → is_number word ≡ true → FewDigits word
number_is word is =
    let parts = both (nat_le 1 (length word) && nat_le (length word) 10) (list_all is_digit word) is in
    let short = both (nat_le 1 (length word)) (nat_le (length word) 10) parts.0 in
    record { digits = parts.1; few = leb-true (length word) 10 short.1 }

pub digit_of : (digit : ℕ) (later : List ℕ) → list_all is_digit (digit ∷ later) ≡ true → digit - 48 ≤ 9
digit_of digit later is =
    let parts = both (is_digit digit) (list_all is_digit later) is in
    let within = both (nat_le 48 digit) (nat_le digit 57) parts.0 in
    let most : digit ≤ 57 = leb-true digit 57 within.1 in
    omega arith

pub rest_of : (digit : ℕ) (later : List ℕ) → list_all is_digit (digit ∷ later) ≡ true → list_all is_digit later ≡ true
rest_of digit later is = (both (is_digit digit) (list_all is_digit later) is).1
