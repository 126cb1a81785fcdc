-- A number of eight digits is that of its last eight, whatever stood before them.
use Rattle.std.proofs.Common.{◌≡◌, ℕ, zero, suc, ◌+◌, ◌-◌, ◌*◌, ◌%◌, List, [], ◌∷◌, length, take, drop, refl, sym, ◌∙◌, ap, arith, length-drop}
use Rattle.std.specs.List.{fold}
use Rattle.std.proofs.lemmas.List.{take-append-drop}
use Rattle.std.proofs.lemmas.List.Sums.{fold-append}
use Rattle.alias_match.specs.Marks.{mark, with_digit}

-- a digit more leaves numbers alike that were alike
one_alike : (n k d : ℕ) → with_digit n d % 256 ≡ with_digit k d % 256
one_alike n k d = omega arith

two_alike : (n k d : ℕ) → n % 256 ≡ k % 256 → with_digit n d % 65536 ≡ with_digit k d % 65536
two_alike n k d same = omega (arith, same)

three_alike : (n k d : ℕ) → n % 65536 ≡ k % 65536 → with_digit n d % 16777216 ≡ with_digit k d % 16777216
three_alike n k d same = omega (arith, same)

four_alike : (n k d : ℕ) → n % 16777216 ≡ k % 16777216 → with_digit n d % 4294967296 ≡ with_digit k d % 4294967296
four_alike n k d same = omega (arith, same)

five_alike : (n k d : ℕ) → n % 4294967296 ≡ k % 4294967296 → with_digit n d % 1099511627776 ≡ with_digit k d % 1099511627776
five_alike n k d same = omega (arith, same)

six_alike : (n k d : ℕ) → n % 1099511627776 ≡ k % 1099511627776 → with_digit n d % 281474976710656 ≡ with_digit k d % 281474976710656
six_alike n k d same = omega (arith, same)

seven_alike : (n k d : ℕ) → n % 281474976710656 ≡ k % 281474976710656 → with_digit n d % 72057594037927936 ≡ with_digit k d % 72057594037927936
seven_alike n k d same = omega (arith, same)

eight_alike : (n k d : ℕ) → n % 72057594037927936 ≡ k % 72057594037927936 → with_digit n d ≡ with_digit k d
eight_alike n k d same = ap (λ x. x + d) (ap (λ x. x * 256) same)

-- eight digits give one number behind any
eight_digits : (n k : ℕ) (a b c d e f g h : ℕ) → fold with_digit n (a ∷ b ∷ c ∷ d ∷ e ∷ f ∷ g ∷ h ∷ []) ≡ fold with_digit k (a ∷ b ∷ c ∷ d ∷ e ∷ f ∷ g ∷ h ∷ [])
eight_digits n k a b c d e f g h =
    let one = one_alike n k a in
    let two = two_alike _ _ b one in
    let three = three_alike _ _ c two in
    let four = four_alike _ _ d three in
    let five = five_alike _ _ e four in
    let six = six_alike _ _ f five in
    let seven = seven_alike _ _ g six in
    eight_alike _ _ h seven

eight_long : (n k : ℕ) (digits : List ℕ) → length digits ≡ 8 → fold with_digit n digits ≡ fold with_digit k digits
eight_long n k (a ∷ b ∷ c ∷ d ∷ e ∷ f ∷ g ∷ h ∷ []) long = eight_digits n k a b c d e f g h
eight_long n k _ long = absurd (omega arith)

-- what is before the last eight is of no account
parts : (k : ℕ) (bytes : List ℕ) → length bytes - 8 ≡ k → fold with_digit 0 bytes ≡ fold with_digit 0 (drop k bytes)
parts zero bytes is = refl
parts (suc k) bytes is =
    let long : length (drop (suc k) bytes) ≡ 8 = omega (arith, length-drop (suc k) bytes, is) in
    sym (ap (fold with_digit 0) (take-append-drop (suc k) bytes)) ∙ fold-append with_digit 0 (take (suc k) bytes) (drop (suc k) bytes)
    ∙ eight_long (fold with_digit 0 (take (suc k) bytes)) 0 (drop (suc k) bytes) long

-- what folds over all bytes folds over the last eight
pub folded : (bytes : List ℕ) → fold with_digit 0 bytes ≡ mark bytes
folded bytes = parts (length bytes - 8) bytes refl
