-- Where the last line of a sealed text begins.
use Rattle.std.proofs.Common.{◌≡◌, ℕ, ◌+◌, ◌-◌, ◌<◌, ◌^◌, Bool, true, false, eqb, List, [], ◌∷◌, ◌++◌, length, get_or, drop, codes, decimal, refl, sym, ap, subst, ◌∙◌, arith, rules, All, Option, Some, None, Bor}
use Rattle.std.specs.Prelude.{◌≢◌, ◌&&◌, nat_le, MatchOption}
use Rattle.std.specs.List.{list_all}
use Rattle.std.proofs.Math.Seq.{get_or-append_seam, get_or-append_right, drop-append_seam}
use Rattle.std.proofs.lemmas.Bool.{eqb-true, false≢true}
use Rattle.std.proofs.lemmas.List.{append_assoc, length-append, append_cancel_left, append_cancel_right}
use Rattle.std.proofs.lemmas.Option.{none-some}
use Rattle.std.proofs.lemmas.List.Elements.{All-nil, All-cons, All-append, All-get_or}
use Rattle.std.proofs.lemmas.Str.Parse.{IsNumeralModel, numerals_by_fold}
use Rattle.std.proofs.lemmas.Fmt.{digits_decimal}
use Rattle.memchr.specs.Find.{NoneAfter, Nowhere, Passes, is_byte}
use Rattle.text_parts.specs.Text.{is_digit, is_number, digits_from, number_within}
use Rattle.table_setup.specs.Sealed.{IsSealed, last_line}

-- no byte of the text is `%`
abbrev pub Free : List ℕ → Type 0
Free bytes = All (λ byte. eqb byte 37 ≡ false) bytes

other_byte : (x : ℕ) → is_digit x ≡ true → eqb x 37 ≡ false
other_byte x passes = at (eqb x 37) refl where
  at : (b : Bool) → eqb x 37 ≡ b → eqb x 37 ≡ false
  at true is = absurd (false≢true (sym (ap is_digit (eqb-true x 37 is)) ∙ passes))
  at false is = is

and_left : (a b : Bool) → (a && b) ≡ true → a ≡ true
and_left true b e = refl
and_left false b e = cc

and_right : (a b : Bool) → (a && b) ≡ true → b ≡ true
and_right true b e = e
and_right false b e = cc

free_digits : (xs : List ℕ) → list_all is_digit xs ≡ true → Free xs
free_digits [] all = All-nil (λ x. eqb x 37 ≡ false)
free_digits (x ∷ xs) all =
    All-cons (λ x. eqb x 37 ≡ false) x xs (other_byte x (and_left (is_digit x) (list_all is_digit xs) all))
    (free_digits xs (and_right (is_digit x) (list_all is_digit xs) all))

numerals : IsNumeralModel (λ ds. list_all is_digit ds ≡ true) (digits_from 0)
numerals = numerals_by_fold _ (search rules) digits_from (search rules)

free_decimal : (n : ℕ) → n < 2 ^ 64 → Free (decimal n)
free_decimal n small = free_digits (decimal n) (digits_decimal numerals n small)

no_number : (word : List ℕ) → is_number word ≡ false → number_within 4294967295 word ≡ None
no_number word other = rw other refl

word_digits : (word : List ℕ) (sum : ℕ) → number_within 4294967295 word ≡ Some sum → list_all is_digit word ≡ true
word_digits word sum is = at (is_number word) refl where
  at : (b : Bool) → is_number word ≡ b → list_all is_digit word ≡ true
  at true passes = and_right (nat_le 1 (length word) && nat_le (length word) 10) (list_all is_digit word) passes
  at false other = absurd (none-some sum (sym (no_number word other) ∙ is))

-- the last line behind its first byte
abbrev pub tail_of : ℕ → List ℕ → List ℕ
tail_of long word = codes "end " ++ decimal long ++ codes " " ++ word ++ codes "\n"

free_tail : (long : ℕ) (word : List ℕ) → long < 2 ^ 64 → list_all is_digit word ≡ true → Free (tail_of long word)
free_tail long word small digits =
    let is : ℕ → Type 0 = λ x. eqb x 37 ≡ false in
    let number : List ℕ = decimal long ++ 32 ∷ [] in
    let rest : List ℕ = number ++ word ++ 10 ∷ [] in
    All-cons is 101 (110 ∷ 100 ∷ 32 ∷ rest) refl
    (All-cons is 110 (100 ∷ 32 ∷ rest) refl
    (All-cons is 100 (32 ∷ rest) refl
    (All-cons is 32 rest refl
    (All-append is (number ++ word) (10 ∷ [])
    (All-append is number word (All-append is (decimal long) (32 ∷ []) (free_decimal long small) (All-cons is 32 [] refl (All-nil is))) (free_digits word digits))
    (All-cons is 10 [] refl (All-nil is))))))

-- the sign stands behind the text
sign_at : (text tail : List ℕ) → get_or (text ++ 37 ∷ tail) (length text) 0 ≡ 37
sign_at text tail = get_or-append_seam text 37 tail 0

-- no sign stands behind that
free_behind : (text tail : List ℕ) (k : ℕ) → Free tail → length text < k → k < length (text ++ 37 ∷ tail) → eqb (get_or (text ++ 37 ∷ tail) k 0) 37 ≡ false
free_behind text tail k free behind within =
    let long : length (text ++ 37 ∷ tail) ≡ length text + length (37 ∷ tail) = length-append text (37 ∷ tail) in
    let longer : length ((text ++ 37 ∷ []) ++ tail) ≡ length (text ++ 37 ∷ []) + length tail = length-append (text ++ 37 ∷ []) tail in
    let front : length (text ++ 37 ∷ []) ≡ length text + 1 = length-append text (37 ∷ []) in
    let same : (text ++ 37 ∷ []) ++ tail ≡ text ++ 37 ∷ tail = append_assoc text (37 ∷ []) tail in
    let same_length : length ((text ++ 37 ∷ []) ++ tail) ≡ length (text ++ 37 ∷ tail) = ap length same in
    let place : get_or (text ++ 37 ∷ tail) k 0 ≡ get_or tail (k - length (text ++ 37 ∷ [])) 0 =
    ap (λ (l : List ℕ). get_or l k 0) (sym same) ∙ get_or-append_right (text ++ 37 ∷ []) tail k 0 (omega arith) in
    ap (λ x. eqb x 37) place ∙ All-get_or (λ x. eqb x 37 ≡ false) tail (k - length (text ++ 37 ∷ [])) 0 (omega arith) free

not_before : (text tail : List ℕ) (k : ℕ) → NoneAfter (Passes (is_byte 37) (text ++ 37 ∷ tail)) 0 (length (text ++ 37 ∷ tail)) k → k < length text → ⊥
not_before text tail k last before =
    let long : length (text ++ 37 ∷ tail) ≡ length text + length (37 ∷ tail) = length-append text (37 ∷ tail) in
    let more : length (37 ∷ tail) ≡ length tail + 1 = omega arith in
    last.after (length text) (omega arith) (omega arith) (ap (λ x. eqb x 37) (sign_at text tail) ∙ refl)

not_behind : (text tail : List ℕ) (k : ℕ) → Free tail → k < length (text ++ 37 ∷ tail) → Passes (is_byte 37) (text ++ 37 ∷ tail) k → length text < k → ⊥
not_behind text tail k free within passes behind = false≢true (sym (free_behind text tail k free behind within) ∙ passes)

-- the last sign is the first byte of the last line
pub sign_place : (bytes text : List ℕ) (sum k : ℕ) → IsSealed bytes text sum → k < 2 ^ 64
    → NoneAfter (Passes (is_byte 37) bytes) 0 (length bytes) k × Passes (is_byte 37) bytes k → k ≡ length text
sign_place bytes text sum k is small last =
    let tail = tail_of (length text) is.word in
    let at : NoneAfter (Passes (is_byte 37) (text ++ 37 ∷ tail)) 0 (length (text ++ 37 ∷ tail)) k = subst (λ (l : List ℕ). NoneAfter (Passes (is_byte 37) l) 0 (length l) k) is.whole last.0 in
    let passes : Passes (is_byte 37) (text ++ 37 ∷ tail) k = subst (λ (l : List ℕ). Passes (is_byte 37) l k) is.whole last.1 in
    let low : k < length text → ⊥ = not_before text tail k at in
    let high : length text < k → ⊥ = λ behind. not_behind text tail k (free_tail (length text) is.word (omega arith) (word_digits is.word sum is.number)) at.high passes behind in
    omega (arith, low, high)

-- a sealed text has a sign
pub sign_there : (bytes text : List ℕ) (sum : ℕ) → IsSealed bytes text sum → Nowhere (Passes (is_byte 37) bytes) 0 (length bytes) → ⊥
sign_there bytes text sum is nowhere =
    let tail = tail_of (length text) is.word in
    let long : length (text ++ 37 ∷ tail) ≡ length text + length (37 ∷ tail) = length-append text (37 ∷ tail) in
    let same : length bytes ≡ length (text ++ 37 ∷ tail) = ap length is.whole in
    let more : length (37 ∷ tail) ≡ length tail + 1 = omega arith in
    nowhere (length text) (omega arith) (omega arith) (ap (λ (l : List ℕ). eqb (get_or l (length text) 0) 37) is.whole ∙ ap (λ x. eqb x 37) (sign_at text tail))

-- the last line, cut off at the sign
line_behind : (bytes text line : List ℕ) (sum k long : ℕ) → (is : IsSealed bytes text sum) → k ≡ length text → line ≡ drop k bytes → long ≡ k → line ≡ last_line long is.word
line_behind bytes text line sum k long is place behind same =
    let as_long : long ≡ length text = same ∙ place in
    behind ∙ ap (drop k) is.whole ∙ rw (as_long, place) (drop-append_seam text (last_line (length text) is.word))

pub no_line : (bytes text line : List ℕ) (sum k long : ℕ) → k < 2 ^ 64 → NoneAfter (Passes (is_byte 37) bytes) 0 (length bytes) k × Passes (is_byte 37) bytes k
    → line ≡ drop k bytes → long ≡ k → ((word : List ℕ) → line ≡ last_line long word → ⊥) → IsSealed bytes text sum → ⊥
no_line bytes text line sum k long small last behind same none is =
    none is.word (line_behind bytes text line sum k long is (sign_place bytes text sum k is small last) behind same)

-- two last lines of one length that are the same have one word
one_word : (long : ℕ) (word word' : List ℕ) → last_line long word ≡ last_line long word' → word ≡ word'
one_word long word word' same =
    let front : List ℕ = codes "%end " ++ decimal long ++ codes " " in
    append_cancel_left front word word' (append_cancel_right (front ++ word) (front ++ word') (codes "\n") same)

pub no_sum : (bytes text line word : List ℕ) (sum k long : ℕ) → k < 2 ^ 64 → NoneAfter (Passes (is_byte 37) bytes) 0 (length bytes) k × Passes (is_byte 37) bytes k
    → line ≡ drop k bytes → long ≡ k → line ≡ last_line long word → number_within 4294967295 word ≡ None → IsSealed bytes text sum → ⊥
no_sum bytes text line word sum k long small last behind same as_line none is =
    let there : line ≡ last_line long is.word = line_behind bytes text line sum k long is (sign_place bytes text sum k is small last) behind same in
    let one : word ≡ is.word = one_word long word is.word (sym as_line ∙ there) in
    none-some sum (sym none ∙ ap (number_within 4294967295) one ∙ is.number)

-- the parts of a last line, one behind another
parts_of : (long : ℕ) (word : List ℕ) → last_line long word ≡ codes "%end " ++ (decimal long ++ (codes " " ++ (word ++ codes "\n")))
parts_of long word = simp append_assoc refl

pub no_front : (line : List ℕ) (long : ℕ) → ((rest : List ℕ) → line ≡ codes "%end " ++ rest → ⊥) → (word : List ℕ) → line ≡ last_line long word → ⊥
no_front line long none word is = none (decimal long ++ (codes " " ++ (word ++ codes "\n"))) (is ∙ parts_of long word)

number_is : (line number : List ℕ) (long : ℕ) (word : List ℕ) → line ≡ codes "%end " ++ number → line ≡ last_line long word → number ≡ decimal long ++ (codes " " ++ (word ++ codes "\n"))
number_is line number long word front is =
    append_cancel_left (codes "%end ") number (decimal long ++ (codes " " ++ (word ++ codes "\n"))) (sym front ∙ is ∙ parts_of long word)

pub no_number_there : (line number : List ℕ) (long : ℕ) → line ≡ codes "%end " ++ number → ((rest : List ℕ) → number ≡ decimal long ++ rest → ⊥)
    → (word : List ℕ) → line ≡ last_line long word → ⊥
no_number_there line number long front none word is = none (codes " " ++ (word ++ codes "\n")) (number_is line number long word front is)

blank_is : (line number blank : List ℕ) (long : ℕ) (word : List ℕ) → line ≡ codes "%end " ++ number → number ≡ decimal long ++ blank → line ≡ last_line long word
    → blank ≡ codes " " ++ (word ++ codes "\n")
blank_is line number blank long word front digits is =
    append_cancel_left (decimal long) blank (codes " " ++ (word ++ codes "\n")) (sym digits ∙ number_is line number long word front is)

pub no_blank_there : (line number blank : List ℕ) (long : ℕ) → line ≡ codes "%end " ++ number → number ≡ decimal long ++ blank → ((rest : List ℕ) → blank ≡ codes " " ++ rest → ⊥)
    → (word : List ℕ) → line ≡ last_line long word → ⊥
no_blank_there line number blank long front digits none word is = none (word ++ codes "\n") (blank_is line number blank long word front digits is)

no_end_there : (line number blank behind : List ℕ) (long : ℕ) → line ≡ codes "%end " ++ number → number ≡ decimal long ++ blank → blank ≡ codes " " ++ behind
    → ((rest : List ℕ) → behind ≡ rest ++ codes "\n" → ⊥) → (word : List ℕ) → line ≡ last_line long word → ⊥
no_end_there line number blank behind long front digits space none word is =
    none word (append_cancel_left (codes " ") behind (word ++ codes "\n") (sym space ∙ blank_is line number blank long word front digits is))

line_is : (line number blank behind word : List ℕ) (long : ℕ) → line ≡ codes "%end " ++ number → number ≡ decimal long ++ blank → blank ≡ codes " " ++ behind
    → behind ≡ word ++ codes "\n" → line ≡ last_line long word
line_is line number blank behind word long front digits space end =
    front ∙ ap (λ (l : List ℕ). codes "%end " ++ l) (digits ∙ ap (λ (l : List ℕ). decimal long ++ l) (space ∙ ap (λ (l : List ℕ). codes " " ++ l) end)) ∙ sym (parts_of long word)

-- what stands before the line feed is the word, if all before it is there
pub ended : (line number blank behind : List ℕ) (long : ℕ) (found : Option (Bor (List ℕ))) → line ≡ codes "%end " ++ number → number ≡ decimal long ++ blank → blank ≡ codes " " ++ behind
    → MatchOption found ((rest : List ℕ) → behind ≢ rest ++ codes "\n") (λ word. behind ≡ word.now ++ codes "\n")
    → MatchOption found ((word : List ℕ) → line ≢ last_line long word) (λ word. line ≡ last_line long word.now)
ended line number blank behind long None front digits space none = no_end_there line number blank behind long front digits space none
ended line number blank behind long (Some word) front digits space end = line_is line number blank behind word.now long front digits space end
