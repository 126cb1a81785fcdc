-- The text of a line, read again.
use Rattle.std.proofs.Common.{◌≡◌, ◌==◌, ◌<◌, ◌≤◌, ◌+◌, nat_le, nat_lt, Bool, true, false, not, ◌&&◌, eqb, List, [], ◌∷◌, ◌++◌, length, get_or, take, flat_map, position, codes, decimal, refl, sym, ◌∙◌, ap, arith, rules, ℕ, suc, Option, Some, Result, Ok, All, append_assoc}
use Rattle.std.specs.List.{list_all, list_any, slice_split, join_with_byte}
use Rattle.std.specs.Str.{bytes_eq}
use Rattle.std.proofs.Common.{zero-add, add-zero, zero, length-append}
use Rattle.std.specs.List.{position_from}
use Rattle.std.proofs.lemmas.Iterator.Adapters.{position_from-zero}
use Rattle.std.proofs.lemmas.Bool.{eqb-true, eq-eqb, false≢true}
use Rattle.std.proofs.lemmas.List.Elements.{All-nil, All-cons, All-append, All-head, All-tail}
use Rattle.std.proofs.lemmas.List.Splits.{length-slice_split}
use Rattle.std.proofs.lemmas.Slice.Eq.{bytes_eq-Decides}
use Rattle.std.proofs.lemmas.Bool.Decides.{nat_tests}
use Rattle.std.proofs.lemmas.Grind.{common_steps}
use Rattle.proc_modules.proofs.ReadingLemmas.{users_in-name}
use Rattle.std.proofs.lemmas.List.Splits.{slice_split_at, slice_split_none}
use Rattle.std.proofs.lemmas.Str.Parse.{IsNumeralModel, numerals_by_fold}
use Rattle.std.proofs.lemmas.Fmt.{digits_decimal, digits_value-decimal, decimal_nonempty, length-decimal-le, first_decimal, decimal_digit}
use Rattle.text_parts.specs.Text.{is_name, is_name_byte, is_digit, digits_from}
use Rattle.proc_modules.specs.declared.line.Line.{Line}
use Rattle.proc_modules.specs.declared.line.LineState.{LineState}
use Rattle.proc_modules.specs.declared.line.LineState.TheVariants.{Live, Loading, Unloading}
use Rattle.proc_modules.specs.declared.line.LineError.{LineError}
use Rattle.proc_modules.specs.LineText.{state_text, no_address, with_comma, users_end, is_used, users_text, fields_of, line_text}
use Rattle.proc_modules.specs.Reading.{is_line_name, line_number, with_user, is_mark, users_in, users_of, state_of, line_in, first_line, with_used, line_of}
use Rattle.proc_modules.specs.Laws.{IsLine, ReadsBack}

-- no byte of the text is k
abbrev pub Free : ℕ → List ℕ → Type 0
Free k xs = All (λ x. eqb x k ≡ false) xs

other_byte : (p : ℕ → Bool) (k x : ℕ) → p k ≡ false → p x ≡ true → eqb x k ≡ false
other_byte p k x out passes = at (eqb x k) refl where
  at : (b : Bool) → eqb x k ≡ b → eqb x k ≡ false
  at true is = let same : x ≡ k = eqb-true x k is in absurd (false≢true (sym out ∙ ap p (sym same) ∙ passes))
  at false is = is

and_left : (a b : Bool) → (a && b) ≡ true → a ≡ true
and_left true b e = refl
and_left false b e = cc

and_right : (a b : Bool) → (a && b) ≡ true → b ≡ true
and_right true b e = e
and_right false b e = cc

-- a byte that does not pass is not in a text whose bytes all pass
free_of : (p : ℕ → Bool) (k : ℕ) → p k ≡ false → (xs : List ℕ) → list_all p xs ≡ true → Free k xs
free_of p k out [] all = All-nil (λ x. eqb x k ≡ false)
free_of p k out (x ∷ xs) all =
    All-cons (λ y. eqb y k ≡ false) x xs (other_byte p k x out (and_left (p x) (list_all p xs) all)) (free_of p k out xs (and_right (p x) (list_all p xs) all))

name_bytes : (word : List ℕ) → is_line_name word ≡ true → list_all is_name_byte word ≡ true
name_bytes word name =
    and_right (nat_le 1 (length word) && nat_le (length word) 55) (list_all is_name_byte word)
    (and_left (is_name word) (not (list_any (λ byte. byte == 45) word)) name)

pub numerals : IsNumeralModel (λ ds. list_all is_digit ds ≡ true) (digits_from 0)
numerals = numerals_by_fold _ (search rules) digits_from (search rules)

free_name : (k : ℕ) → is_name_byte k ≡ false → (word : List ℕ) → is_line_name word ≡ true → Free k word
free_name k out word name = free_of is_name_byte k out word (name_bytes word name)

free_decimal : (k n : ℕ) → is_digit k ≡ false → n ≤ 4294967295 → Free k (decimal n)
free_decimal k n out small = free_of is_digit k out (decimal n) (digits_decimal numerals n (omega arith))

free_codes : (k : ℕ) (xs : List ℕ) → list_all (λ x. not (eqb x k)) xs ≡ true → Free k xs
free_codes k xs all = free_of (λ x. not (eqb x k)) k (rw (eq-eqb k k refl) refl) xs all

-- the line feed at which a text is cut
end_from : (xs behind : List ℕ) (i : ℕ) → Free 10 xs → position_from (λ byte. byte == 10) i (xs ++ 10 ∷ behind) ≡ Some (i + length xs)
end_from [] behind i free = ap Some (sym (add-zero i))
end_from (x ∷ xs) behind i free =
    let other : eqb x 10 ≡ false = All-head (λ y. eqb y 10 ≡ false) x xs free in
    let later : position_from (λ byte. byte == 10) (i + 1) (xs ++ 10 ∷ behind) ≡ Some ((i + 1) + length xs) =
    end_from xs behind (i + 1) (All-tail (λ y. eqb y 10 ≡ false) x xs free) in
    let sum : (i + 1) + length xs ≡ i + suc (length xs) = omega arith in
    rw other (later ∙ ap Some sum)

end_at : (xs behind : List ℕ) → Free 10 xs → position (λ byte. byte == 10) (xs ++ 10 ∷ behind) ≡ Some (length xs)
end_at xs behind free = position_from-zero (λ byte. byte == 10) (xs ++ 10 ∷ behind) ∙ end_from xs behind 0 free ∙ ap Some (zero-add (length xs))

-- no byte of any field is k
abbrev pub AllFree : ℕ → List (List ℕ) → Type 0
AllFree k [] = Unit {0}
AllFree k (f ∷ fs) = Free k f × AllFree k fs

split_join : (k : ℕ) (f : List ℕ) (fs : List (List ℕ)) → AllFree k (f ∷ fs) → slice_split (λ byte. byte == k) (join_with_byte k (f ∷ fs)) ≡ f ∷ fs
split_join k f [] free = slice_split_none (λ byte. byte == k) f free.0
split_join k f (g ∷ fs) free =
    slice_split_at (λ byte. byte == k) f k (join_with_byte k (g ∷ fs)) free.0 (eq-eqb k k refl)
    ∙ ap (λ (ps : List (List ℕ)). f ∷ ps) (split_join k g fs free.1)

free_join : (k : ℕ) → eqb 32 k ≡ false → (f : List ℕ) (fs : List (List ℕ)) → AllFree k (f ∷ fs) → Free k (join_with_byte 32 (f ∷ fs))
free_join k out f [] free = free.0
free_join k out f (g ∷ fs) free =
    All-append (λ x. eqb x k ≡ false) f (32 ∷ join_with_byte 32 (g ∷ fs)) free.0
    (All-cons (λ x. eqb x k ≡ false) 32 (join_with_byte 32 (g ∷ fs)) out (free_join k out g fs free.1))

-- no name is the mark
unmarked : (user : List ℕ) → is_line_name user ≡ true → is_mark user ≡ false
unmarked user name = at (is_mark user) refl where
  at : (b : Bool) → is_mark user ≡ b → is_mark user ≡ false
  at true is =
      let same : user ≡ codes "[permanent]" = (bytes_eq-Decides user (codes "[permanent]")).0 is in
      absurd (false≢true (ap (list_all is_name_byte) (sym same) ∙ name_bytes user name))
  at false is = is

more_parts : (p : ℕ → Bool) (xs : List ℕ) → (length (slice_split p xs) == 0) ≡ false
more_parts p xs = grind (arith, nat_tests, length-slice_split p xs)

-- the users behind one
users_behind : (users : List (List ℕ)) (permanent : Bool) → list_all is_line_name users ≡ true
    → users_in (slice_split (λ byte. byte == 44) (flat_map with_comma users ++ users_end true permanent)) ≡ Some (users, permanent)
users_behind [] true names = refl
users_behind [] false names = refl
users_behind (user ∷ users) permanent names =
    let name : is_line_name user ≡ true = and_left (is_line_name user) (list_all is_line_name users) names in
    let rest : List ℕ = flat_map with_comma users ++ users_end true permanent in
    let parts : slice_split (λ byte. byte == 44) (user ++ 44 ∷ rest) ≡ user ∷ slice_split (λ byte. byte == 44) rest =
    slice_split_at (λ byte. byte == 44) user 44 rest (free_name 44 refl user name) refl in
    let regrouped : flat_map with_comma (user ∷ users) ++ users_end true permanent ≡ user ++ 44 ∷ rest = simp append_assoc in
    ap (λ (text : List ℕ). users_in (slice_split (λ byte. byte == 44) text)) regrouped
    ∙ ap users_in parts
    ∙ users_in-name user (slice_split (λ byte. byte == 44) rest) (more_parts (λ byte. byte == 44) rest) (rw (unmarked user name) refl) name
    ∙ ap (with_user user) (users_behind users permanent (and_right (is_line_name user) (list_all is_line_name users) names))

no_dash : (text : List ℕ) → 1 < length text → bytes_eq text (codes "-") ≡ false
no_dash text long = at (bytes_eq text (codes "-")) refl where
  at : (b : Bool) → bytes_eq text (codes "-") ≡ b → bytes_eq text (codes "-") ≡ false
  at true is = let one : length text ≡ 1 = ap length ((bytes_eq-Decides text (codes "-")).0 is) in absurd (omega (arith, one, long))
  at false is = is

not_empty : (n : ℕ) → 1 < n → (n == 0) ≡ false
not_empty n long = grind (arith, nat_tests)

at_least : (a b : ℕ) → nat_le a b ≡ true → a ≤ b
at_least a b e = grind (arith, nat_tests)

name_filled : (word : List ℕ) → is_line_name word ≡ true → 1 ≤ length word
name_filled word name =
    at_least 1 (length word)
    (and_left (nat_le 1 (length word)) (nat_le (length word) 55)
    (and_left (nat_le 1 (length word) && nat_le (length word) 55) (list_all is_name_byte word)
    (and_left (is_name word) (not (list_any (λ byte. byte == 45) word)) name)))

-- the users of a line, read again
users_back : (users : List (List ℕ)) (permanent : Bool) → list_all is_line_name users ≡ true → users_of (users_text users permanent) ≡ Some (users, permanent)
users_back [] true names = refl
users_back [] false names = refl
users_back (user ∷ users) permanent names =
    let filled : 1 ≤ length user = name_filled user (and_left (is_line_name user) (list_all is_line_name users) names) in
    let regrouped : users_text (user ∷ users) permanent ≡ user ++ 44 ∷ (flat_map with_comma users ++ users_end true permanent) = simp append_assoc in
    let long : 1 < length (users_text (user ∷ users) permanent) =
    omega (arith, ap length regrouped, length-append user (44 ∷ (flat_map with_comma users ++ users_end true permanent)), filled) in
    let dash : bytes_eq (users_text (user ∷ users) permanent) (codes "-") ≡ false = no_dash (users_text (user ∷ users) permanent) long in
    let empty : (length (users_text (user ∷ users) permanent) == 0) ≡ false = not_empty (length (users_text (user ∷ users) permanent)) long in
    rw (dash, empty) (users_behind (user ∷ users) permanent names)

state_back : (s : LineState) → state_of (state_text s) ≡ Some s
state_back Live = refl
state_back Loading = refl
state_back Unloading = refl

within : (a b : ℕ) → a ≤ b → nat_le a b ≡ true
within a b h = grind (arith, nat_tests)

digits_back : (ds : List ℕ) (n : ℕ) → list_all is_digit ds ≡ true → 1 ≤ length ds → length ds ≤ 10 → digits_from 0 ds ≡ n → n ≤ 4294967295
    → (nat_lt 1 (length ds) && get_or ds 0 0 == 48) ≡ false → line_number ds ≡ Some n
digits_back ds n digits some few value small unled =
    let a : nat_le 1 (length ds) ≡ true = within 1 (length ds) some in
    let b : nat_le (length ds) 10 ≡ true = within (length ds) 10 few in
    let c : nat_le n 4294967295 ≡ true = within n 4294967295 small in
    rw (unled, a, b, digits, value, c) refl

above_zero : (ds : List ℕ) → 48 < get_or ds 0 0 → (nat_lt 1 (length ds) && get_or ds 0 0 == 48) ≡ false
above_zero ds h =
    let other : (get_or ds 0 0 == 48) ≡ false = grind (arith, nat_tests) in
    at (nat_lt 1 (length ds)) (get_or ds 0 0 == 48) other where
      at : (a b : Bool) → b ≡ false → (a && b) ≡ false
      at true b e = e
      at false b e = refl

unled : (n : ℕ) → n ≤ 4294967295 → (nat_lt 1 (length (decimal n)) && get_or (decimal n) 0 0 == 48) ≡ false
unled zero small = rw (decimal_digit 0 (omega arith)) refl
unled (suc n) small = above_zero (decimal (suc n)) (first_decimal (suc n) (omega arith) (omega (arith, small)))

number_back : (n : ℕ) → n ≤ 4294967295 → line_number (decimal n) ≡ Some n
number_back n small =
    digits_back (decimal n) n (digits_decimal numerals n (omega (arith, small))) (decimal_nonempty n (omega (arith, small)))
    (length-decimal-le 10 n (omega arith) (omega (arith, small)) (omega (arith, small))) (digits_value-decimal numerals n (omega (arith, small))) small (unled n small)

free_users : (k : ℕ) → is_name_byte k ≡ false → eqb 44 k ≡ false → (users : List (List ℕ)) → list_all is_line_name users ≡ true → Free k (flat_map with_comma users)
free_users k out comma [] names = All-nil (λ x. eqb x k ≡ false)
free_users k out comma (user ∷ users) names =
    let name : is_line_name user ≡ true = and_left (is_line_name user) (list_all is_line_name users) names in
    All-append (λ x. eqb x k ≡ false) (user ++ 44 ∷ []) (flat_map with_comma users)
    (All-append (λ x. eqb x k ≡ false) user (44 ∷ []) (free_name k out user name)
    (All-cons (λ x. eqb x k ≡ false) 44 [] comma (All-nil (λ x. eqb x k ≡ false))))
    (free_users k out comma users (and_right (is_line_name user) (list_all is_line_name users) names))

-- no byte of a list that computes is k
abbrev Plain : ℕ → List ℕ → Type 0
Plain k xs = list_all (λ x. not (eqb x k)) xs ≡ true

plain_end : (used permanent : Bool) → Plain 10 (users_end used permanent) × Plain 32 (users_end used permanent)
plain_end true true = (refl, refl)
plain_end false true = (refl, refl)
plain_end true false = (refl, refl)
plain_end false false = (refl, refl)

plain_state : (s : LineState) → Plain 10 (state_text s) × Plain 32 (state_text s)
plain_state Live = (refl, refl)
plain_state Loading = (refl, refl)
plain_state Unloading = (refl, refl)

free_fields : (k : ℕ) (l : Line) → IsLine l → is_name_byte k ≡ false → is_digit k ≡ false → eqb 44 k ≡ false
    → Plain k (users_end (is_used l.users) l.permanent) → Plain k (state_text l.state) → Plain k no_address → AllFree k (fields_of l)
free_fields k l good out digit comma end state address = (
  free_name k out l.name good.name,
  (
    free_decimal k l.size digit good.size,
    (
      free_decimal k l.count digit good.count,
      (
        All-append (λ x. eqb x k ≡ false) (flat_map with_comma l.users) (users_end (is_used l.users) l.permanent)
            (free_users k out comma l.users good.users) (free_codes k (users_end (is_used l.users) l.permanent) end),
        (
          free_codes k (state_text l.state) state,
          (free_codes k no_address address, tt),
        ),
      ),
    ),
  ),
)

line_back : (l : Line) → IsLine l → line_in (fields_of l) ≡ Ok l
line_back l good =
    let name = good.name in
    let size = number_back l.size good.size in
    let count = number_back l.count good.count in
    let users = users_back l.users l.permanent good.users in
    let state = state_back l.state in
    rw (name, size, count, users, state) refl

take_front : (xs ys : List ℕ) → take (length xs) (xs ++ ys) ≡ xs
take_front xs ys = grind (arith, common_steps)

-- the fields behind the name
abbrev later_fields : Line → List (List ℕ)
later_fields l = decimal l.size ∷ decimal l.count ∷ users_text l.users l.permanent ∷ state_text l.state ∷ no_address ∷ []

abbrev read_first : List ℕ × ℕ → Result (Line × ℕ) LineError
read_first first = with_used first.1 (line_in (slice_split (λ byte. byte == 32) first.0))

-- the text of a line, read again, is that line and its length
pub read_back : ReadsBack
read_back l behind good =
    let joined : List ℕ = join_with_byte 32 (fields_of l) in
    let feeds : Free 10 joined = free_join 10 refl l.name (later_fields l) (free_fields 10 l good refl refl refl (plain_end (is_used l.users) l.permanent).0 (plain_state l.state).0 refl) in
    let spaces : AllFree 32 (fields_of l) = free_fields 32 l good refl refl refl (plain_end (is_used l.users) l.permanent).1 (plain_state l.state).1 refl in
    let whole : line_text l ++ behind ≡ joined ++ 10 ∷ behind = append_assoc joined (10 ∷ []) behind in
    let cut : take (length joined) (joined ++ 10 ∷ behind) ≡ joined = take_front joined (10 ∷ behind) in
    let size : length joined + 1 ≡ length (line_text l) = sym (length-append joined (10 ∷ [])) in
    ap line_of whole
    ∙ ap (λ (end : Option ℕ). read_first (first_line (joined ++ 10 ∷ behind) end)) (end_at joined behind feeds)
    ∙ ap (λ (part : List ℕ). with_used (length joined + 1) (line_in (slice_split (λ byte. byte == 32) part))) cut
    ∙ ap (λ (fs : List (List ℕ)). with_used (length joined + 1) (line_in fs)) (split_join 32 l.name (later_fields l) spaces)
    ∙ ap (with_used (length joined + 1)) (line_back l good)
    ∙ ap (λ (n : ℕ). Ok (l, n)) size
