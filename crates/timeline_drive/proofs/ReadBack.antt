-- The text of a line of a report, read again.
use Rattle.std.proofs.Common.{◌≡◌, ◌==◌, ◌<◌, ◌≤◌, nat_le, nat_lt, Bool, true, false, not, ◌&&◌, eqb, List, [], ◌∷◌}
use Rattle.std.proofs.Common.{length, get_or, codes, decimal, refl, sym, ◌∙◌, ap, arith, rules, ℕ, zero, suc, Option, Some, None, All}
use Rattle.std.specs.List.{list_all, slice_split, join_with_byte}
use Rattle.std.specs.Str.{bytes_eq}
use Rattle.std.proofs.lemmas.Bool.{eqb-true, eq-eqb, false≢true}
use Rattle.std.proofs.lemmas.List.Elements.{All-nil, All-cons}
use Rattle.std.proofs.lemmas.Slice.Eq.{bytes_eq-Decides}
use Rattle.std.proofs.lemmas.Bool.Decides.{nat_tests}
use Rattle.std.proofs.lemmas.List.Splits.{slice_split_at, slice_split_none}
use Rattle.std.proofs.lemmas.Str.Parse.{IsNumeralModel, numerals_by_fold}
use Rattle.std.proofs.lemmas.Fmt.{digits_decimal, digits_value-decimal, decimal_nonempty, length-decimal-le, first_decimal, decimal_digit}
use Rattle.text_parts.specs.Text.{is_name, is_name_byte, is_digit, digits_from}
use Rattle.call_words.specs.declared.verb.Verb.{Verb}
use Rattle.call_words.specs.declared.verb.Verb.TheVariants.{Get, Put, Query, BeginLoad, EndLoad, BeginDrain, BeginRemove, EndRemove, CancelRemove}
use Rattle.call_words.specs.declared.reply.ReplyWord.{ReplyWord}
use Rattle.call_words.specs.declared.reply.ReplyWord.TheVariants as reply
use Rattle.call_words.specs.Replies.{reply_of, reply_text}
use Rattle.call_words.specs.Calls.{call_words}
use Rattle.timeline_drive.specs.declared.entries.Effect.{Effect}
use Rattle.timeline_drive.specs.Numbers.{leads_with_zero, decimal_within}
use Rattle.timeline_drive.specs.Entries.{Times, Entry, is_shown_name, call_of, last_of, effect_of, is_ordered, times_of, entry_of}
use Rattle.timeline_drive.specs.Reports.{numbered}
use Rattle.timeline_drive.specs.Texts.{last_text, point_text, answer_text, times_words, line_words}
use Rattle.timeline_drive.specs.Texts.{line_text, HasWorker, IsLast, IsEffect, IsEntry, ReadsBack}

-- no byte of the text is a space
abbrev pub Free : List ℕ → Type 0
Free xs = All (λ x. eqb x 32 ≡ false) xs

other_byte : (p : ℕ → Bool) (x : ℕ) → p 32 ≡ false → p x ≡ true → eqb x 32 ≡ false
other_byte p x out passes = at (eqb x 32) refl where
  at : (b : Bool) → eqb x 32 ≡ b → eqb x 32 ≡ false
  at true is = let same : x ≡ 32 = eqb-true x 32 is in absurd (false≢true (sym out ∙ ap p (sym same) ∙ passes))
  at false is = is

and_left : (a b : Bool) → (a && b) ≡ true → a ≡ true
and_left true b e = refl
and_left false b e = cc

and_right : (a b : Bool) → (a && b) ≡ true → b ≡ true
and_right true b e = e
and_right false b e = cc

-- a byte that does not pass is not in a text whose bytes all pass
free_of : (p : ℕ → Bool) → p 32 ≡ false → (xs : List ℕ) → list_all p xs ≡ true → Free xs
free_of p out [] all = All-nil (λ x. eqb x 32 ≡ false)
free_of p out (x ∷ xs) all =
    All-cons (λ y. eqb y 32 ≡ false) x xs (other_byte p x out (and_left (p x) (list_all p xs) all)) (free_of p out xs (and_right (p x) (list_all p xs) all))

numerals : IsNumeralModel (λ ds. list_all is_digit ds ≡ true) (digits_from 0)
numerals = numerals_by_fold _ (search rules) digits_from (search rules)

free_name : (word : List ℕ) → is_shown_name word ≡ true → Free word
free_name word name =
    free_of is_name_byte refl word
    (and_right (nat_le 1 (length word) && nat_le (length word) 55) (list_all is_name_byte word)
    (and_left (is_name word) (list_all (λ byte. not (byte == 45)) word) name))

free_decimal : (n : ℕ) → n ≤ 999999 → Free (decimal n)
free_decimal n small = free_of is_digit refl (decimal n) (digits_decimal numerals n (omega arith))

free_codes : (xs : List ℕ) → list_all (λ x. not (eqb x 32)) xs ≡ true → Free xs
free_codes xs all = free_of (λ x. not (eqb x 32)) refl xs all

-- no byte of any word is a space
abbrev pub AllFree : List (List ℕ) → Type 0
AllFree [] = Unit {0}
AllFree (f ∷ fs) = Free f × AllFree fs

split_join : (f : List ℕ) (fs : List (List ℕ)) → AllFree (f ∷ fs) → slice_split (λ byte. byte == 32) (join_with_byte 32 (f ∷ fs)) ≡ f ∷ fs
split_join f [] free = slice_split_none (λ byte. byte == 32) f free.0
split_join f (g ∷ fs) free =
    slice_split_at (λ byte. byte == 32) f 32 (join_with_byte 32 (g ∷ fs)) free.0 refl
    ∙ ap (λ (ps : List (List ℕ)). f ∷ ps) (split_join g fs free.1)

within : (a b : ℕ) → a ≤ b → nat_le a b ≡ true
within a b h = grind (arith, nat_tests)

digits_back : (limit : ℕ) (ds : List ℕ) (n : ℕ) → list_all is_digit ds ≡ true → 1 ≤ length ds → length ds ≤ 10 → digits_from 0 ds ≡ n → n ≤ limit
    → leads_with_zero ds ≡ false → decimal_within limit ds ≡ Some n
digits_back limit ds n digits some few value small unled =
    let a : nat_le 1 (length ds) ≡ true = within 1 (length ds) some in
    let b : nat_le (length ds) 10 ≡ true = within (length ds) 10 few in
    let c : nat_le n limit ≡ true = within n limit small in
    rw (unled, a, b, digits, value, c) refl

above_zero : (ds : List ℕ) → 48 < get_or ds 0 0 → leads_with_zero ds ≡ false
above_zero ds h =
    let other : (get_or ds 0 0 == 48) ≡ false = grind (arith, nat_tests) in
    at (nat_lt 1 (length ds)) (get_or ds 0 0 == 48) other where
      at : (a b : Bool) → b ≡ false → (a && b) ≡ false
      at true b e = e
      at false b e = refl

unled : (n : ℕ) → n ≤ 999999 → leads_with_zero (decimal n) ≡ false
unled zero small = rw (decimal_digit 0 (omega arith)) refl
unled (suc n) small = above_zero (decimal (suc n)) (first_decimal (suc n) (omega arith) (omega (arith, small)))

number_back : (limit n : ℕ) → n ≤ limit → limit ≤ 999999 → decimal_within limit (decimal n) ≡ Some n
number_back limit n small bound =
    digits_back limit (decimal n) n (digits_decimal numerals n (omega (arith, small, bound))) (decimal_nonempty n (omega (arith, small, bound)))
    (length-decimal-le 10 n (omega arith) (omega (arith, small, bound)) (omega (arith, small, bound))) (digits_value-decimal numerals n (omega (arith, small, bound)))
    small (unled n (omega (arith, small, bound)))

reply_back : (r : ReplyWord) → reply_of (reply_text r) ≡ Some r
reply_back reply.Done = refl
reply_back reply.Yes = refl
reply_back reply.No = refl
reply_back reply.NotLive = refl
reply_back reply.TooMany = refl
reply_back reply.NotHeld = refl
reply_back reply.Exists = refl
reply_back reply.UnknownSymbol = refl
reply_back reply.NeedNotLive = refl
reply_back reply.NotLoading = refl
reply_back reply.NoEntry = refl
reply_back reply.NeededBy = refl
reply_back reply.Permanent = refl
reply_back reply.InUse = refl
reply_back reply.NotUnloading = refl

free_reply : (r : ReplyWord) → Free (reply_text r)
free_reply reply.Done = free_codes (codes "ok") refl
free_reply reply.Yes = free_codes (codes "yes") refl
free_reply reply.No = free_codes (codes "no") refl
free_reply reply.NotLive = free_codes (codes "NotLive") refl
free_reply reply.TooMany = free_codes (codes "TooMany") refl
free_reply reply.NotHeld = free_codes (codes "NotHeld") refl
free_reply reply.Exists = free_codes (codes "Exists") refl
free_reply reply.UnknownSymbol = free_codes (codes "UnknownSymbol") refl
free_reply reply.NeedNotLive = free_codes (codes "NeedNotLive") refl
free_reply reply.NotLoading = free_codes (codes "NotLoading") refl
free_reply reply.NoEntry = free_codes (codes "NoEntry") refl
free_reply reply.NeededBy = free_codes (codes "NeededBy") refl
free_reply reply.Permanent = free_codes (codes "Permanent") refl
free_reply reply.InUse = free_codes (codes "InUse") refl
free_reply reply.NotUnloading = free_codes (codes "NotUnloading") refl

-- a decimal is no `-`
no_dash : (n : ℕ) → n ≤ 999999 → bytes_eq (decimal n) (codes "-") ≡ false
no_dash n small = at (bytes_eq (decimal n) (codes "-")) refl where
  at : (b : Bool) → bytes_eq (decimal n) (codes "-") ≡ b → bytes_eq (decimal n) (codes "-") ≡ false
  at true is =
      let same : decimal n ≡ codes "-" = (bytes_eq-Decides (decimal n) (codes "-")).0 is in
      absurd (false≢true (ap (list_all is_digit) (sym same) ∙ digits_decimal numerals n (omega arith)))
  at false is = is

last_back : (o : Option ℕ) → IsLast o → last_of (last_text o) ≡ Some o
last_back None good = refl
last_back (Some n) good =
    let dash = no_dash n good in
    let number = number_back 999999 n good (omega arith) in
    rw (dash, number) refl

effect_back : (o : Option Effect) → IsEffect o → effect_of (point_text o) (answer_text o) ≡ Some o
effect_back None good = refl
effect_back (Some e) good =
    let dash = no_dash e.point good in
    let number = number_back 999999 e.point good (omega arith) in
    let answer = reply_back e.reply in
    rw (dash, number, answer) refl

times_back : (t : Times) → t.first ≤ 999999 → IsLast t.last → IsEffect t.effect → is_ordered t ≡ true → times_of (times_words t) ≡ Some t
times_back t first last effect ordered =
    let a = number_back 999999 t.first first (omega arith) in
    let b = last_back t.last last in
    let c = effect_back t.effect effect in
    rw (a, b, c, ordered) refl

call_back : (verb : Verb) (name : List ℕ) (times : Times) → HasWorker verb → is_shown_name name ≡ true
    → call_of (call_words verb name (times_words times)) ≡ Some (record { verb = verb; name = name; later = times_words times })
call_back (Get worker) name times good shown = let a = number_back 63 worker good (omega arith) in rw (a, shown) refl
call_back (Put worker) name times good shown = let a = number_back 63 worker good (omega arith) in rw (a, shown) refl
call_back Query name times good shown = rw shown refl
call_back BeginLoad name times good shown = rw shown refl
call_back (EndLoad true) name times good shown = rw shown refl
call_back (EndLoad false) name times good shown = rw shown refl
call_back BeginDrain name times good shown = rw shown refl
call_back BeginRemove name times good shown = rw shown refl
call_back EndRemove name times good shown = rw shown refl
call_back CancelRemove name times good shown = rw shown refl

free_last : (o : Option ℕ) → IsLast o → Free (last_text o)
free_last None good = free_codes (codes "-") refl
free_last (Some n) good = free_decimal n good

free_point : (o : Option Effect) → IsEffect o → Free (point_text o) × Free (answer_text o)
free_point None good = (free_codes (codes "-") refl, free_codes (codes "-") refl)
free_point (Some e) good = (free_decimal e.point good, free_reply e.reply)

free_times : (t : Times) → t.first ≤ 999999 → IsLast t.last → IsEffect t.effect → AllFree (times_words t)
free_times t first last effect = (
  free_codes (codes "first") refl,
  (
    free_decimal t.first first,
    (
      free_codes (codes "last") refl,
      (
        free_last t.last last,
        (free_codes (codes "point") refl, ((free_point t.effect effect).0, (free_codes (codes "reply") refl, ((free_point t.effect effect).1, tt)))),
      ),
    ),
  ),
)

free_call : (verb : Verb) (name : List ℕ) (times : List (List ℕ)) → HasWorker verb → Free name → AllFree times → AllFree (call_words verb name times)
free_call (Get worker) name times good shown free = (free_codes (codes "get") refl, (free_decimal worker (omega (arith, good)), (shown, free)))
free_call (Put worker) name times good shown free = (free_codes (codes "put") refl, (free_decimal worker (omega (arith, good)), (shown, free)))
free_call Query name times good shown free = (free_codes (codes "query") refl, (shown, free))
free_call BeginLoad name times good shown free = (free_codes (codes "begin_load") refl, (shown, free))
free_call (EndLoad true) name times good shown free = (free_codes (codes "end_load") refl, (shown, (free_codes (codes "ok") refl, free)))
free_call (EndLoad false) name times good shown free = (free_codes (codes "end_load") refl, (shown, (free_codes (codes "fail") refl, free)))
free_call BeginDrain name times good shown free = (free_codes (codes "begin_drain") refl, (shown, free))
free_call BeginRemove name times good shown free = (free_codes (codes "begin_remove") refl, (shown, free))
free_call EndRemove name times good shown free = (free_codes (codes "end_remove") refl, (shown, free))
free_call CancelRemove name times good shown free = (free_codes (codes "cancel_remove") refl, (shown, free))

free_line : (e : Entry) → IsEntry e → AllFree (line_words e)
free_line e good = (
  free_codes (codes "call") refl,
  (
    free_decimal e.number good.number,
    (
      All-cons (λ y. eqb y 32 ≡ false) 116 (decimal e.thread) refl (free_decimal e.thread (omega (arith, good.thread))),
      free_call e.verb e.name (times_words e.times) good.worker (free_name e.name good.name) (free_times e.times good.first good.last good.effect),
    ),
  ),
)

entry_back : (e : Entry) → IsEntry e → entry_of (line_words e) ≡ Some e
entry_back e good =
    let number = number_back 999999 e.number good.number (omega arith) in
    let thread = number_back 63 e.thread good.thread (omega arith) in
    let call = call_back e.verb e.name e.times good.worker good.name in
    let times = times_back e.times good.first good.last good.effect good.ordered in
    rw (number, thread, call, times) refl

own_number : (e : Entry) → numbered e.number (Some e) ≡ Some e
own_number e = let same : (e.number == e.number) ≡ true = eq-eqb e.number e.number refl in rw same refl

-- the text of a call, read again, is that call
pub read_back : ReadsBack
read_back e good =
    let words : slice_split (λ byte. byte == 32) (line_text e) ≡ line_words e =
    split_join (codes "call") (decimal e.number ∷ (116 ∷ decimal e.thread) ∷ call_words e.verb e.name (times_words e.times)) (free_line e good) in
    ap (λ (ws : List (List ℕ)). numbered e.number (entry_of ws)) words
    ∙ ap (numbered e.number) (entry_back e good)
    ∙ own_number e
