-- Reading as a function is the reading.
use Rattle.std.proofs.Common.{◌≡◌, ℕ, zero, suc, ◌≤◌, List, [], ◌∷◌, length, drop, Bool, true, false, cond, not, ◌&&◌, ◌||◌, nat_eq, Result, Ok, Err, ◌⊎◌, inl, inr, refl, ◌∙◌, ap, subst, arith, eqb-true}
use Rattle.std.proofs.lemmas.Bool.Decides.{eqb_tells}
use Rattle.alias_match.specs.declared.item.ByteRange.{ByteRange}
use Rattle.alias_match.specs.declared.read.PatternError.{PatternError}
use Rattle.alias_match.specs.declared.read.PatternError.TheVariants.{Class}
use Rattle.alias_match.specs.Pattern.{Piece, byte}
use Rattle.alias_match.specs.Reading.{◌>>=◌, letter, range, member, class_mark, closes, HasMembers, bad_member, last, more, unclosed, over, bad_item, item, ranges_before, HasItem, Reads, set, plain, plain_item, negates, after_sign, set_of, undashed, after_member, members_from, item_of, after_item, pieces_from, pattern_of}

told : (b : Bool) → (b ≡ true) ⊎ (b ≡ false)
told true = inl refl
told false = inr refl

chosen : {A : Type 0} (b : Bool) (x y z : A) → cond b x y ≡ z → ((b ≡ true) × (x ≡ z)) ⊎ ((b ≡ false) × (y ≡ z))
chosen true x y z h = inl (refl, h)
chosen false x y z h = inr (refl, h)

bind_ok : {A B : Type 0} (r : Result A PatternError) (f : A → Result B PatternError) (y : B) → (r >>= f) ≡ Ok y → (x : A) × (r ≡ Ok x) × (f x ≡ Ok y)
bind_ok (Ok x) f y h = (x, refl, h)
bind_ok (Err e) f y h = absurd (cc)

-- what is left of a reader's answer is no longer than what it had
abbrev Shortens : {A : Type 0} → Result (A × List ℕ) PatternError → ℕ → Type 0
Shortens (Ok x) n = length x.1 ≤ n
Shortens (Err e) n = Unit {0}

letter_shortens : (b : ℕ) (s : List ℕ) → Shortens (letter b s) (length s)
letter_shortens b [] = elim (told (nat_eq b 92)) [ inl t ↦ rw t tt | inr t ↦ rw t (omega arith) ]
letter_shortens b (c ∷ s) = elim (told (nat_eq b 92)) [ inl t ↦ rw t (omega arith) | inr t ↦ rw t (omega arith) ]

Shortens-weaker : {A : Type 0} (r : Result (A × List ℕ) PatternError) (m n : ℕ) → m ≤ n → Shortens r m → Shortens r n
Shortens-weaker (Ok x) m n le h = omega arith
Shortens-weaker (Err e) m n le h = tt

bind_shortens : {A B : Type 0} (r : Result (A × List ℕ) PatternError) (f : A × List ℕ → Result (B × List ℕ) PatternError) (n : ℕ) → Shortens r n → ((x : A × List ℕ) → length x.1 ≤ n → Shortens (f x) n) → Shortens (r >>= f) n
bind_shortens (Ok x) f n h k = k x h
bind_shortens (Err e) f n h k = tt

range_shortens : (b : ℕ) (s : List ℕ) → Shortens (range b s) (length s)
range_shortens b [] = omega arith
range_shortens b (d ∷ []) = omega arith
range_shortens b (d ∷ c ∷ s) = elim (told (nat_eq d 45 && not (nat_eq c 93))) [
  | inl t ↦ rw t (bind_shortens (letter c s) (λ l. Ok (record { first = b; last = l.0.byte }, l.1)) (length (d ∷ c ∷ s)) (Shortens-weaker (letter c s) (length s) (length (d ∷ c ∷ s)) (omega arith) (letter_shortens c s)) (λ x h. h))
  | inr t ↦ rw t (omega arith)
]

member_shortens : (b : ℕ) (s : List ℕ) → Shortens (member b s) (length s)
member_shortens b s = bind_shortens (letter b s) (λ l. cond (not l.0.escaped && (nat_eq b 91) && class_mark l.1) (Err Class) (range l.0.byte l.1)) (length s) (letter_shortens b s)
    (λ x h. elim (told (not x.0.escaped && (nat_eq b 91) && class_mark x.1)) [ inl t ↦ rw t tt | inr t ↦ rw t (Shortens-weaker (range x.0.byte x.1) (length x.1) (length s) h (range_shortens x.0.byte x.1)) ])

closing : (s : List ℕ) → closes s ≡ true → s ≡ 93 ∷ drop 1 s
closing [] h = absurd (cc)
closing (c ∷ s) h = ap (λ x. x ∷ s) (eqb-true c 93 h)

members_next : (n : ℕ) → ((s : List ℕ) → length s ≤ n → HasMembers s (members_from n s)) → (b : ℕ) (s : List ℕ) → length s ≤ n → (r : Result (ByteRange × List ℕ) PatternError) → member b s ≡ r → Shortens r (length s) → HasMembers (b ∷ s) (after_member (members_from n) r)
members_next n ih b s le (Err e) h k = bad_member b s e h
members_next n ih b s le (Ok x) h k = elim (told (closes x.1)) [
  | inl t ↦ rw t (last b s (drop 1 x.1) x.0 (h ∙ ap (λ y. Ok (x.0, y)) (closing x.1 t)))
  | inr t ↦ rw t (more b s x.1 x.0 (members_from n x.1) h t (ih x.1 (omega arith)))
]

pub members_reads : (n : ℕ) (s : List ℕ) → length s ≤ n → HasMembers s (members_from n s)
members_reads zero [] le = unclosed
members_reads zero (b ∷ s) le = absurd (omega arith)
members_reads (suc n) [] le = unclosed
members_reads (suc n) (b ∷ s) le = members_next n (members_reads n) b s (omega arith) (member b s) refl (member_shortens b s)

before_shortens : (front : List ByteRange) (r : Result (List ByteRange × List ℕ) PatternError) (n : ℕ) → Shortens r n → Shortens (ranges_before front r) n
before_shortens front (Ok x) n h = h
before_shortens front (Err e) n h = tt

members_shorten : {s : List ℕ} {r : Result (List ByteRange × List ℕ) PatternError} → HasMembers s r → Shortens r (length s)
members_shorten unclosed = tt
members_shorten (bad_member b s e h) = tt
members_shorten (last b s rest m h) = let k : length (93 ∷ rest) ≤ length s = subst (λ r. Shortens r (length s)) h (member_shortens b s) in omega arith
members_shorten (more b s rest m r h c k) =
    let first : length rest ≤ length s = subst (λ x. Shortens x (length s)) h (member_shortens b s) in
    before_shortens (m ∷ []) r (length (b ∷ s)) (Shortens-weaker r (length rest) (length (b ∷ s)) (omega arith) (members_shorten k))

sign_shortens : (s : List ℕ) → length (after_sign s) ≤ length s
sign_shortens [] = omega arith
sign_shortens (b ∷ s) = elim (told (nat_eq b 33 || nat_eq b 94)) [ inl t ↦ rw t (omega arith) | inr t ↦ rw t (omega arith) ]

set_shortens : (negated : Bool) (r : Result (List ByteRange × List ℕ) PatternError) (n : ℕ) → Shortens r n → Shortens (set_of negated r) n
set_shortens negated (Ok x) n h = h
set_shortens negated (Err e) n h = tt

plain_shortens : (b : ℕ) (s : List ℕ) → Shortens (plain_item b s) (length s)
plain_shortens b s = elim (told (nat_eq b 42)) [
  | inl t ↦ rw t (omega arith)
  | inr t ↦ elim (told (nat_eq b 63)) [
    | inl u ↦ rw (t, u) (omega arith)
    | inr u ↦ rw (t, u) (bind_shortens (letter b s) (λ l. Ok (byte (undashed l.0.byte), l.1)) (length s) (letter_shortens b s) (λ x h. h))
  ]
]

item_reads : (b : ℕ) (s : List ℕ) → HasItem b s (item_of b s)
item_reads b s = elim (eqb_tells b 91) [
  | inl t ↦ rw t.0 (set (members_from (length s) (after_sign s)) t.1 (members_reads (length s) (after_sign s) (sign_shortens s)))
  | inr t ↦ rw t.0 (plain t.1)
]

item_shortens : (b : ℕ) (s : List ℕ) → Shortens (item_of b s) (length s)
item_shortens b s = elim (told (nat_eq b 91)) [
  | inl t ↦ rw t (set_shortens (negates s) (members_from (length s) (after_sign s)) (length s) (Shortens-weaker (members_from (length s) (after_sign s)) (length (after_sign s)) (length s) (sign_shortens s) (members_shorten (members_reads (length s) (after_sign s) (sign_shortens s)))))
  | inr t ↦ rw t (plain_shortens b s)
]

items_next : (n : ℕ) → ((s : List ℕ) → length s ≤ n → Reads s (pieces_from n s)) → (b : ℕ) (s : List ℕ) → length s ≤ n → (r : Result (Piece × List ℕ) PatternError) → HasItem b s r → Shortens r (length s) → Reads (b ∷ s) (after_item (pieces_from n) r)
items_next n ih b s le (Err e) h k = bad_item b s e h
items_next n ih b s le (Ok x) h k = item b s x.1 x.0 (pieces_from n x.1) h (ih x.1 (omega arith))

pieces_read : (n : ℕ) (s : List ℕ) → length s ≤ n → Reads s (pieces_from n s)
pieces_read zero [] le = over
pieces_read zero (b ∷ s) le = absurd (omega arith)
pieces_read (suc n) [] le = over
pieces_read (suc n) (b ∷ s) le = items_next n (pieces_read n) b s (omega arith) (item_of b s) (item_reads b s) (item_shortens b s)

pub pattern_read : (text : List ℕ) → Reads text (pattern_of text)
pattern_read text = pieces_read (length text) text (omega arith)
