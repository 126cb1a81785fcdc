-- Lines by the bytes of their keys, group by group.
use Rattle.std.proofs.Common.{◌≡◌, ℕ, zero, suc, ◌+◌, ◌-◌, ◌*◌, ◌/◌, ◌<◌, ◌≤◌, ◌==◌, nat_lt, Bool, true, false, not, ◌&&◌, List, [], ◌∷◌, ◌++◌, length, reverse, filter, fold, slice_get, Some, None, refl, sym, ◌∙◌, ap, ap₂, subst, subst₂, arith, inl, inr, ◌⊎◌, append_assoc, append-nil, true≢false, lt-ltb, le-ltb, eq-eqb}
use Rattle.std.specs.Borrow.{Bor}
use Rattle.std.specs.List.{AllByRecursion, flat_map}
use Rattle.std.proofs.lemmas.Bool.Decides.{nat_tests}
use Rattle.std.proofs.lemmas.List.{length-map, reverse-append}
use Rattle.std.proofs.lemmas.List.Concat.{flat_map-append}
use Rattle.kmod_names.proofs.PlaceLemmas.{told}
use Rattle.kmod_index.specs.ForProofs.{pointed}
use Rattle.kmod_index.specs.Lines.{Keyed}
use Rattle.kmod_query.specs.declared.key_order.Group.{Group}
use Rattle.kmod_query.specs.declared.key_order.Parts.{Parts}
use Rattle.kmod_query.specs.KeyOrder.{AreAlike, ArePartsOf, HasFront, IsAlike, Shows, code_at, code_by, greater_than, less_than, lines_of, same_as, shown_groups, weight, weights}
use Rattle.kmod_query.proofs.KeptLemmas.{all_front, all_kept, all_mapped, all_pushed, filter_then, kept_one, past_end}
use Rattle.kmod_query.proofs.ProbeLemmas.{none_left}
use Rattle.kmod_query.specs.Shown.{by_key, index_line, is_before, put_line, shown_index}

-- ---- the order of keys

abbrev IsFirst : List ℕ → List ℕ → Type 0
IsFirst one other = (is_before one other ≡ true) × (is_before other one ≡ false)

at_front : (front rest : List ℕ) → slice_get (front ++ rest) (length front) ≡ slice_get rest 0
at_front [] rest = refl
at_front (byte ∷ front) rest = at_front front rest

code_after : (depth : ℕ) (front : List ℕ) (own : Keyed) (h : HasFront front own) → length front ≡ depth → code_at own.key depth ≡ code_by (slice_get h.0 0)
code_after depth front own h long =
    ap (λ key. code_at key depth) h.1 ∙ ap (λ n. code_at (front ++ h.0) n) (sym long) ∙ ap code_by (at_front front h.0)

first_by_byte : (one other : List ℕ) → code_by (slice_get one 0) < code_by (slice_get other 0) → IsFirst one other
first_by_byte one [] h = absurd (omega (arith, h))
first_by_byte [] (b ∷ other) h = (refl, refl)
first_by_byte (a ∷ one) (b ∷ other) h =
    let below : nat_lt a b ≡ true = lt-ltb a b (omega (arith, h)) in
    let above : nat_lt b a ≡ false = le-ltb b a (omega (arith, h)) in
    let not_one : (a == b) ≡ false = grind (arith, nat_tests, h) in
    let not_other : (b == a) ≡ false = grind (arith, nat_tests, h) in
    rw (not_one, not_other, below, above) (refl, refl)

first_after : (front one other : List ℕ) → code_by (slice_get one 0) < code_by (slice_get other 0) → IsFirst (front ++ one) (front ++ other)
first_after [] one other h = first_by_byte one other h
first_after (byte ∷ front) one other h = let same : (byte == byte) ≡ true = eq-eqb byte byte refl in rw same (first_after front one other h)

first_by_code : (depth : ℕ) (front : List ℕ) → length front ≡ depth → (one other : Keyed) → HasFront front one → HasFront front other
    → code_at one.key depth < code_at other.key depth → IsFirst one.key other.key
first_by_code depth front long one other h g below =
    let at : IsFirst (front ++ h.0) (front ++ g.0) = first_after front h.0 g.0 (omega (arith, below, code_after depth front one h long, code_after depth front other g long)) in
    (ap₂ is_before h.1 g.1 ∙ at.0, ap₂ is_before g.1 h.1 ∙ at.1)

before_itself : (key : List ℕ) → is_before key key ≡ false
before_itself [] = refl
before_itself (byte ∷ key) = let same : (byte == byte) ≡ true = eq-eqb byte byte refl in rw same (before_itself key)

-- ---- two parts

put_low : (Low High : Keyed → Type 0) → ((x y : Keyed) → Low x → High y → IsFirst x.key y.key) → (own : Keyed) → Low own → (low high : List Keyed) → AllByRecursion High high
    → put_line (low ++ high) own ≡ put_line low own ++ high
put_low Low High first own l [] [] h = refl
put_low Low High first own l [] (y ∷ high) h = let t : is_before own.key y.key ≡ true = (first own y l h.0).0 in rw t refl
put_low Low High first own l (x ∷ low) high h = elim (told (is_before own.key x.key)) [
  | inl t ↦ rw t refl
  | inr t ↦ rw t (ap (λ lines. x ∷ lines) (put_low Low High first own l low high h))
]

put_high : (Low High : Keyed → Type 0) → ((x y : Keyed) → Low x → High y → IsFirst x.key y.key) → (own : Keyed) → High own → (low high : List Keyed) → AllByRecursion Low low
    → put_line (low ++ high) own ≡ low ++ put_line high own
put_high Low High first own g [] high h = refl
put_high Low High first own g (x ∷ low) high h =
    let t : is_before own.key x.key ≡ false = (first x own h.0 g).1 in
    rw t (ap (λ lines. x ∷ lines) (put_high Low High first own g low high h.1))

all_put : (P : Keyed → Type 0) (lines : List Keyed) (own : Keyed) → AllByRecursion P lines → P own → AllByRecursion P (put_line lines own)
all_put P [] own h p = (p, tt)
all_put P (x ∷ lines) own h p = elim (told (is_before own.key x.key)) [
  | inl t ↦ rw t (p, h)
  | inr t ↦ rw t (h.0, all_put P lines own h.1 p)
]

-- lines that come before all others are put before them
parted : (Low High P : Keyed → Type 0) → ((x y : Keyed) → Low x → High y → IsFirst x.key y.key) → (p : Keyed → Bool)
    → ((x : Keyed) → P x → p x ≡ true → Low x) → ((x : Keyed) → P x → p x ≡ false → High x)
    → (lines low high : List Keyed) → AllByRecursion Low low → AllByRecursion High high → AllByRecursion P lines
    → fold put_line (low ++ high) lines ≡ fold put_line low (filter p lines) ++ fold put_line high (filter (λ x. not (p x)) lines)
parted Low High P first p is_low is_high [] low high l g h = refl
parted Low High P first p is_low is_high (x ∷ lines) low high l g h = elim (told (p x)) [
  | inl t ↦ rw t (
      ap (λ done. fold put_line done lines) (put_low Low High first x (is_low x h.0 t) low high g)
      ∙ parted Low High P first p is_low is_high lines (put_line low x) high (all_put Low low x l (is_low x h.0 t)) g h.1)
  | inr t ↦ rw t (
      ap (λ done. fold put_line done lines) (put_high Low High first x (is_high x h.0 t) low high l)
      ∙ parted Low High P first p is_low is_high lines low (put_line high x) l (all_put High high x g (is_high x h.0 t)) h.1)
]

-- ---- three parts

lesser : (a b : ℕ) → nat_lt a b ≡ true → a < b
lesser a b h = grind (arith, nat_tests, h)

not_lesser : (a b : ℕ) → nat_lt a b ≡ false → b ≤ a
not_lesser a b h = grind (arith, nat_tests, h)

same_code : (a b : ℕ) → (a == b) ≡ true → a ≡ b
same_code a b h = grind (arith, nat_tests, h)

other_code : (a b : ℕ) → nat_lt a b ≡ false → (a == b) ≡ false → b < a
other_code a b h g = grind (arith, nat_tests, h, g)

only_same : (a b : ℕ) → (a == b) ≡ (not (nat_lt a b) && (a == b))
only_same a b = grind (arith, nat_tests)

only_greater : (a b : ℕ) → nat_lt b a ≡ (not (nat_lt a b) && not (a == b))
only_greater a b = grind (arith, nat_tests)

by_key-parted : (depth code : ℕ) (lines : List Keyed) → AreAlike depth lines
    → by_key lines ≡ by_key (less_than depth code lines) ++ (by_key (same_as depth code lines) ++ by_key (greater_than depth code lines))
by_key-parted depth code lines alike =
    let front : List ℕ = alike.front in
    let less : Keyed → Bool = λ own. nat_lt (code_at own.key depth) code in
    let same : Keyed → Bool = λ own. code_at own.key depth == code in
    let greater : Keyed → Bool = λ own. nat_lt code (code_at own.key depth) in
    let rest : List Keyed = filter (λ x. not (less x)) lines in
    let rests : AllByRecursion (λ (x : Keyed). HasFront front x × (not (less x) ≡ true)) rest = all_kept (HasFront front) (λ x. not (less x)) lines alike.each in
    let one : by_key lines ≡ by_key (filter less lines) ++ by_key rest =
    parted (λ (x : Keyed). HasFront front x × (code_at x.key depth < code)) (λ (x : Keyed). HasFront front x × (code ≤ code_at x.key depth)) (HasFront front)
    (λ x y l h. first_by_code depth front alike.long x y l.0 h.0 (omega (arith, l.1, h.1))) less
    (λ x h t. (h, lesser (code_at x.key depth) code t)) (λ x h t. (h, not_lesser (code_at x.key depth) code t)) lines [] [] tt tt alike.each in
    let two : by_key rest ≡ by_key (filter same rest) ++ by_key (filter (λ x. not (same x)) rest) =
    parted (λ (x : Keyed). HasFront front x × (code_at x.key depth ≡ code)) (λ (x : Keyed). HasFront front x × (code < code_at x.key depth)) (λ (x : Keyed). HasFront front x × (not (less x) ≡ true))
    (λ x y l h. first_by_code depth front alike.long x y l.0 h.0 (omega (arith, l.1, h.1))) same
    (λ x h t. (h.0, same_code (code_at x.key depth) code t)) (λ x h t. (h.0, other_code (code_at x.key depth) code (not_true (less x) h.1) t)) rest [] [] tt tt rests in
    let same_left : filter same rest ≡ filter same lines = filter_then (λ x. not (less x)) same same (λ x. only_same (code_at x.key depth) code) lines in
    let greater_left : filter (λ x. not (same x)) rest ≡ filter greater lines = filter_then (λ x. not (less x)) (λ x. not (same x)) greater (λ x. only_greater (code_at x.key depth) code) lines in
    one ∙ ap (λ l. by_key (filter less lines) ++ l) (two ∙ ap₂ (λ a b. by_key a ++ by_key b) same_left greater_left)
  where
    not_true : (b : Bool) → not b ≡ true → b ≡ false
    not_true true h = sym h
    not_true false h = refl

shown-parted : (depth code : ℕ) (lines : List Keyed) → AreAlike depth lines
    → shown_index lines ≡ shown_index (less_than depth code lines) ++ (shown_index (same_as depth code lines) ++ shown_index (greater_than depth code lines))
shown-parted depth code lines alike =
    let less : List Keyed = by_key (less_than depth code lines) in
    let same : List Keyed = by_key (same_as depth code lines) in
    let greater : List Keyed = by_key (greater_than depth code lines) in
    ap (flat_map index_line) (by_key-parted depth code lines alike)
    ∙ flat_map-append index_line less (same ++ greater)
    ∙ ap (λ l. flat_map index_line less ++ l) (flat_map-append index_line same greater)

-- ---- lines of one key

abbrev HasKey : List ℕ → Keyed → Type 0
HasKey key own = own.key ≡ key

put_last : (key : List ℕ) (lines : List Keyed) (own : Keyed) → AllByRecursion (HasKey key) lines → own.key ≡ key → put_line lines own ≡ lines ++ own ∷ []
put_last key [] own h e = refl
put_last key (x ∷ lines) own h e =
    let t : is_before own.key x.key ≡ false = ap₂ is_before e h.0 ∙ before_itself key in
    rw t (ap (λ l. x ∷ l) (put_last key lines own h.1 e))

put_all : (key : List ℕ) (lines done : List Keyed) → AllByRecursion (HasKey key) done → AllByRecursion (HasKey key) lines → fold put_line done lines ≡ done ++ lines
put_all key [] done d h = sym (append-nil done)
put_all key (x ∷ lines) done d h =
    ap (λ l. fold put_line l lines) (put_last key done x d h.0)
    ∙ put_all key lines (done ++ x ∷ []) (all_pushed (HasKey key) done x d h.0) h.1
    ∙ append_assoc done (x ∷ []) lines

shown-same : (key : List ℕ) (lines : List Keyed) → AllByRecursion (HasKey key) lines → shown_index lines ≡ flat_map index_line lines
shown-same key lines h = ap (flat_map index_line) (put_all key lines [] tt h)

no_byte : (rest : List ℕ) → code_by (slice_get rest 0) ≡ 0 → rest ≡ []
no_byte [] h = refl
no_byte (byte ∷ rest) h = absurd (omega (arith, h))

-- keys that end at the depth are the same
ended : (depth : ℕ) (front : List ℕ) (lines : List Keyed) → length front ≡ depth → AllByRecursion (HasFront front) lines → AllByRecursion (HasKey front) (same_as depth 0 lines)
ended depth front lines long each =
    all_mapped (λ (x : Keyed). HasFront front x × ((code_at x.key depth == 0) ≡ true)) (HasKey front)
    (λ x h. h.0.1 ∙ ap (λ r. front ++ r) (no_byte h.0.0 (sym (code_after depth front x h.0 long) ∙ same_code (code_at x.key depth) 0 h.1)) ∙ append-nil front)
    (same_as depth 0 lines) (all_kept (HasFront front) (λ x. code_at x.key depth == 0) lines each)

none_less : (depth : ℕ) (lines : List Keyed) → less_than depth 0 lines ≡ []
none_less depth [] = refl
none_less depth (x ∷ lines) = let t : nat_lt (code_at x.key depth) 0 ≡ false = le-ltb (code_at x.key depth) 0 (omega arith) in rw t (none_less depth lines)

-- ---- what is alike

kept_alike : (depth : ℕ) (p : Keyed → Bool) (lines : List Keyed) → AreAlike depth lines → AreAlike depth (filter p lines)
kept_alike depth p lines alike = record {
  front = alike.front;
  long = alike.long;
  each = all_mapped (λ (x : Keyed). HasFront alike.front x × (p x ≡ true)) (HasFront alike.front) (λ x h. h.0) (filter p lines) (all_kept (HasFront alike.front) p lines alike.each);
}

with_byte : (byte : ℕ) (rest : List ℕ) → code_by (slice_get rest 0) ≡ suc byte → (later : List ℕ) × (rest ≡ byte ∷ later)
with_byte byte [] h = absurd (omega (arith, h))
with_byte byte (b ∷ rest) h = let same : b ≡ byte = omega (arith, h) in (rest, ap (λ n. n ∷ rest) same)

-- those with the same byte are alike in one byte more
more_alike : (depth byte : ℕ) (lines : List Keyed) → AreAlike depth lines → AreAlike (depth + 1) (same_as depth (suc byte) lines)
more_alike depth byte lines alike =
    let front : List ℕ = alike.front in
    record {
      front = front ++ byte ∷ [];
      long = length_more front ∙ ap (λ n. n + 1) alike.long;
      each = all_mapped (λ (x : Keyed). HasFront front x × ((code_at x.key depth == suc byte) ≡ true)) (HasFront (front ++ byte ∷ []))
          (λ x h. next front x h.0 (with_byte byte h.0.0 (sym (code_after depth front x h.0 alike.long) ∙ same_code (code_at x.key depth) (suc byte) h.1)))
          (same_as depth (suc byte) lines) (all_kept (HasFront front) (λ x. code_at x.key depth == suc byte) lines alike.each);
    }
  where
    length_more : (xs : List ℕ) → length (xs ++ byte ∷ []) ≡ length xs + 1
    length_more [] = refl
    length_more (x ∷ xs) = let later : length (xs ++ byte ∷ []) ≡ length xs + 1 = length_more xs in omega (arith, later)

    next : (front : List ℕ) (x : Keyed) (h : HasFront front x) → (later : List ℕ) × (h.0 ≡ byte ∷ later) → HasFront (front ++ byte ∷ []) x
    next front x h later = (later.0, h.1 ∙ ap (λ r. front ++ r) later.1 ∙ sym (append_assoc front (byte ∷ []) later.0))

-- ---- weights

weights-push : (groups : List Group) (group : Group) → weights (groups ++ group ∷ []) ≡ weight group.depth (lines_of group) + weights groups
weights-push [] group = refl
weights-push (own ∷ groups) group = let later : weights (groups ++ group ∷ []) ≡ weight group.depth (lines_of group) + weights groups = weights-push groups group in omega (arith, later)

weight-parted : (depth code : ℕ) (lines : List Keyed)
    → weight depth (less_than depth code lines) + weight depth (same_as depth code lines) + weight depth (greater_than depth code lines) ≡ weight depth lines + 2
weight-parted depth code [] = refl
weight-parted depth code (x ∷ lines) =
    let later : weight depth (less_than depth code lines) + weight depth (same_as depth code lines) + weight depth (greater_than depth code lines) ≡ weight depth lines + 2 = weight-parted depth code lines in
    let own : ℕ = code_at x.key depth in
    elim (told (nat_lt own code)) [
      | inl t ↦ (
          let u : (own == code) ≡ false = grind (arith, nat_tests, t) in
          let v : nat_lt code own ≡ false = grind (arith, nat_tests, t) in
          rw (t, u, v) (omega (arith, later)))
      | inr t ↦ elim (told (own == code)) [
        | inl u ↦ (
            let v : nat_lt code own ≡ false = grind (arith, nat_tests, u) in
            rw (t, u, v) (omega (arith, later)))
        | inr u ↦ (
            let v : nat_lt code own ≡ true = grind (arith, nat_tests, t, u) in
            rw (t, u, v) (omega (arith, later)))
      ]
    ]

some_weight : (depth : ℕ) (lines : List Keyed) → 1 ≤ weight depth lines
some_weight depth [] = omega arith
some_weight depth (x ∷ lines) = let later : 1 ≤ weight depth lines = some_weight depth lines in omega (arith, later)

abbrev IsLonger : ℕ → Keyed → Type 0
IsLonger depth own = depth < length own.key + 1

weight-some : (depth : ℕ) (lines : List Keyed) → AllByRecursion (IsLonger depth) lines → length lines + 1 ≤ weight depth lines
weight-some depth [] h = omega arith
weight-some depth (x ∷ lines) h = let later : length lines + 1 ≤ weight depth lines = weight-some depth lines h.1 in omega (arith, later, h.0)

weight-next : (depth : ℕ) (lines : List Keyed) → AllByRecursion (IsLonger (depth + 1)) lines → weight (depth + 1) lines + length lines * 3 ≤ weight depth lines
weight-next depth [] h = omega arith
weight-next depth (x ∷ lines) h = let later : weight (depth + 1) lines + length lines * 3 ≤ weight depth lines = weight-next depth lines h.1 in omega (arith, later, h.0)

length_front : (front rest : List ℕ) → length front ≤ length (front ++ rest)
length_front [] rest = omega arith
length_front (b ∷ front) rest = let later : length front ≤ length (front ++ rest) = length_front front rest in omega (arith, later)

alike_longer : (depth : ℕ) (lines : List Keyed) → AreAlike depth lines → AllByRecursion (IsLonger depth) lines
alike_longer depth lines alike =
    let front : List ℕ = alike.front in
    all_mapped (HasFront front) (IsLonger depth)
    (λ x h. let same : length x.key ≡ length (front ++ h.0) = ap length h.1 in omega (arith, same, length_front front h.0, alike.long)) lines alike.each

-- ---- what is shown, and what stands in groups

shown-push : (groups : List Group) (group : Group) → shown_groups (groups ++ group ∷ []) ≡ shown_index (lines_of group) ++ shown_groups groups
shown-push groups group = ap (flat_map (λ (own : Group). shown_index (lines_of own))) (reverse-append groups (group ∷ []))

few : (lines : List Keyed) → length lines ≤ 1 → shown_index lines ≡ flat_map index_line lines
few [] h = refl
few (x ∷ []) h = refl
few (x ∷ y ∷ lines) h = absurd (omega (arith, h))

pub shows_few : (depth : ℕ) (lines : List Keyed) (before now : List ℕ) (groups : List Group) → length lines ≤ 1 → now ≡ before ++ flat_map index_line lines → Shows depth lines before now groups groups
shows_few depth lines before now groups h text =
    let weighs : 1 ≤ weight depth lines = some_weight depth lines in
    record {
      shown =
          ap (λ l. l ++ shown_groups groups) (text ∙ ap (λ l. before ++ l) (sym (few lines h)))
          ∙ append_assoc before (shown_index lines) (shown_groups groups);
      alike = λ h. h;
      lighter = omega (arith, weighs);
    }

-- a group of no lines
pub shows_none : (depth : ℕ) (items : List (Bor Keyed)) (text : List ℕ) (groups : List Group) → slice_get items (length items / 2) ≡ None → Shows depth (pointed items) text text groups groups
shows_none depth items text groups h =
    let none : length items ≡ 0 = (let later : length items ≤ length items / 2 = past_end items (length items / 2) h in omega (arith, later)) in
    shows_few depth (pointed items) text text groups (omega (arith, length-map items (λ (one : Bor Keyed). one.now), none)) (sym (ap (λ l. text ++ flat_map index_line (pointed l)) (none_left items none) ∙ append-nil text))

at_pointed : (items : List (Bor Keyed)) (k : ℕ) (line : Bor Keyed) → slice_get items k ≡ Some line → slice_get (pointed items) k ≡ Some line.now
at_pointed [] k line h = absurd (cc (h))
at_pointed (x ∷ items) zero line h = let same : x ≡ line = cc in ap (λ (one : Bor Keyed). Some one.now) same
at_pointed (x ∷ items) (suc k) line h = at_pointed items k line h

shows_ended : (depth : ℕ) (lines same : List Keyed) (before now : List ℕ) (old new : List Group) (greater : Group)
    → AreAlike depth lines → 1 ≤ length same → greater.depth ≡ depth → same ≡ same_as depth 0 lines → lines_of greater ≡ greater_than depth 0 lines
    → now ≡ before ++ flat_map index_line same → new ≡ old ++ greater ∷ []
    → Shows depth lines before now old new
shows_ended depth lines same before now old new greater alike has deep is_same is_greater text pushed =
    let rest : List ℕ = shown_groups old in
    let whole : flat_map index_line same ++ shown_index (lines_of greater) ≡ shown_index lines =
    ap₂ (λ a b. a ++ b) (ap (flat_map index_line) is_same ∙ sym (shown-same alike.front (same_as depth 0 lines) (ended depth alike.front lines alike.long alike.each))) (ap shown_index is_greater)
    ∙ sym (shown-parted depth 0 lines alike ∙ ap (λ l. shown_index l ++ (shown_index (same_as depth 0 lines) ++ shown_index (greater_than depth 0 lines))) (none_less depth lines)) in
    let less_weighs : 1 ≤ weight depth (less_than depth 0 lines) = some_weight depth (less_than depth 0 lines) in
    let same_weighs : length same + 1 ≤ weight depth same =
    subst (λ l. length l + 1 ≤ weight depth l) (sym is_same) (weight-some depth (same_as depth 0 lines) (alike_longer depth (same_as depth 0 lines) (kept_alike depth (λ own. code_at own.key depth == 0) lines alike))) in
    let same_is : weight depth same ≡ weight depth (same_as depth 0 lines) = ap (weight depth) is_same in
    let greater_is : weight greater.depth (lines_of greater) ≡ weight depth (greater_than depth 0 lines) = ap₂ weight deep is_greater in
    let all_weigh : weights new ≡ weight greater.depth (lines_of greater) + weights old = ap weights pushed ∙ weights-push old greater in
    record {
      shown =
          ap₂ (λ (t : List ℕ) (gs : List Group). t ++ shown_groups gs) text pushed
          ∙ ap (λ l. (before ++ flat_map index_line same) ++ l) (shown-push old greater)
          ∙ append_assoc before (flat_map index_line same) (shown_index (lines_of greater) ++ rest)
          ∙ ap (λ l. before ++ l) (sym (append_assoc (flat_map index_line same) (shown_index (lines_of greater)) rest) ∙ ap (λ l. l ++ rest) whole);
      alike = λ h. subst (AllByRecursion IsAlike) (sym pushed)
          (all_pushed IsAlike old greater h (subst₂ AreAlike (sym deep) (sym is_greater) (kept_alike depth (λ own. nat_lt 0 (code_at own.key depth)) lines alike)));
      lighter = omega (arith, has, less_weighs, same_weighs, same_is, greater_is, all_weigh, weight-parted depth 0 lines);
    }

shows_parted : (depth byte : ℕ) (lines : List Keyed) (before now : List ℕ) (old new : List Group) (less same greater : Group)
    → AreAlike depth lines → 1 ≤ length (lines_of same) → greater.depth ≡ depth → same.depth ≡ depth + 1 → less.depth ≡ depth
    → lines_of less ≡ less_than depth (suc byte) lines → lines_of same ≡ same_as depth (suc byte) lines → lines_of greater ≡ greater_than depth (suc byte) lines
    → now ≡ before → new ≡ ((old ++ greater ∷ []) ++ same ∷ []) ++ less ∷ []
    → Shows depth lines before now old new
shows_parted depth byte lines before now old new less same greater alike has greater_deep same_deep less_deep is_less is_same is_greater text pushed =
    let code : ℕ = suc byte in
    let rest : List ℕ = shown_groups old in
    let one : List Group = old ++ greater ∷ [] in
    let two : List Group = one ++ same ∷ [] in
    let whole : shown_index (lines_of less) ++ (shown_index (lines_of same) ++ shown_index (lines_of greater)) ≡ shown_index lines =
    ap (λ l. shown_index l ++ (shown_index (lines_of same) ++ shown_index (lines_of greater))) is_less
    ∙ ap₂ (λ a b. shown_index (less_than depth code lines) ++ (shown_index a ++ shown_index b)) is_same is_greater
    ∙ sym (shown-parted depth code lines alike) in
    let same_alike : AreAlike (depth + 1) (same_as depth code lines) = more_alike depth byte lines alike in
    let next_weighs : weight (depth + 1) (same_as depth code lines) + length (same_as depth code lines) * 3 ≤ weight depth (same_as depth code lines) =
    weight-next depth (same_as depth code lines) (alike_longer (depth + 1) (same_as depth code lines) same_alike) in
    let long : length (lines_of same) ≡ length (same_as depth code lines) = ap length is_same in
    let less_is : weight less.depth (lines_of less) ≡ weight depth (less_than depth code lines) = ap₂ weight less_deep is_less in
    let same_is : weight same.depth (lines_of same) ≡ weight (depth + 1) (same_as depth code lines) = ap₂ weight same_deep is_same in
    let greater_is : weight greater.depth (lines_of greater) ≡ weight depth (greater_than depth code lines) = ap₂ weight greater_deep is_greater in
    let all_weigh : weights new ≡ weight less.depth (lines_of less) + (weight same.depth (lines_of same) + (weight greater.depth (lines_of greater) + weights old)) =
    ap weights pushed ∙ weights-push two less ∙ ap (λ n. weight less.depth (lines_of less) + n) (weights-push one same ∙ ap (λ n. weight same.depth (lines_of same) + n) (weights-push old greater)) in
    record {
      shown =
          ap₂ (λ (t : List ℕ) (gs : List Group). t ++ shown_groups gs) text pushed
          ∙ ap (λ l. before ++ l) (
          shown-push two less
          ∙ ap (λ l. shown_index (lines_of less) ++ l) (
          shown-push one same
          ∙ ap (λ l. shown_index (lines_of same) ++ l) (shown-push old greater)
          ∙ sym (append_assoc (shown_index (lines_of same)) (shown_index (lines_of greater)) rest))
          ∙ sym (append_assoc (shown_index (lines_of less)) (shown_index (lines_of same) ++ shown_index (lines_of greater)) rest)
          ∙ ap (λ l. l ++ rest) whole);
      alike = λ h. subst (AllByRecursion IsAlike) (sym pushed)
          (all_pushed IsAlike two less
          (all_pushed IsAlike one same
          (all_pushed IsAlike old greater h (subst₂ AreAlike (sym greater_deep) (sym is_greater) (kept_alike depth (λ own. nat_lt code (code_at own.key depth)) lines alike)))
          (subst₂ AreAlike (sym same_deep) (sym is_same) same_alike))
          (subst₂ AreAlike (sym less_deep) (sym is_less) (kept_alike depth (λ own. nat_lt (code_at own.key depth) code) lines alike)));
      lighter = omega (arith, has, long, next_weighs, less_is, same_is, greater_is, all_weigh, weight-parted depth code lines);
    }

code-past : (key : List ℕ) (depth : ℕ) → length key ≤ depth → code_at key depth ≡ 0
code-past [] depth h = refl
code-past (byte ∷ key) zero h = absurd (omega (arith, h))
code-past (byte ∷ key) (suc depth) h = code-past key depth (omega (arith, h))

code-within : (key : List ℕ) (depth : ℕ) → depth < length key → (byte : ℕ) × (code_at key depth ≡ suc byte)
code-within [] depth h = absurd (omega (arith, h))
code-within (byte ∷ key) zero h = (byte, refl)
code-within (byte ∷ key) (suc depth) h = code-within key depth (omega (arith, h))

-- a line at a place is one of those with its byte
same_filled : (depth code k : ℕ) (lines : List Keyed) (middle : Keyed) → slice_get lines k ≡ Some middle → code_at middle.key depth ≡ code → 1 ≤ length (same_as depth code lines)
same_filled depth code k lines middle at own = kept_one (λ x. code_at x.key depth == code) lines k middle at (eq-eqb (code_at middle.key depth) code own)

same_there : (depth code : ℕ) (items lent : List (Bor Keyed)) (line : Bor Keyed) (key : List ℕ) → lent ≡ items → Some line ≡ slice_get lent (length lent / 2) → key ≡ line.now.key → code_at key depth ≡ code
    → 1 ≤ length (same_as depth code (pointed items))
same_there depth code items lent line key lends at is own =
    subst (λ l. 1 ≤ length (same_as depth code (pointed l))) lends
    (same_filled depth code (length lent / 2) (pointed lent) line.now (at_pointed lent (length lent / 2) line (sym at)) (ap (λ k. code_at k depth) (sym is) ∙ own))

-- the line in the middle ends at the depth
pub group_ended : (depth code : ℕ) (items lent loan : List (Bor Keyed)) (line : Bor Keyed) (key : List ℕ) (parts : Parts) (before now : List ℕ) (old new : List Group) (greater : Group)
    → AreAlike depth (pointed items) → lent ≡ items → Some line ≡ slice_get lent (length lent / 2) → key ≡ line.now.key → length key ≤ depth
    → loan ≡ items → code ≡ code_at key depth → ArePartsOf (pointed loan) depth code parts
    → lines_of greater ≡ pointed parts.greater.items → greater.depth ≡ depth → now ≡ before ++ flat_map index_line (pointed parts.same.items) → new ≡ old ++ greater ∷ []
    → Shows depth (pointed items) before now old new
group_ended depth code items lent loan line key parts before now old new greater alike lends at is past loans code_is are greater_is deep text pushed =
    let none : code_at key depth ≡ 0 = code-past key depth past in
    let own : ArePartsOf (pointed items) depth 0 parts = subst₂ (λ (l : List (Bor Keyed)) n. ArePartsOf (pointed l) depth n parts) loans (code_is ∙ none) are in
    shows_ended depth (pointed items) (pointed parts.same.items) before now old new greater alike
    (subst (λ l. 1 ≤ length l) (sym own.same) (same_there depth 0 items lent line key lends at is none))
    deep own.same (greater_is ∙ own.greater) text pushed

-- it has a byte there
pub group_parted : (depth code : ℕ) (items lent loan : List (Bor Keyed)) (line : Bor Keyed) (key : List ℕ) (parts : Parts) (text : List ℕ) (old one two new : List Group) (less same greater : Group)
    → AreAlike depth (pointed items) → lent ≡ items → Some line ≡ slice_get lent (length lent / 2) → key ≡ line.now.key → depth < length key
    → loan ≡ items → code ≡ code_at key depth → ArePartsOf (pointed loan) depth code parts
    → lines_of greater ≡ pointed parts.greater.items → lines_of same ≡ pointed parts.same.items → lines_of less ≡ pointed parts.less.items
    → greater.depth ≡ depth → same.depth ≡ depth + 1 → less.depth ≡ depth
    → one ≡ old ++ greater ∷ [] → two ≡ one ++ same ∷ [] → new ≡ two ++ less ∷ []
    → Shows depth (pointed items) text text old new
group_parted depth code items lent loan line key parts text old one two new less same greater alike lends at is within loans code_is are greater_is same_is less_is greater_deep same_deep less_deep first second third =
    let some = code-within key depth within in
    let own : ArePartsOf (pointed items) depth (suc some.0) parts = subst₂ (λ (l : List (Bor Keyed)) n. ArePartsOf (pointed l) depth n parts) loans (code_is ∙ some.1) are in
    shows_parted depth some.0 (pointed items) text text old new less same greater alike
    (subst (λ l. 1 ≤ length l) (sym (same_is ∙ own.same)) (same_there depth (suc some.0) items lent line key lends at is some.1))
    greater_deep same_deep less_deep (less_is ∙ own.less) (same_is ∙ own.same) (greater_is ∙ own.greater) refl
    (third ∙ ap (λ gs. gs ++ less ∷ []) (second ∙ ap (λ gs. gs ++ same ∷ []) first))

-- ---- all lines

all_alike : (lines : List Keyed) → AreAlike 0 lines
all_alike lines = record { front = []; long = refl; each = each lines }
  where
    each : (lines : List Keyed) → AllByRecursion (HasFront []) lines
    each [] = tt
    each (x ∷ lines) = ((x.key, refl), each lines)

-- the last group, before those under it
pub popped : (text : List ℕ) (groups rest : List Group) (group : Group) (whole : List ℕ) → groups ≡ rest ++ group ∷ [] → text ++ shown_groups groups ≡ whole
    → text ++ (shown_index (lines_of group) ++ shown_groups rest) ≡ whole
popped text groups rest group whole e h = ap (λ l. text ++ l) (sym (ap shown_groups e ∙ shown-push rest group)) ∙ h

pub popped-weight : (groups rest : List Group) (group : Group) → groups ≡ rest ++ group ∷ [] → weights groups ≡ weight group.depth (lines_of group) + weights rest
popped-weight groups rest group e = ap weights e ∙ weights-push rest group

-- ---- the first group

only_one : (none groups : List Group) (group : Group) → none ≡ [] → groups ≡ none ++ group ∷ [] → groups ≡ group ∷ []
only_one none groups group first pushed = pushed ∙ ap (λ gs. gs ++ group ∷ []) first

pub started-shown : (text : List ℕ) (none groups : List Group) (group : Group) (all : List Keyed) → none ≡ [] → groups ≡ none ++ group ∷ [] → lines_of group ≡ all
    → text ++ shown_groups groups ≡ text ++ shown_index all
started-shown text none groups group all first pushed is =
    ap (λ l. text ++ l) (ap shown_groups (only_one none groups group first pushed) ∙ append-nil (shown_index (lines_of group)) ∙ ap shown_index is)

pub started-alike : (none groups : List Group) (group : Group) → none ≡ [] → groups ≡ none ++ group ∷ [] → group.depth ≡ 0 → AllByRecursion IsAlike groups
started-alike none groups group first pushed deep =
    subst (AllByRecursion IsAlike) (sym (only_one none groups group first pushed)) (subst (λ d. AreAlike d (lines_of group)) (sym deep) (all_alike (lines_of group)), tt)

pub popped-alike : (groups rest : List Group) (group : Group) → groups ≡ rest ++ group ∷ [] → AllByRecursion IsAlike groups → AllByRecursion IsAlike rest × IsAlike group
popped-alike groups rest group e h = all_front IsAlike rest group (subst (AllByRecursion IsAlike) e h)
