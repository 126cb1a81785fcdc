-- How the entries of an order, the places and the counts change together.
use Rattle.std.proofs.Common.{◌≡◌, ◌≢◌, ℕ, zero, suc, ◌+◌, ◌-◌, ◌*◌, ◌<◌, ◌≤◌, ◌/◌, Bool, true, false, not, cond, eqb, ◌||◌, ◌&&◌, ◌⊎◌, inl, inr, List, [], ◌∷◌, ◌++◌, length, take, drop, set, get_or, refl, sym, ◌∙◌, ap, subst, arith}
use Rattle.std.specs.List.{filter, count_by, list_any}
use Rattle.std.proofs.lemmas.Bool.{cases_eq, cases_lt, eqb-true, eq-eqb, ne_eqb, both_ways, not_from_false, or_parts}
use Rattle.std.proofs.lemmas.Bool.Decides.{nat_tests}
use Rattle.std.proofs.lemmas.List.{length-append, length-set, length-drop, length-take, get_or_append_left, get_or_at, get_or_push, get_or-append_right, get_or-set_same, get_or-set_other, get_or-take, get_or-drop, get_or_default, take-append-drop, take-append-le, take_all, take-set-le, drop-drop, drop-append-le, drop_all, drop-set-lt, drop-set-add}
use Rattle.std.proofs.Math.Seq.{take-set-lt}
use Rattle.std.proofs.lemmas.List.Sums.{sum_by_push, sum_by-set, sum_by-take-le, count_by_more_yes, length-filter, count_by-le-length, get_or-le-sum_by}
use Rattle.std.proofs.lemmas.List.Elements.{filter-append}
use Rattle.std.proofs.lemmas.List.Folds.{list_any_at, Any-from_list_any}
use Rattle.std.proofs.lemmas.Map.Views.{any-filter_same}
use Rattle.dep_index.specs.Table.Ordered.{Ordered, is_slot, slots_in, AreWithin, IsPlaced, IsCounted, IsSound}

abbrev part : List ℕ → ℕ → List ℕ
part xs n = take 256 (drop n xs)

-- a part that ends within the list is the same of a longer list
part_before : (xs ys : List ℕ) (n : ℕ) → n + 256 ≤ length xs → part (xs ++ ys) n ≡ part xs n
part_before xs ys n within =
    ap (take 256) (drop-append-le n xs ys (omega arith))
    ∙ take-append-le 256 (drop n xs) ys (omega (arith, length-drop n xs))

-- a part that the list ends in is one longer with one more
part_at : (xs : List ℕ) (y n : ℕ) → n ≤ length xs → length xs < n + 256 → part (xs ++ y ∷ []) n ≡ part xs n ++ y ∷ []
part_at xs y n low high =
    ap (take 256) (drop-append-le n xs (y ∷ []) low)
    ∙ take_all 256 (drop n xs ++ y ∷ []) (omega (arith, length-append (drop n xs) (y ∷ []), length-drop n xs))
    ∙ ap (λ (zs : List ℕ). zs ++ y ∷ []) (sym (take_all 256 (drop n xs) (omega (arith, length-drop n xs))))

-- a part behind the list is empty
part_past : (xs : List ℕ) (n : ℕ) → length xs ≤ n → part xs n ≡ []
part_past xs n past = ap (take 256) (drop_all n xs past)

part_past_more : (xs : List ℕ) (y n : ℕ) → length xs < n → part (xs ++ y ∷ []) n ≡ part xs n
part_past_more xs y n past = part_past (xs ++ y ∷ []) n (omega (arith, length-append xs (y ∷ []))) ∙ sym (part_past xs n (omega arith))

count_one_more : (xs ys : List ℕ) (y : ℕ) → ys ≡ xs ++ y ∷ [] → is_slot y ≡ true → count_by is_slot ys ≡ count_by is_slot xs + 1
count_one_more xs ys y e slot = ap (count_by is_slot) e ∙ sum_by_push (λ z. cond (is_slot z) 1 0) xs y ∙ ap (λ (b : Bool). count_by is_slot xs + cond b 1 0) slot

-- a part's count has room for one more in a shorter part
part_short : (xs : List ℕ) (n : ℕ) → count_by is_slot (part xs n) ≤ 256
part_short xs n = omega (arith, count_by-le-length is_slot (part xs n), length-take 256 (drop n xs))

pub counts_small : (counts xs : List ℕ) → IsCounted counts xs → (block : ℕ) → get_or counts block 0 ≤ 256
counts_small counts xs counted block = subst (λ (c : ℕ). c ≤ 256) (sym (counted block)) (part_short xs (block * 256))

-- the counts with one more slot behind the entries
pub counted_push : (counts xs : List ℕ) (y q c : ℕ) → IsCounted counts xs → is_slot y ≡ true → q ≡ length xs / 256 → c ≡ get_or counts q 0 + 1 → length xs < 256 * length counts → IsCounted (set counts q c) (xs ++ y ∷ [])
counted_push counts xs y q c counted slot is one room k = at (cases_eq k q) where
  at : (k ≡ q) ⊎ (k ≡ q → ⊥) → get_or (set counts q c) k 0 ≡ count_by is_slot (part (xs ++ y ∷ []) (k * 256))
  at (inl e) =
      let here : get_or (set counts q c) k 0 ≡ c = subst (λ (j : ℕ). get_or (set counts q c) j 0 ≡ c) (sym e) (get_or-set_same counts q c 0 (omega arith)) in
      let old : get_or counts k 0 ≡ count_by is_slot (part xs (k * 256)) = counted k in
      let old' : get_or counts q 0 ≡ count_by is_slot (part xs (k * 256)) = subst (λ (j : ℕ). get_or counts j 0 ≡ count_by is_slot (part xs (k * 256))) e old in
      here ∙ one ∙ ap (λ (n : ℕ). n + 1) old' ∙ sym (count_one_more (part xs (k * 256)) (part (xs ++ y ∷ []) (k * 256)) y (part_at xs y (k * 256) (omega arith) (omega arith)) slot)
  at (inr ne) = get_or-set_other counts q k c 0 ne ∙ counted k ∙ ap (count_by is_slot) (sym (same (cases_lt k q))) where
    same : (k < q) ⊎ (q ≤ k) → part (xs ++ y ∷ []) (k * 256) ≡ part xs (k * 256)
    same (inl before) = part_before xs (y ∷ []) (k * 256) (omega arith)
    same (inr past) = part_past_more xs y (k * 256) (omega arith)

-- a write before or behind a part leaves it
part_set_other : (xs : List ℕ) (p y n : ℕ) → (p < n) ⊎ (n + 256 ≤ p) → part (set xs p y) n ≡ part xs n
part_set_other xs p y n (inl before) = ap (take 256) (drop-set-lt n xs p y before)
part_set_other xs p y n (inr behind) =
    let at : p ≡ n + (p - n) = omega arith in
    ap (λ (i : ℕ). take 256 (drop n (set xs i y))) at
    ∙ ap (take 256) (drop-set-add n xs (p - n) y)
    ∙ take-set-le 256 (drop n xs) (p - n) y (omega arith)

part_set_here : (xs : List ℕ) (j y n : ℕ) → j < 256 → part (set xs (n + j) y) n ≡ set (part xs n) j y
part_set_here xs j y n within = ap (take 256) (drop-set-add n xs j y) ∙ take-set-lt 256 (drop n xs) j y within

part_get : (xs : List ℕ) (j n d : ℕ) → j < 256 → get_or (part xs n) j d ≡ get_or xs (n + j) d
part_get xs j n d within = get_or-take 256 (drop n xs) j d within ∙ get_or-drop n xs j d

count_one_less : (xs : List ℕ) (j : ℕ) → j < length xs → is_slot (get_or xs j 0) ≡ true → count_by is_slot (set xs j 65535) + 1 ≡ count_by is_slot xs
count_one_less xs j within slot =
    let e : count_by is_slot (set xs j 65535) + cond (is_slot (get_or xs j 0)) 1 0 ≡ count_by is_slot xs + 0 = sum_by-set (λ z. cond (is_slot z) 1 0) xs j 65535 0 within in
    let e' : count_by is_slot (set xs j 65535) + 1 ≡ count_by is_slot xs + 0 = rw slot at e in
    omega (arith, e')

-- the count of the block in which a slot stands is not 0
pub counted_some : (counts xs : List ℕ) (p q : ℕ) → IsCounted counts xs → p < length xs → is_slot (get_or xs p 0) ≡ true → q ≡ p / 256 → 0 < get_or counts q 0
counted_some counts xs p q counted within slot is =
    let j : ℕ = p - q * 256 in
    let at : p ≡ q * 256 + j = omega arith in
    let low : j < 256 = omega arith in
    let here : get_or (part xs (q * 256)) j 0 ≡ get_or xs p 0 = part_get xs j (q * 256) 0 low ∙ ap (λ (i : ℕ). get_or xs i 0) (sym at) in
    let one : ℕ = 1 in
    let some : cond (is_slot (get_or (part xs (q * 256)) j 0)) 1 0 ≡ one = ap (λ (x : ℕ). cond (is_slot x) 1 0) here ∙ ap (λ (b : Bool). cond b 1 0) slot in
    let long : j < length (part xs (q * 256)) = omega (arith, length-take 256 (drop (q * 256) xs), length-drop (q * 256) xs) in
    let le : cond (is_slot (get_or (part xs (q * 256)) j 0)) 1 0 ≤ count_by is_slot (part xs (q * 256)) = get_or-le-sum_by (λ z. cond (is_slot z) 1 0) (part xs (q * 256)) j 0 long in
    omega (arith, some, le, counted q)

-- the counts with a gap where a slot stood
pub counted_gap : (counts xs : List ℕ) (p q c : ℕ) → IsCounted counts xs → p < length xs → is_slot (get_or xs p 0) ≡ true → q ≡ p / 256 → c + 1 ≡ get_or counts q 0 → length xs ≤ 256 * length counts → IsCounted (set counts q c) (set xs p 65535)
counted_gap counts xs p q c counted within slot is one room k = at (cases_eq k q) where
  at : (k ≡ q) ⊎ (k ≡ q → ⊥) → get_or (set counts q c) k 0 ≡ count_by is_slot (part (set xs p 65535) (k * 256))
  at (inl e) =
      let j : ℕ = p - k * 256 in
      let place : p ≡ k * 256 + j = omega arith in
      let low : j < 256 = omega arith in
      let here : get_or (set counts q c) k 0 ≡ c = subst (λ (i : ℕ). get_or (set counts q c) i 0 ≡ c) (sym e) (get_or-set_same counts q c 0 (omega arith)) in
      let old : get_or counts q 0 ≡ count_by is_slot (part xs (k * 256)) = subst (λ (i : ℕ). get_or counts i 0 ≡ count_by is_slot (part xs (k * 256))) e (counted k) in
      let long : j < length (part xs (k * 256)) = omega (arith, length-take 256 (drop (k * 256) xs), length-drop (k * 256) xs) in
      let same : get_or (part xs (k * 256)) j 0 ≡ get_or xs p 0 = part_get xs j (k * 256) 0 low ∙ ap (λ (i : ℕ). get_or xs i 0) (sym place) in
      let less : count_by is_slot (set (part xs (k * 256)) j 65535) + 1 ≡ count_by is_slot (part xs (k * 256)) = count_one_less (part xs (k * 256)) j long (ap is_slot same ∙ slot) in
      let after : part (set xs p 65535) (k * 256) ≡ set (part xs (k * 256)) j 65535 = ap (λ (i : ℕ). part (set xs i 65535) (k * 256)) place ∙ part_set_here xs j 65535 (k * 256) low in
      here ∙ omega (arith, less, old, one, ap (count_by is_slot) after)
  at (inr ne) = get_or-set_other counts q k c 0 ne ∙ counted k ∙ ap (count_by is_slot) (sym (part_set_other xs p 65535 (k * 256) (side (cases_lt k q)))) where
    side : (k < q) ⊎ (q ≤ k) → (p < k * 256) ⊎ (k * 256 + 256 ≤ p)
    side (inl before) = inr (omega arith)
    side (inr past) = inl (omega arith)

-- no count of no entry
pub counted_none : (counts : List ℕ) → ((k : ℕ) → get_or counts k 0 ≡ 0) → IsCounted counts []
counted_none counts zeros k = zeros k ∙ sym (ap (count_by is_slot) (part_past [] (k * 256) (omega arith)))

-- one more slot
pub within_push : (room : ℕ) (xs : List ℕ) (y : ℕ) → AreWithin room xs → y < room → AreWithin room (xs ++ y ∷ [])
within_push room xs y within below i in_range slot = at (cases_lt i (length xs)) where
  at : (i < length xs) ⊎ (length xs ≤ i) → get_or (xs ++ y ∷ []) i 0 < room
  at (inl h) =
      let e : get_or (xs ++ y ∷ []) i 0 ≡ get_or xs i 0 = get_or_append_left xs (y ∷ []) 0 i h in
      subst (λ (n : ℕ). n < room) (sym e) (within i h (sym (ap is_slot e) ∙ slot))
  at (inr h) =
      let e : get_or (xs ++ y ∷ []) i 0 ≡ y = get_or_push xs y 0 i (omega (arith, length-append xs (y ∷ []))) in
      subst (λ (n : ℕ). n < room) (sym e) below

none_stands : (xs : List ℕ) (y i : ℕ) → list_any (λ s. eqb s y) (slots_in xs) ≡ false → i < length xs → is_slot (get_or xs i 0) ≡ true → get_or xs i 0 ≡ y → ⊥
none_stands [] y i none within slot e = omega arith
none_stands (x ∷ xs) y zero none within slot e =
    let kept : list_any (λ s. eqb s y) (x ∷ slots_in xs) ≡ false = rw slot at none in
    let same : eqb x y ≡ true = eq-eqb x y e in
    let some : (true || list_any (λ s. eqb s y) (slots_in xs)) ≡ false = rw same at kept in
    absurd (cc)
none_stands (x ∷ xs) y (suc i) none within slot e = none_stands xs y i (rest (is_slot x) none) (omega arith) slot e where
  rest : (b : Bool) → list_any (λ s. eqb s y) (cond b (x ∷ slots_in xs) (slots_in xs)) ≡ false → list_any (λ s. eqb s y) (slots_in xs) ≡ false
  rest true h = later (eqb x y) h where
    later : (c : Bool) → (c || list_any (λ s. eqb s y) (slots_in xs)) ≡ false → list_any (λ s. eqb s y) (slots_in xs) ≡ false
    later true g = absurd (cc)
    later false g = g
  rest false h = h

-- a new slot is written down at its place, and one that stands there, or is marked, is marked
pub placed_push : (places xs : List ℕ) (y v : ℕ) → IsPlaced places xs → y < length places
    → (v ≢ 4294967295 → (v ≡ length xs) × (list_any (λ s. eqb s y) (slots_in xs) ≡ false))
    → IsPlaced (set places y v) (xs ++ y ∷ [])
placed_push places xs y v placed below new i in_range slot unmarked = at (cases_lt i (length xs)) where
  at : (i < length xs) ⊎ (length xs ≤ i) → get_or (set places y v) (get_or (xs ++ y ∷ []) i 0) 0 ≡ i
  at (inl h) = other (cases_eq (get_or xs i 0) y) where
    e : get_or (xs ++ y ∷ []) i 0 ≡ get_or xs i 0
    e = get_or_append_left xs (y ∷ []) 0 i h

    slot' : is_slot (get_or xs i 0) ≡ true
    slot' = sym (ap is_slot e) ∙ slot

    unmarked' : get_or (set places y v) (get_or xs i 0) 0 ≢ 4294967295
    unmarked' = subst (λ (n : ℕ). get_or (set places y v) n 0 ≢ 4294967295) e unmarked

    other : (get_or xs i 0 ≡ y) ⊎ (get_or xs i 0 ≡ y → ⊥) → get_or (set places y v) (get_or (xs ++ y ∷ []) i 0) 0 ≡ i
    other (inl same) =
        let here : get_or (set places y v) (get_or xs i 0) 0 ≡ v = ap (λ (n : ℕ). get_or (set places y v) n 0) same ∙ get_or-set_same places y v 0 below in
        let free : v ≢ 4294967295 = subst (λ (n : ℕ). n ≢ 4294967295) here unmarked' in
        absurd (none_stands xs y i (new free).1 h slot' same)
    other (inr ne) =
        let kept : get_or (set places y v) (get_or xs i 0) 0 ≡ get_or places (get_or xs i 0) 0 = get_or-set_other places y (get_or xs i 0) v 0 ne in
        ap (λ (n : ℕ). get_or (set places y v) n 0) e ∙ kept ∙ placed i h slot' (subst (λ (n : ℕ). n ≢ 4294967295) kept unmarked')
  at (inr h) =
      let i_is : i ≡ length xs = omega (arith, length-append xs (y ∷ [])) in
      let e : get_or (xs ++ y ∷ []) i 0 ≡ y = get_or_push xs y 0 i (sym i_is) in
      let here : get_or (set places y v) (get_or (xs ++ y ∷ []) i 0) 0 ≡ v = ap (λ (n : ℕ). get_or (set places y v) n 0) e ∙ get_or-set_same places y v 0 below in
      here ∙ (new (subst (λ (n : ℕ). n ≢ 4294967295) here unmarked)).0 ∙ sym i_is

not_gap : is_slot 65535 ≡ true → ⊥
not_gap h = cc

-- one gap more
pub within_gap : (room : ℕ) (xs : List ℕ) (p : ℕ) → AreWithin room xs → p < length xs → AreWithin room (set xs p 65535)
within_gap room xs p within below i in_range slot = at (cases_eq i p) where
  at : (i ≡ p) ⊎ (i ≡ p → ⊥) → get_or (set xs p 65535) i 0 < room
  at (inl e) = absurd (not_gap (sym (ap is_slot (ap (λ (j : ℕ). get_or (set xs p 65535) j 0) e ∙ get_or-set_same xs p 65535 0 below)) ∙ slot))
  at (inr ne) =
      let e : get_or (set xs p 65535) i 0 ≡ get_or xs i 0 = get_or-set_other xs p i 65535 0 ne in
      subst (λ (n : ℕ). n < room) (sym e) (within i (omega (arith, length-set xs p 65535)) (sym (ap is_slot e) ∙ slot))

pub placed_gap : (places xs : List ℕ) (p : ℕ) → IsPlaced places xs → p < length xs → IsPlaced places (set xs p 65535)
placed_gap places xs p placed below i in_range slot = at (cases_eq i p) where
  at : (i ≡ p) ⊎ (i ≡ p → ⊥) → get_or places (get_or (set xs p 65535) i 0) 0 ≢ 4294967295 → get_or places (get_or (set xs p 65535) i 0) 0 ≡ i
  at (inl e) = absurd (not_gap (sym (ap is_slot (ap (λ (j : ℕ). get_or (set xs p 65535) j 0) e ∙ get_or-set_same xs p 65535 0 below)) ∙ slot))
  at (inr ne) =
      let e : get_or (set xs p 65535) i 0 ≡ get_or xs i 0 = get_or-set_other xs p i 65535 0 ne in
      subst (λ (n : ℕ). get_or places n 0 ≢ 4294967295 → get_or places n 0 ≡ i) (sym e) (placed i (omega (arith, length-set xs p 65535)) (sym (ap is_slot e) ∙ slot))

-- a slot that stands nowhere is not missed
pub filter_absent : (m : ℕ) (xs : List ℕ) → ((i : ℕ) → i < length xs → is_slot (get_or xs i 0) ≡ true → get_or xs i 0 ≡ m → ⊥) → filter (λ s. not (eqb s m)) (slots_in xs) ≡ slots_in xs
filter_absent m [] absent = refl
filter_absent m (x ∷ xs) absent = at (is_slot x) refl (filter_absent m xs (λ i within slot. absent (suc i) (omega arith) slot)) where
  at : (b : Bool) → is_slot x ≡ b → filter (λ s. not (eqb s m)) (slots_in xs) ≡ slots_in xs
      → filter (λ s. not (eqb s m)) (cond b (x ∷ slots_in xs) (slots_in xs)) ≡ cond b (x ∷ slots_in xs) (slots_in xs)
  at true e rest =
      let other : eqb x m ≡ false = ne_eqb x m (absent 0 (omega arith) e) in
      rw (other, rest) refl
  at false e rest = rest

-- the only place of a slot becomes a gap
pub slots_gap : (m p : ℕ) (xs : List ℕ) → p < length xs → get_or xs p 0 ≡ m → is_slot m ≡ true
    → ((i : ℕ) → i < length xs → is_slot (get_or xs i 0) ≡ true → get_or xs i 0 ≡ m → i ≡ p)
    → slots_in (set xs p 65535) ≡ filter (λ s. not (eqb s m)) (slots_in xs)
slots_gap m p [] below here slot only = absurd (omega arith)
slots_gap m zero (x ∷ xs) below here slot only =
    let kept : is_slot x ≡ true = ap is_slot here ∙ slot in
    let same : eqb x m ≡ true = eq-eqb x m here in
    let rest : filter (λ s. not (eqb s m)) (slots_in xs) ≡ slots_in xs = filter_absent m xs (λ i within some e. omega (arith, only (suc i) (omega arith) some e)) in
    rw (kept, same) (sym rest)
slots_gap m (suc p) (x ∷ xs) below here slot only = at (is_slot x) refl (slots_gap m p xs (omega arith) here slot (λ i within some e. omega (arith, only (suc i) (omega arith) some e))) where
  at : (b : Bool) → is_slot x ≡ b → slots_in (set xs p 65535) ≡ filter (λ s. not (eqb s m)) (slots_in xs)
      → cond b (x ∷ slots_in (set xs p 65535)) (slots_in (set xs p 65535)) ≡ filter (λ s. not (eqb s m)) (cond b (x ∷ slots_in xs) (slots_in xs))
  at true e rest =
      let other : eqb x m ≡ false = ne_eqb x m (λ h. omega (arith, only 0 (omega arith) e h)) in
      rw other (ap (λ (ys : List ℕ). x ∷ ys) rest)
  at false e rest = rest

-- a block that has no slot of that age is passed over
pub block_passed : (xs : List ℕ) (n left c : ℕ) → c ≡ count_by is_slot (take 256 (drop n xs)) → c ≤ left → left < length (slots_in (drop n xs))
    → (left - c < length (slots_in (drop (n + 256) xs))) × (get_or (slots_in (drop (n + 256) xs)) (left - c) 0 ≡ get_or (slots_in (drop n xs)) left 0)
block_passed xs n left c is le within =
    let split : slots_in (drop n xs) ≡ slots_in (part xs n) ++ slots_in (drop (n + 256) xs) =
    ap slots_in (sym (take-append-drop 256 (drop n xs))) ∙ filter-append is_slot (part xs n) (drop 256 (drop n xs)) ∙ ap (λ (ys : List ℕ). slots_in (part xs n) ++ slots_in ys) (drop-drop 256 n xs) in
    let len : length (slots_in (part xs n)) ≡ c = length-filter is_slot (part xs n) ∙ sym is in
    let all : length (slots_in (drop n xs)) ≡ length (slots_in (part xs n)) + length (slots_in (drop (n + 256) xs)) = ap length split ∙ length-append (slots_in (part xs n)) (slots_in (drop (n + 256) xs)) in (
      omega (arith, len, all),
      sym (ap (λ (ys : List ℕ). get_or ys left 0) split ∙ get_or-append_right (slots_in (part xs n)) (slots_in (drop (n + 256) xs)) c left 0 len le),
    )

-- a slot among those of a rest shows that the rest is not empty
pub rest_some : (xs : List ℕ) (n left : ℕ) → left < length (slots_in (drop n xs)) → n < length xs
rest_some xs n left within = omega (arith, length-filter is_slot (drop n xs), count_by-le-length is_slot (drop n xs), length-drop n xs)

-- what the places say of a slot
pub stands_at : (places xs : List ℕ) (m : ℕ) → IsPlaced places xs → is_slot m ≡ true → get_or places m 0 ≢ 4294967295
    → (i : ℕ) → i < length xs → is_slot (get_or xs i 0) ≡ true → get_or xs i 0 ≡ m → i ≡ get_or places m 0
stands_at places xs m placed slot unmarked i within some e =
    sym (placed i within some (subst (λ (n : ℕ). get_or places n 0 ≢ 4294967295) (sym e) unmarked)) ∙ ap (λ (n : ℕ). get_or places n 0) e

-- among the slots as among the entries
pub any_slot : (m : ℕ) (xs : List ℕ) → is_slot m ≡ true → list_any (λ s. eqb s m) (slots_in xs) ≡ list_any (λ s. eqb s m) xs
any_slot m xs slot = any-filter_same (λ s. eqb s m) is_slot true (λ k e. ap is_slot (eqb-true k m e) ∙ slot) xs

pub none_past : (room m : ℕ) (xs : List ℕ) → AreWithin room xs → room ≤ m → list_any (λ s. eqb s m) (slots_in xs) ≡ false
none_past room m [] within past = refl
none_past room m (x ∷ xs) within past = at (is_slot x) refl (none_past room m xs (λ i below slot. within (suc i) (omega arith) slot) past) where
  at : (b : Bool) → is_slot x ≡ b → list_any (λ s. eqb s m) (slots_in xs) ≡ false → list_any (λ s. eqb s m) (cond b (x ∷ slots_in xs) (slots_in xs)) ≡ false
  at true e rest =
      let below : x < room = within 0 (omega arith) e in
      let other : eqb x m ≡ false = ne_eqb x m (λ h. omega (arith, h)) in
      rw other rest
  at false e rest = rest

-- a number below that of the slots is one of them
pub slot_below : (m room : ℕ) → m < room → room ≤ 65535 → is_slot m ≡ true
slot_below m room below few = not_from_false (eqb m 65535) (ne_eqb m 65535 (λ e. omega (arith, e)))

-- a slot that is not marked is among the entries if it stands at its place
pub any_at_place : (m p : ℕ) (xs : List ℕ) → is_slot m ≡ true → p < length xs → get_or xs p 0 ≡ m → list_any (λ s. eqb s m) (slots_in xs) ≡ true
any_at_place m p xs slot within here = any_slot m xs slot ∙ list_any_at (λ s. eqb s m) xs p 0 within (eq-eqb (get_or xs p 0) m here)

pub none_at_place : (places xs : List ℕ) (m : ℕ) → IsPlaced places xs → is_slot m ≡ true → get_or places m 0 ≢ 4294967295
    → (get_or places m 0 < length xs → get_or xs (get_or places m 0) 0 ≡ m → ⊥) → list_any (λ s. eqb s m) (slots_in xs) ≡ false
none_at_place places xs m placed slot unmarked none = any_slot m xs slot ∙ at (list_any (λ s. eqb s m) xs) refl where
  at : (b : Bool) → list_any (λ s. eqb s m) xs ≡ b → b ≡ false
  at true e =
      let w = Any-from_list_any (λ s. eqb s m) xs e in
      let is : get_or xs w.0 0 ≡ m = stands xs w.0 w.1 w.2 w.3 (eqb-true w.1 m w.4) in
      let there : w.0 ≡ get_or places m 0 = stands_at places xs m placed slot unmarked w.0 w.2 (ap is_slot is ∙ slot) is in
      absurd (none (subst (λ (n : ℕ). n < length xs) there w.2) (ap (λ (n : ℕ). get_or xs n 0) (sym there) ∙ is)) where
        stands : (ys : List ℕ) (k x : ℕ) → k < length ys → get_or ys k x ≡ x → x ≡ m → get_or ys k 0 ≡ m
        stands ys k x within read same = get_or_default ys k 0 x within ∙ read ∙ same
  at false e = refl

-- the place that is written down tells whether a slot stands there
pub place_tells : (places xs : List ℕ) (m p : ℕ) → IsPlaced places xs → is_slot m ≡ true → p ≡ get_or places m 0 → p ≢ 4294967295 → p < length xs
    → eqb (get_or xs p 0) m ≡ list_any (λ s. eqb s m) (slots_in xs)
place_tells places xs m p placed slot is unmarked within = at (eqb (get_or xs p 0) m) refl where
  at : (b : Bool) → eqb (get_or xs p 0) m ≡ b → b ≡ list_any (λ s. eqb s m) (slots_in xs)
  at true e = sym (any_at_place m p xs slot within (eqb-true (get_or xs p 0) m e))
  at false e =
      sym (none_at_place places xs m placed slot (subst (λ (n : ℕ). n ≢ 4294967295) is unmarked)
      (λ below here. both_ways (eqb (get_or xs p 0) m) e (eq-eqb (get_or xs p 0) m (ap (λ (n : ℕ). get_or xs n 0) is ∙ here))))

pub place_past : (places xs : List ℕ) (m p : ℕ) → IsPlaced places xs → is_slot m ≡ true → p ≡ get_or places m 0 → p ≢ 4294967295 → length xs ≤ p
    → list_any (λ s. eqb s m) (slots_in xs) ≡ false
place_past places xs m p placed slot is unmarked past =
    none_at_place places xs m placed slot (subst (λ (n : ℕ). n ≢ 4294967295) is unmarked) (λ below here. omega (arith, below, is))

slots_short : (xs : List ℕ) → length (slots_in xs) ≤ length xs
slots_short xs = omega (arith, length-filter is_slot xs, count_by-le-length is_slot xs)

pub filter_short : (p : ℕ → Bool) (xs : List ℕ) → length (filter p xs) ≤ length xs
filter_short p xs = omega (arith, length-filter p xs, count_by-le-length p xs)

-- if a slot is still to come, fewer stand there
pub fill_room : (p : ℕ → Bool) (xs : List ℕ) (i : ℕ) → i < length xs → is_slot (get_or xs i 0) ≡ true → length (filter p (slots_in (take i xs))) < length (slots_in xs)
fill_room p xs i within slot =
    let more : count_by is_slot (take (i + 1) xs) ≡ count_by is_slot (take i xs) + 1 = count_by_more_yes is_slot xs i 0 within slot in
    let part : count_by is_slot (take (i + 1) xs) ≤ count_by is_slot xs = sum_by-take-le (λ z. cond (is_slot z) 1 0) xs (i + 1) in
    omega (arith, more, part, filter_short p (slots_in (take i xs)), length-filter is_slot (take i xs), length-filter is_slot xs)

pub few_slots : (xs : List ℕ) (n : ℕ) → length xs ≤ n → length (slots_in xs) ≤ n
few_slots xs n few = omega (arith, slots_short xs, few)

-- what is filtered has slots alone
pub slots_of_filtered : (p : ℕ → Bool) (xs : List ℕ) → slots_in (filter p (slots_in xs)) ≡ filter p (slots_in xs)
slots_of_filtered p [] = refl
slots_of_filtered p (x ∷ xs) = at (is_slot x) refl (slots_of_filtered p xs) where
  kept : (c : Bool) → is_slot x ≡ true → slots_in (filter p (slots_in xs)) ≡ filter p (slots_in xs) → slots_in (cond c (x ∷ filter p (slots_in xs)) (filter p (slots_in xs))) ≡ cond c (x ∷ filter p (slots_in xs)) (filter p (slots_in xs))
  kept true e rest = rw (e, rest) refl
  kept false e rest = rest

  at : (b : Bool) → is_slot x ≡ b → slots_in (filter p (slots_in xs)) ≡ filter p (slots_in xs)
      → slots_in (filter p (cond b (x ∷ slots_in xs) (slots_in xs))) ≡ filter p (cond b (x ∷ slots_in xs) (slots_in xs))
  at true e rest = kept (p x) e rest
  at false e rest = rest

-- nothing is taken out with the gaps
pub no_gap_left : (xs : List ℕ) → filter (λ s. not (eqb s 65535)) (slots_in xs) ≡ slots_in xs
no_gap_left [] = refl
no_gap_left (x ∷ xs) = at (is_slot x) refl (no_gap_left xs) where
  at : (b : Bool) → is_slot x ≡ b → slots_in (slots_in xs) ≡ slots_in xs → slots_in (cond b (x ∷ slots_in xs) (slots_in xs)) ≡ cond b (x ∷ slots_in xs) (slots_in xs)
  at true e rest = rw (e, rest) refl
  at false e rest = rest

-- the entries that pass two tests, one after the other
pub filter_both : (p : ℕ → Bool) (xs : List ℕ) → filter (λ x. is_slot x && p x) xs ≡ filter p (slots_in xs)
filter_both p [] = refl
filter_both p (x ∷ xs) = at (is_slot x) (filter_both p xs) where
  at : (b : Bool) → filter (λ y. is_slot y && p y) xs ≡ filter p (slots_in xs)
      → cond (b && p x) (x ∷ filter (λ y. is_slot y && p y) xs) (filter (λ y. is_slot y && p y) xs) ≡ filter p (cond b (x ∷ slots_in xs) (slots_in xs))
  at true rest = ap (λ (ys : List ℕ). cond (p x) (x ∷ ys) ys) rest
  at false rest = rest

-- what contracts see of an order, part by part
pub ordered_is : (slots slots' : List ℕ) (room room' : ℕ) → slots ≡ slots' → room ≡ room' → (let o : Ordered = record { slots = slots; room = room } in o) ≡ record { slots = slots'; room = room' }
ordered_is slots slots' room room' s r = λ i. record { slots = s i; room = r i }

-- a slot behind the entries stands behind the slots
pub slots_push : (xs : List ℕ) (y : ℕ) → is_slot y ≡ true → slots_in (xs ++ y ∷ []) ≡ slots_in xs ++ y ∷ []
slots_push xs y slot = filter-append is_slot xs (y ∷ []) ∙ ap (λ (b : Bool). slots_in xs ++ cond b (y ∷ []) []) slot

-- if a slot stands, there is one
pub some_slot : (xs : List ℕ) (p : ℕ) → p < length xs → is_slot (get_or xs p 0) ≡ true → 0 < length (slots_in xs)
some_slot xs p within slot =
    let one : ℕ = 1 in
    let here : cond (is_slot (get_or xs p 0)) 1 0 ≡ one = ap (λ (b : Bool). cond b 1 0) slot in
    let le : cond (is_slot (get_or xs p 0)) 1 0 ≤ count_by is_slot xs = get_or-le-sum_by (λ z. cond (is_slot z) 1 0) xs p 0 within in
    omega (arith, here, le, length-filter is_slot xs)

-- a gap where a slot stood makes one slot less
pub one_slot_less : (xs : List ℕ) (p : ℕ) → p < length xs → is_slot (get_or xs p 0) ≡ true → length (slots_in (set xs p 65535)) + 1 ≡ length (slots_in xs)
one_slot_less xs p within slot = omega (arith, count_one_less xs p within slot, length-filter is_slot (set xs p 65535), length-filter is_slot xs)

-- a slot that stands there alone stands at its place
pub stands_there : (places xs : List ℕ) (m : ℕ) → IsPlaced places xs → is_slot m ≡ true → get_or places m 0 ≢ 4294967295 → list_any (λ s. eqb s m) (slots_in xs) ≡ true
    → (get_or places m 0 < length xs) × (get_or xs (get_or places m 0) 0 ≡ m)
stands_there places xs m placed slot unmarked any =
    let w = Any-from_list_any (λ s. eqb s m) xs (sym (any_slot m xs slot) ∙ any) in
    let is : get_or xs w.0 0 ≡ m = get_or_default xs w.0 0 w.1 w.2 ∙ w.3 ∙ eqb-true w.1 m w.4 in
    let there : w.0 ≡ get_or places m 0 = stands_at places xs m placed slot unmarked w.0 w.2 (ap is_slot is ∙ slot) is in (
      subst (λ (n : ℕ). n < length xs) there w.2,
      ap (λ (n : ℕ). get_or xs n 0) (sym there) ∙ is,
    )

-- a number that is not there is not missed
pub filter_unmissed : (m : ℕ) (xs : List ℕ) → list_any (λ s. eqb s m) xs ≡ false → filter (λ s. not (eqb s m)) xs ≡ xs
filter_unmissed m [] none = refl
filter_unmissed m (x ∷ xs) none =
    let parts = or_parts (eqb x m) (list_any (λ s. eqb s m) xs) none in
    rw (parts.0, filter_unmissed m xs parts.1) refl

-- a slot at its place, and nowhere else
pub record Stands (xs : List ℕ) (m p : ℕ) : Type 0 where
  pub within : p < length xs
  pub here : get_or xs p 0 ≡ m
  pub slot : is_slot (get_or xs p 0) ≡ true
  pub only : (i : ℕ) → i < length xs → is_slot (get_or xs i 0) ≡ true → get_or xs i 0 ≡ m → i ≡ p

pub stands : (places xs : List ℕ) (m p : ℕ) → IsPlaced places xs → is_slot m ≡ true → p ≡ get_or places m 0 → p ≢ 4294967295 → list_any (λ s. eqb s m) (slots_in xs) ≡ true → Stands xs m p
stands places xs m p placed slot is free any =
    let unmarked : get_or places m 0 ≢ 4294967295 = subst (λ (n : ℕ). n ≢ 4294967295) is free in
    let there = stands_there places xs m placed slot unmarked any in
    let here : get_or xs p 0 ≡ m = ap (λ (n : ℕ). get_or xs n 0) is ∙ there.1 in
    record {
      within = subst (λ (n : ℕ). n < length xs) (sym is) there.0;
      here = here;
      slot = ap is_slot here ∙ slot;
      only = λ i below some e. stands_at places xs m placed slot unmarked i below some e ∙ sym is;
    }
