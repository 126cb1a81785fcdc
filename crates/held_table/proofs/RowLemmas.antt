-- Rows of counts, and their sums.
use Rattle.std.proofs.Common.{◌≡◌, ℕ, zero, suc, ◌+◌, ◌*◌, ◌<◌, ◌≤◌, ◌≢◌, zero-add, Bool, true, false, cond, ltb, eqb, ◌&&◌, List, [], ◌∷◌, ◌++◌, map, length, get_or, drop, slice_get, Some, unwrap_or, refl, sym, ◌∙◌, ap, subst, arith, ◌⊎◌, inl, inr}
use Rattle.std.proofs.Math.ListN.{set, replicate}
use Rattle.std.proofs.lemmas.Bool.{cases_lt, lt-ltb, eq-eqb, eqb-true, false≢true}
use Rattle.std.proofs.lemmas.List.{get_or-map, length-set, get_or-set_same, get_or-set_other, get_or_past, set-set, length-replicate, length-append, length-drop, append-nil}
use Rattle.std.proofs.lemmas.List.FromFn.{get_or-map-range_with_len, length-map-range_with_len, fill_by_all}
use Rattle.std.proofs.lemmas.List.Sums.{sum_by-cons, sum_by-set}
use Rattle.std.proofs.lemmas.Map.Entries.{lookup_head}
use Rattle.std.proofs.lemmas.Option.{none-some}
use Rattle.std.specs.Bool.{Decides}
use Rattle.dep_index.specs.Table.{pairs, holders}
use Rattle.held_table.specs.Held.{IsIdle, is_idle}
use Rattle.held_table.specs.Rows.{Holding, no_holding, held_at, count_in, row_of, IsPositive}

told : (b : Bool) → (b ≡ true) ⊎ (b ≡ false)
told true = inl refl
told false = inr refl

-- nothing stands in the counts exactly if each count is zero
pub none_counted : (counts : List (ℕ × ℕ)) → IsPositive counts → length counts ≡ 0 → (m : ℕ) → count_in counts m ≡ 0
none_counted [] positive none m = refl
none_counted (e ∷ es) positive none m = absurd (omega (arith, none))

pub counted_none : (counts : List (ℕ × ℕ)) → IsPositive counts → ((m : ℕ) → count_in counts m ≡ 0) → length counts ≡ 0
counted_none [] positive zeros = refl
counted_none (e ∷ es) positive zeros =
    let found = lookup_head (eqb e.0) e es (eq-eqb e.0 e.0 refl) in
    absurd (positive e.0 (found ∙ ap Some (sym (ap (λ o. unwrap_or o 0) found) ∙ zeros e.0)))

some_same : {X : Type 0} (x y : X) → Some x ≡ Some y → x ≡ y
some_same x y same = cc

-- the slot of the first entry is counted
pub first_counted : (counts : List (ℕ × ℕ)) (slot count : ℕ) → IsPositive counts → slice_get counts 0 ≡ Some (slot, count) → 0 < count_in counts slot
first_counted [] slot count positive first = absurd (none-some (slot, count) first)
first_counted (e ∷ es) slot count positive first =
    let same : slot ≡ e.0 = ap (λ (entry : ℕ × ℕ). entry.0) (sym (some_same e (slot, count) first)) in
    let found = lookup_head (eqb e.0) e es (eq-eqb e.0 e.0 refl) in
    let other : e.1 ≢ 0 = λ zero. positive e.0 (found ∙ ap Some zero) in
    subst (λ k. 0 < count_in (e ∷ es) k) (sym same) (subst (λ n. 0 < n) (sym (ap (λ o. unwrap_or o 0) found)) (omega (arith, other)))

-- a slot that is counted is one
pub counted_within : (slots : ℕ) (h : Holding) (m : ℕ) → ((k : ℕ) → slots ≤ k → count_in h.counts k ≡ 0) → 0 < count_in h.counts m → m < slots
counted_within slots h m within some = at (cases_lt m slots) where
  at : (m < slots) ⊎ (slots ≤ m) → m < slots
  at (inl below) = below
  at (inr past) = absurd (omega (arith, some, within m past))

pub row_at : (slots : ℕ) (h : Holding) (m : ℕ) → m < slots → get_or (row_of slots h) m 0 ≡ count_in h.counts m
row_at slots h m within = get_or-map-range_with_len (count_in h.counts) 0 slots m m 0 within (zero-add m)

pub length-row_of : (slots : ℕ) (h : Holding) → length (row_of slots h) ≡ slots
length-row_of slots h = length-map-range_with_len (count_in h.counts) 0 slots

-- rows that have the same counts are the same
pub same_row : (slots : ℕ) (h : Holding) (row : List ℕ) → length row ≡ slots → ((m : ℕ) → m < slots → get_or row m 0 ≡ count_in h.counts m) → row ≡ row_of slots h
same_row slots h row len same = fill_by_all (count_in h.counts) row slots 0 len same

pub row_set : (slots : ℕ) (h new : Holding) (s c : ℕ) → s < slots
    → ((m : ℕ) → count_in new.counts m ≡ cond (eqb s m) c (count_in h.counts m)) → row_of slots new ≡ set (row_of slots h) s c
row_set slots h new s c within is =
    sym (same_row slots new (set (row_of slots h) s c) (length-set (row_of slots h) s c ∙ length-row_of slots h) at) where
      at : (m : ℕ) → m < slots → get_or (set (row_of slots h) s c) m 0 ≡ count_in new.counts m
      at m below = elim (told (eqb s m)) [
        | inl t ↦ (let same : s ≡ m = eqb-true s m t in
            subst (λ k. get_or (set (row_of slots h) s c) k 0 ≡ c) same (get_or-set_same (row_of slots h) s c 0 (subst (λ n. s < n) (sym (length-row_of slots h)) within))
            ∙ sym (is m ∙ ap (λ b. cond b c (count_in h.counts m)) t))
        | inr t ↦ (let other : m ≢ s = λ same. cc (eq-eqb s m (sym same), t) in
            get_or-set_other (row_of slots h) s m c 0 other ∙ row_at slots h m below ∙ sym (is m ∙ ap (λ b. cond b c (count_in h.counts m)) t))
      ]

-- the row of a number
pub row_get : (slots : ℕ) (holdings : List Holding) (w : ℕ) → w < length holdings → get_or (map (row_of slots) holdings) w [] ≡ row_of slots (get_or holdings w no_holding)
row_get slots holdings w within = get_or-map (row_of slots) holdings w no_holding [] within

held_total_of : (x h p : ℕ) → ltb 0 h ≡ ltb 0 p → ltb 0 (cond (ltb 0 x) 1 0 + h) ≡ ltb 0 (x + p)
held_total_of zero h p e = ap (ltb 0) (zero-add h) ∙ e ∙ sym (ap (ltb 0) (zero-add p))
held_total_of (suc x) h p e =
    let left : ltb 0 (cond (ltb 0 (suc x)) 1 0 + h) ≡ true = ap (λ b. ltb 0 (cond b 1 0 + h)) (lt-ltb 0 (suc x) (omega arith)) ∙ lt-ltb 0 (1 + h) (omega arith) in
    left ∙ sym (lt-ltb 0 (suc x + p) (omega arith))

-- some holder holds the slot exactly if the sum is not zero
pub held_total : (rows : List (List ℕ)) (m : ℕ) → ltb 0 (holders rows m) ≡ ltb 0 (pairs rows m)
held_total [] m = refl
held_total (row ∷ rows) m =
    ap (ltb 0) (sum_by-cons (λ r. cond (ltb 0 (get_or r m 0)) 1 0) row rows)
    ∙ held_total_of (get_or row m 0) (holders rows m) (pairs rows m) (held_total rows m)
    ∙ sym (ap (ltb 0) (sum_by-cons (λ r. get_or r m 0) row rows))

-- no more than 65,535 of each holder
pub pairs_bound : (rows : List (List ℕ)) (m : ℕ) → ((w : ℕ) → get_or (get_or rows w []) m 0 ≤ 65535) → pairs rows m ≤ 65535 * length rows
pairs_bound [] m small = omega arith
pairs_bound (row ∷ rows) m small =
    omega (arith, sum_by-cons (λ r. get_or r m 0) row rows, small 0, pairs_bound rows m (λ w. small (suc w)))

-- the sums after a count was written
pub totals_set : (rows : List (List ℕ)) (totals : List ℕ) (w s c x : ℕ) → w < length rows → s < length (get_or rows w []) → s < length totals
    → x + get_or (get_or rows w []) s 0 ≡ get_or totals s 0 + c
    → ((m : ℕ) → m < length totals → get_or totals m 0 ≡ pairs rows m)
    → (m : ℕ) → m < length (set totals s x) → get_or (set totals s x) m 0 ≡ pairs (set rows w (set (get_or rows w []) s c)) m
totals_set rows totals w s c x win sin within is sums m below = elim (told (eqb s m)) [
  | inl t ↦ (let same : s ≡ m = eqb-true s m t in subst (λ k. get_or (set totals s x) k 0 ≡ pairs (set rows w (set (get_or rows w []) s c)) k) same here)
  | inr t ↦ (let other : m ≢ s = λ e. cc (eq-eqb s m (sym e), t) in
      let kept = get_or-set_other (get_or rows w []) s m c 0 other in
      let sum = sum_by-set (λ r. get_or r m 0) rows w (set (get_or rows w []) s c) [] win in
      let mine = sums m (subst (λ n. m < n) (length-set totals s x) below) in
      omega (arith, get_or-set_other totals s m x 0 other, kept, sum, mine))
] where
  here : get_or (set totals s x) s 0 ≡ pairs (set rows w (set (get_or rows w []) s c)) s
  here =
      let sum = sum_by-set (λ r. get_or r s 0) rows w (set (get_or rows w []) s c) [] win in
      omega (arith, get_or-set_same totals s x 0 within, get_or-set_same (get_or rows w []) s c 0 sin, sum, sums s within, is)

-- a holder whose counts are zero is one whose row is
pub idle_row : (slots : ℕ) (h : Holding) → ((m : ℕ) → slots ≤ m → count_in h.counts m ≡ 0) → ((m : ℕ) → count_in h.counts m ≡ 0) → IsIdle (row_of slots h)
idle_row slots h within zeros m = at (cases_lt m slots) where
  at : (m < slots) ⊎ (slots ≤ m) → get_or (row_of slots h) m 0 ≡ 0
  at (inl below) = row_at slots h m below ∙ zeros m
  at (inr past) = get_or_past (row_of slots h) m 0 (subst (λ n. n ≤ m) (sym (length-row_of slots h)) past)

pub idle_counts : (slots : ℕ) (h : Holding) → ((m : ℕ) → slots ≤ m → count_in h.counts m ≡ 0) → IsIdle (row_of slots h) → (m : ℕ) → count_in h.counts m ≡ 0
idle_counts slots h within idle m = at (cases_lt m slots) where
  at : (m < slots) ⊎ (slots ≤ m) → count_in h.counts m ≡ 0
  at (inl below) = sym (row_at slots h m below) ∙ idle m
  at (inr past) = within m past

-- room for a slot that is not held, as the rows tell it
pub room_of : (slots : ℕ) (holdings : List Holding) (w s : ℕ) → w < length holdings → s < slots
    → (get_or (get_or (map (row_of slots) holdings) w []) s 0 ≡ 0 → 0 < get_or (map (λ (h : Holding). h.spare) holdings) w 0)
    → count_in (held_at holdings w) s ≡ 0 → 0 < (get_or holdings w no_holding).spare
room_of slots holdings w s win sin room none =
    subst (λ n. 0 < n) (get_or-map (λ (h : Holding). h.spare) holdings w no_holding 0 win)
    (room (ap (λ r. get_or r s 0) (row_get slots holdings w win) ∙ row_at slots (get_or holdings w no_holding) s sin ∙ none))

-- a row whose counts are zero has nothing but zeros
pub idle_is : (row : List ℕ) → IsIdle row → row ≡ replicate (length row) 0
idle_is [] idle = refl
idle_is (x ∷ row) idle =
    let head : x ≡ 0 = idle 0 in
    let tail : row ≡ replicate (length row) 0 = idle_is row (λ m. idle (suc m)) in
    cc

-- one slot less of a holder's row
pub clear_one : (old now new : List (List ℕ)) (w s : ℕ) → w < length old → now ≡ set old w (get_or now w []) → new ≡ set now w (set (get_or now w []) s 0)
    → (get_or new w [] ≡ set (get_or now w []) s 0) × (new ≡ set old w (get_or new w []))
clear_one old now new w s within is next =
    let row = set (get_or now w []) s 0 in
    let long : length now ≡ length old = ap length is ∙ length-set old w (get_or now w []) in
    let there : get_or new w [] ≡ row = ap (λ (rows : List (List ℕ)). get_or rows w []) next ∙ get_or-set_same now w row [] (omega (arith, within, long)) in (
      there,
      next ∙ ap (λ (rows : List (List ℕ)). set rows w row) is ∙ set-set old w (get_or now w []) row ∙ ap (set old w) (sym there),
    )

-- the test for an idle row decides it
pub idle_decided : (row : List ℕ) → Decides (is_idle row) (IsIdle row)
idle_decided [] = (λ h m. refl, λ zeros. refl)
idle_decided (x ∷ row) = elim (told (eqb x 0)) [
  | inl t ↦ (let rest = idle_decided row in
      (λ h m. from x t (rest.0 (sym (ap (λ b. b && is_idle row) t) ∙ h)) m, λ zeros. ap (λ b. b && is_idle row) t ∙ rest.1 (λ m. zeros (suc m))))
  | inr t ↦ (λ h m. absurd (false≢true (sym (ap (λ b. b && is_idle row) t) ∙ h)), λ zeros. absurd (false≢true (sym t ∙ eq-eqb x 0 (zeros 0))))
] where
  from : (y : ℕ) → eqb y 0 ≡ true → IsIdle row → (m : ℕ) → get_or (y ∷ row) m 0 ≡ 0
  from y t idle zero = eqb-true y 0 t
  from y t idle (suc m) = idle m
