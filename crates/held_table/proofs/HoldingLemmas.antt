-- What holders hold, before and after a change.
use Rattle.std.proofs.Common.{◌≡◌, ℕ, zero, suc, ◌+◌, ◌-◌, ◌<◌, ◌≤◌, ◌≢◌, Bool, true, false, cond, eqb, ◌&&◌, List, [], ◌∷◌, ◌++◌, map, length, get_or, refl, sym, ◌∙◌, ap, subst, arith, ◌⊎◌, inl, inr}
use Rattle.std.proofs.Math.ListN.{set}
use Rattle.std.proofs.lemmas.Bool.{cases_lt, eq-eqb, eqb-true}
use Rattle.std.proofs.lemmas.List.{map-append, get_or-take, length-map, length-set, length-append, get_or-set_same, get_or-set_other, get_or_past, get_or-replicate, length-replicate, length-take-le}
use Rattle.std.proofs.lemmas.List.Sums.{sum_by-cons, sum_by-append, sum_by-swap_remove, get_or-le-sum_by}
use Rattle.std.specs.List.{range_with_len, swap_remove}
use Rattle.dep_index.specs.Table.{pairs}
use Rattle.held_table.specs.Held.{IsIdle}
use Rattle.held_table.specs.Rows.{Holding, no_holding, nothing, held_at, count_in, row_of, AreTotalled}
use Rattle.held_table.proofs.NameLemmas.{map-swap_remove}
use Rattle.held_table.proofs.RowLemmas.{row_at, row_get, row_set, same_row, length-row_of, pairs_bound, totals_set}

told : (b : Bool) → (b ≡ true) ⊎ (b ≡ false)
told true = inl refl
told false = inr refl

pub any_default : {X : Type 0} (xs : List X) (i : ℕ) (d e : X) → i < length xs → get_or xs i d ≡ get_or xs i e
any_default [] i d e within = absurd (omega (arith, within))
any_default (x ∷ xs) zero d e within = refl
any_default (x ∷ xs) (suc i) d e within = any_default xs i d e (omega (arith, within))

-- lists with the same elements are the same
pub same_list : {X : Type 0} (d : X) (xs ys : List X) → length xs ≡ length ys → ((k : ℕ) → k < length xs → get_or xs k d ≡ get_or ys k d) → xs ≡ ys
same_list d [] [] len at = refl
same_list d [] (y ∷ ys) len at = absurd (omega (arith, len))
same_list d (x ∷ xs) [] len at = absurd (omega (arith, len))
same_list d (x ∷ xs) (y ∷ ys) len at =
    let head : x ≡ y = at 0 (omega arith) in
    let tail : xs ≡ ys = same_list d xs ys (omega (arith, len)) (λ k below. at (suc k) (omega (arith, below))) in
    cc

-- a count of a row is at most 65,535
pub rows_small : (holdings : List Holding) (totals : List ℕ) → AreTotalled holdings totals → (w m : ℕ)
    → get_or (get_or (map (row_of (length totals)) holdings) w []) m 0 ≤ 65535
rows_small holdings totals kept w m = at (cases_lt w (length holdings)) (cases_lt m (length totals)) where
  slots : ℕ
  slots = length totals

  at : (w < length holdings) ⊎ (length holdings ≤ w) → (m < length totals) ⊎ (length totals ≤ m) → get_or (get_or (map (row_of (length totals)) holdings) w []) m 0 ≤ 65535
  at (inl win) (inl min) =
      let row = row_get (length totals) holdings w win in
      let is = ap (λ r. get_or r m 0) row ∙ row_at (length totals) (get_or holdings w no_holding) m min in
      subst (λ n. n ≤ 65535) (sym is) (kept.small w m)
  at (inl win) (inr past) =
      let row = row_get (length totals) holdings w win in
      let is = ap (λ r. get_or r m 0) row ∙ get_or_past (row_of (length totals) (get_or holdings w no_holding)) m 0 (subst (λ n. n ≤ m) (sym (length-row_of (length totals) (get_or holdings w no_holding))) past) in
      subst (λ n. n ≤ 65535) (sym is) (omega arith)
  at (inr past) _ =
      let is = ap (λ r. get_or r m 0) (get_or_past (map (row_of (length totals)) holdings) w [] (subst (λ n. n ≤ w) (sym (length-map holdings (row_of (length totals)))) past)) in
      subst (λ n. n ≤ 65535) (sym is) (omega arith)

-- no total is greater than 65,536 holders can hold
pub total_bound : (holdings : List Holding) (totals : List ℕ) → AreTotalled holdings totals → (m : ℕ) → m < length totals → get_or totals m 0 ≤ 4294901760
total_bound holdings totals kept m within =
    omega (
      arith,
      kept.sums m within,
      pairs_bound (map (row_of (length totals)) holdings) m (λ w. rows_small holdings totals kept w m),
      length-map holdings (row_of (length totals)),
      kept.few,
    )

-- what a holder holds is a part of the total
pub count_in_total : (holdings : List Holding) (totals : List ℕ) → AreTotalled holdings totals → (w m : ℕ) → w < length holdings → m < length totals
    → count_in (held_at holdings w) m ≤ get_or totals m 0
count_in_total holdings totals kept w m win min =
    let rows = map (row_of (length totals)) holdings in
    let part = get_or-le-sum_by (λ r. get_or r m 0) rows w [] (subst (λ n. w < n) (sym (length-map holdings (row_of (length totals)))) win) in
    let is = ap (λ r. get_or r m 0) (row_get (length totals) holdings w win) ∙ row_at (length totals) (get_or holdings w no_holding) m min in
    omega (arith, part, is, kept.sums m min)

-- if each holder holds the same, the rows are the same
pub rows_same : (n : ℕ) (old new : List Holding) → length new ≡ length old → ((v : ℕ) → held_at new v ≡ held_at old v) → map (row_of n) new ≡ map (row_of n) old
rows_same n old new len same =
    same_list [] (map (row_of n) new) (map (row_of n) old) (length-map new (row_of n) ∙ len ∙ sym (length-map old (row_of n)))
    (λ v below.
    let vin : v < length new = subst (λ k. v < k) (length-map new (row_of n)) below in
    row_get n new v vin ∙ ap (λ counts. map (count_in counts) (range_with_len 0 n)) (same v) ∙ sym (row_get n old v (subst (λ k. v < k) len vin)))

pub totalled_same : (old new : List Holding) (totals : List ℕ) → length new ≡ length old → ((v : ℕ) → held_at new v ≡ held_at old v) → AreTotalled old totals → AreTotalled new totals
totalled_same old new totals len same kept = record {
  slots = kept.slots;
  few = subst (λ n. n ≤ 65536) (sym len) kept.few;
  within = λ w m past. ap (λ counts. count_in counts m) (same w) ∙ kept.within w m past;
  small = λ w m. subst (λ counts. count_in counts m ≤ 65535) (sym (same w)) (kept.small w m);
  sums = λ m below. kept.sums m below ∙ ap (λ rows. pairs rows m) (sym (rows_same (length totals) old new len same));
}

pub set_same_counts : (holdings : List Holding) (w : ℕ) (new : Holding) → w < length holdings → new.counts ≡ held_at holdings w → (v : ℕ)
    → held_at (set holdings w new) v ≡ held_at holdings v
set_same_counts holdings w new within same v = elim (told (eqb w v)) [
  | inl t ↦ (let is : w ≡ v = eqb-true w v t in
      subst (λ k. held_at (set holdings w new) k ≡ held_at holdings k) is (ap (λ (h : Holding). h.counts) (get_or-set_same holdings w new no_holding within) ∙ same))
  | inr t ↦ (let other : v ≢ w = λ is. cc (eq-eqb w v (sym is), t) in ap (λ (h : Holding). h.counts) (get_or-set_other holdings w v new no_holding other))
]

-- the rows after a count was written
pub rows_written : (n : ℕ) (old new : List Holding) (w s c : ℕ) → length new ≡ length old → w < length old → s < n
    → ((v m : ℕ) → count_in (held_at new v) m ≡ cond (eqb w v && eqb s m) c (count_in (held_at old v) m))
    → map (row_of n) new ≡ set (map (row_of n) old) w (set (get_or (map (row_of n) old) w []) s c)
rows_written n old new w s c len win sin is = same_list [] (map (row_of n) new) after
    (length-map new (row_of n) ∙ len ∙ sym (length-map old (row_of n)) ∙ sym (length-set (map (row_of n) old) w (set (get_or (map (row_of n) old) w []) s c))) at where
      after : List (List ℕ)
      after = set (map (row_of n) old) w (set (get_or (map (row_of n) old) w []) s c)

      at : (v : ℕ) → v < length (map (row_of n) new) → get_or (map (row_of n) new) v [] ≡ get_or (set (map (row_of n) old) w (set (get_or (map (row_of n) old) w []) s c)) v []
      at v below = elim (told (eqb w v)) [
        | inl t ↦ (let same : w ≡ v = eqb-true w v t in
            subst (λ k. get_or (map (row_of n) new) k [] ≡ get_or (set (map (row_of n) old) w (set (get_or (map (row_of n) old) w []) s c)) k []) same
            (row_get n new w (subst (λ k. w < k) (sym len) win)
            ∙ row_set n (get_or old w no_holding) (get_or new w no_holding) s c sin (λ m. is w m ∙ ap (λ b. cond (b && eqb s m) c (count_in (held_at old w) m)) (eq-eqb w w refl))
            ∙ ap (λ r. set r s c) (sym (row_get n old w win))
            ∙ sym (get_or-set_same (map (row_of n) old) w (set (get_or (map (row_of n) old) w []) s c) [] (subst (λ k. w < k) (sym (length-map old (row_of n))) win))))
        | inr t ↦ (let other : v ≢ w = λ e. cc (eq-eqb w v (sym e), t) in
            let vin : v < length new = subst (λ k. v < k) (length-map new (row_of n)) below in
            let vold : v < length old = subst (λ k. v < k) len vin in
            row_get n new v vin
            ∙ sym (same_row n (get_or new v no_holding) (row_of n (get_or old v no_holding)) (length-row_of n (get_or old v no_holding))
            (λ m min. row_at n (get_or old v no_holding) m min ∙ sym (is v m ∙ ap (λ b. cond (b && eqb s m) c (count_in (held_at old v) m)) t)))
            ∙ sym (row_get n old v vold)
            ∙ sym (get_or-set_other (map (row_of n) old) w v (set (get_or (map (row_of n) old) w []) s c) [] other))
      ]

pub totalled_written : (old new : List Holding) (totals : List ℕ) (w s c x : ℕ) → AreTotalled old totals → length new ≡ length old → w < length old → s < length totals
    → c ≤ 65535
    → ((v m : ℕ) → count_in (held_at new v) m ≡ cond (eqb w v && eqb s m) c (count_in (held_at old v) m))
    → x + count_in (held_at old w) s ≡ get_or totals s 0 + c
    → AreTotalled new (set totals s x)
totalled_written old new totals w s c x kept len win sin few is sum = record {
  slots = subst (λ n. n ≤ 65535) (sym (length-set totals s x)) kept.slots;
  few = subst (λ n. n ≤ 65536) (sym len) kept.few;
  within = λ v m past. none v m (subst (λ n. n ≤ m) (length-set totals s x) past);
  small = small;
  sums = λ m below. subst (λ n. get_or (set totals s x) m 0 ≡ pairs (map (row_of n) new) m) (sym (length-set totals s x)) (summed m below);
} where
  none : (v m : ℕ) → length totals ≤ m → count_in (held_at new v) m ≡ 0
  none v m past = elim (told (eqb s m)) [
    | inl t ↦ (let same : s ≡ m = eqb-true s m t in absurd (omega (arith, same, past, sin)))
    | inr t ↦ is v m ∙ elim (told (eqb w v)) [
      | inl u ↦ ap (λ b. cond (b && eqb s m) c (count_in (held_at old v) m)) u ∙ ap (λ b. cond b c (count_in (held_at old v) m)) t ∙ kept.within v m past
      | inr u ↦ ap (λ b. cond (b && eqb s m) c (count_in (held_at old v) m)) u ∙ kept.within v m past
    ]
  ]

  small : (v m : ℕ) → count_in (held_at new v) m ≤ 65535
  small v m = elim (told (eqb w v && eqb s m)) [
    | inl t ↦ subst (λ n. n ≤ 65535) (sym (is v m ∙ ap (λ b. cond b c (count_in (held_at old v) m)) t)) few
    | inr t ↦ subst (λ n. n ≤ 65535) (sym (is v m ∙ ap (λ b. cond b c (count_in (held_at old v) m)) t)) (kept.small v m)
  ]

  rows : List (List ℕ)
  rows = map (row_of (length totals)) old

  row_is : get_or (get_or (map (row_of (length totals)) old) w []) s 0 ≡ count_in (held_at old w) s
  row_is = ap (λ r. get_or r s 0) (row_get (length totals) old w win) ∙ row_at (length totals) (get_or old w no_holding) s sin

  row_len : length (get_or (map (row_of (length totals)) old) w []) ≡ length totals
  row_len = ap (λ (r : List ℕ). length r) (row_get (length totals) old w win) ∙ length-row_of (length totals) (get_or old w no_holding)

  summed : (m : ℕ) → m < length (set totals s x) → get_or (set totals s x) m 0 ≡ pairs (map (row_of (length totals)) new) m
  summed m below =
      totals_set (map (row_of (length totals)) old) totals w s c x (subst (λ n. w < n) (sym (length-map old (row_of (length totals)))) win)
      (subst (λ n. s < n) (sym row_len) sin) sin (ap (λ n. x + n) row_is ∙ sum) kept.sums m below
      ∙ ap (λ rs. pairs rs m) (sym (rows_written (length totals) old new w s c len win sin is))

pub push_counts : (old : List Holding) (h : Holding) → h.counts ≡ [] → (v : ℕ) → held_at (old ++ h ∷ []) v ≡ held_at old v
push_counts [] h none zero = none
push_counts [] h none (suc v) = refl
push_counts (o ∷ old) h none zero = refl
push_counts (o ∷ old) h none (suc v) = push_counts old h none v

-- a row of one that holds nothing
pub nothing_row : (n : ℕ) (h : Holding) → h.counts ≡ [] → row_of n h ≡ nothing n
nothing_row n h none =
    sym (same_row n h (nothing n) (length-replicate n 0) (λ m below. get_or-replicate n m 0 0 below ∙ sym (ap (λ counts. count_in counts m) none)))

pub rows_pushed : (n : ℕ) (old : List Holding) (h : Holding) → h.counts ≡ [] → map (row_of n) (old ++ h ∷ []) ≡ map (row_of n) old ++ nothing n ∷ []
rows_pushed n old h none = map-append (row_of n) old (h ∷ []) ∙ ap (λ row. map (row_of n) old ++ row ∷ []) (nothing_row n h none)

pub totalled_pushed : (old : List Holding) (h : Holding) (totals : List ℕ) → h.counts ≡ [] → length old < 65536 → AreTotalled old totals → AreTotalled (old ++ h ∷ []) totals
totalled_pushed old h totals none room kept = record {
  slots = kept.slots;
  few = omega (arith, length-append old (h ∷ []), room);
  within = λ w m past. ap (λ counts. count_in counts m) (push_counts old h none w) ∙ kept.within w m past;
  small = λ w m. subst (λ counts. count_in counts m ≤ 65535) (sym (push_counts old h none w)) (kept.small w m);
  sums = sums;
} where
  sums : (m : ℕ) → m < length totals → get_or totals m 0 ≡ pairs (map (row_of (length totals)) (old ++ h ∷ [])) m
  sums m below =
      let rows = map (row_of (length totals)) old in
      let split = sum_by-append (λ (r : List ℕ). get_or r m 0) (map (row_of (length totals)) old) (nothing (length totals) ∷ []) in
      let one = sum_by-cons (λ (r : List ℕ). get_or r m 0) (nothing (length totals)) [] in
      let zero_there = get_or-replicate {A = ℕ} (length totals) m 0 0 below in
      let whole = ap (λ rs. pairs rs m) (rows_pushed (length totals) old h none) in
      omega (arith, split, one, zero_there, whole, kept.sums m below)

-- each holder that is left is one that was there
pub swapped_at : (xs : List Holding) (i : ℕ) (d : Holding) → i < length xs → (k : ℕ) → (j : ℕ) × (get_or (swap_remove xs i d) k no_holding ≡ get_or xs j no_holding)
swapped_at xs i d within k = at (cases_lt k (length xs - 1)) (told (eqb i k)) where
  moved : Holding
  moved = get_or xs (length xs - 1) d

  at : (k < length xs - 1) ⊎ (length xs - 1 ≤ k) → (eqb i k ≡ true) ⊎ (eqb i k ≡ false) → (j : ℕ) × (get_or (swap_remove xs i d) k no_holding ≡ get_or xs j no_holding)
  at (inl below) (inl t) =
      let same : i ≡ k = eqb-true i k t in (
        length xs - 1,
        get_or-take (length xs - 1) (set xs i (get_or xs (length xs - 1) d)) k no_holding below
            ∙ ap (λ l. get_or (set xs i (get_or xs (length xs - 1) d)) l no_holding) (sym same)
            ∙ get_or-set_same xs i (get_or xs (length xs - 1) d) no_holding within
            ∙ any_default xs (length xs - 1) d no_holding (omega (arith, within)),
      )
  at (inl below) (inr t) =
      let other : k ≢ i = λ e. cc (eq-eqb i k (sym e), t) in
      (k, get_or-take (length xs - 1) (set xs i (get_or xs (length xs - 1) d)) k no_holding below ∙ get_or-set_other xs i k (get_or xs (length xs - 1) d) no_holding other)
  at (inr past) _ =
      let len : length (swap_remove xs i d) ≤ k =
      omega (arith, past, length-take-le (length xs - 1) (set xs i (get_or xs (length xs - 1) d)) (omega (arith, length-set xs i (get_or xs (length xs - 1) d)))) in
      (length xs, get_or_past (swap_remove xs i d) k no_holding len ∙ sym (get_or_past xs (length xs) no_holding (omega arith)))

pub length-swapped : {X : Type 0} (xs : List X) (i : ℕ) (d : X) → length (swap_remove xs i d) ≡ length xs - 1
length-swapped xs i d = length-take-le (length xs - 1) (set xs i (get_or xs (length xs - 1) d)) (omega (arith, length-set xs i (get_or xs (length xs - 1) d)))

pub totalled_swapped : (old : List Holding) (w : ℕ) (d : Holding) (totals : List ℕ) → w < length old
    → IsIdle (get_or (map (row_of (length totals)) old) w []) → AreTotalled old totals → AreTotalled (swap_remove old w d) totals
totalled_swapped old w d totals win idle kept = record {
  slots = kept.slots;
  few = omega (arith, length-swapped old w d, kept.few);
  within = λ v m past. let at = swapped_at old w d win v in ap (λ (h : Holding). count_in h.counts m) at.1 ∙ kept.within at.0 m past;
  small = λ v m. let at = swapped_at old w d win v in subst (λ (h : Holding). count_in h.counts m ≤ 65535) (sym at.1) (kept.small at.0 m);
  sums = sums;
} where
  sums : (m : ℕ) → m < length totals → get_or totals m 0 ≡ pairs (map (row_of (length totals)) (swap_remove old w d)) m
  sums m below =
      let whole = ap (λ rs. pairs rs m) (map-swap_remove (row_of (length totals)) old w d [] win) in
      let less = sum_by-swap_remove (λ (r : List ℕ). get_or r m 0) (map (row_of (length totals)) old) w [] (subst (λ n. w < n) (sym (length-map old (row_of (length totals)))) win) in
      omega (arith, whole, less, idle m, kept.sums m below)

-- what is left after a swap was there, at a place
pub swapped_row : {X : Type 0} (e : X) (xs : List X) (i : ℕ) (d : X) → i < length xs → (k : ℕ) → k < length (swap_remove xs i d)
    → (j : ℕ) × (j < length xs) × (get_or (swap_remove xs i d) k e ≡ get_or xs j e)
swapped_row {X} e xs i d within k below = at (told (eqb i k)) where
  less : k < length xs - 1
  less = subst (λ n. k < n) (length-swapped xs i d) below

  at : (eqb i k ≡ true) ⊎ (eqb i k ≡ false) → (j : ℕ) × (j < length xs) × (get_or (swap_remove xs i d) k e ≡ get_or xs j e)
  at (inl t) =
      let same : i ≡ k = eqb-true i k t in (
        length xs - 1,
        omega (arith, within),
        get_or-take (length xs - 1) (set xs i (get_or xs (length xs - 1) d)) k e (subst (λ n. k < n) (length-swapped xs i d) below)
            ∙ ap (λ l. get_or (set xs i (get_or xs (length xs - 1) d)) l e) (sym same)
            ∙ get_or-set_same xs i (get_or xs (length xs - 1) d) e within
            ∙ any_default xs (length xs - 1) d e (omega (arith, within)),
      )
  at (inr t) =
      let other : k ≢ i = λ is. cc (eq-eqb i k (sym is), t) in (
        k,
        omega (arith, subst (λ n. k < n) (length-swapped xs i d) below),
        get_or-take (length xs - 1) (set xs i (get_or xs (length xs - 1) d)) k e (subst (λ n. k < n) (length-swapped xs i d) below)
            ∙ get_or-set_other xs i k (get_or xs (length xs - 1) d) e other,
      )
