-- Who is noted as a user of a slot, and whether one of them is loaded.
use Rattle.std.proofs.Common.{◌≡◌, ℕ, zero, suc, ◌+◌, ◌<◌, ◌≤◌, Bool, true, false, cond, eqb, ◌||◌, ◌&&◌, ◌⊎◌, inl, inr, List, [], ◌∷◌, ◌++◌, length, map, set, get_or, Vec, refl, sym, ◌∙◌, ap, subst, arith}
use Rattle.std.specs.declared.alloc.Global.{Global}
use Rattle.std.specs.List.{list_any}
use Rattle.std.proofs.lemmas.Bool.{cases_eq, cases_lt, eqb-true, eq-eqb, or_left, or_right, and_parts, and_from}
use Rattle.std.proofs.lemmas.List.{length-append, length-map, set-get_or, map-set, map_push, get_or_append_left, get_or_push, get_or_past, get_or-set_same, get_or-set_other, get_or-map}
use Rattle.std.proofs.lemmas.List.Folds.{list_any-append}
use Rattle.dep_index.specs.Table.{Module, no_module, module_at, needs_slot}
use Rattle.dep_index.specs.Slots.{rows_in, is_noted, AreNoted, AreKept, AreNotedFor}

-- one more empty row changes no row
row_padded : (rows : List (List ℕ)) (m : ℕ) → get_or (rows ++ [] ∷ []) m [] ≡ get_or rows m []
row_padded [] zero = refl
row_padded [] (suc m) = refl
row_padded (r ∷ rows) zero = refl
row_padded (r ∷ rows) (suc m) = row_padded rows m

pub rows_padded : (rows : List (Vec ℕ Global)) (row : Vec ℕ Global) (m : ℕ) → row.items ≡ [] → get_or (rows_in (rows ++ row ∷ [])) m [] ≡ get_or (rows_in rows) m []
rows_padded rows row m empty =
    ap (λ (rs : List (List ℕ)). get_or rs m []) (map_push (λ (r : Vec ℕ Global). r.items) rows row ∙ ap (λ (r : List ℕ). rows_in rows ++ r ∷ []) empty)
    ∙ row_padded (rows_in rows) m

any_behind : (p : ℕ → Bool) (xs : List ℕ) (y : ℕ) → list_any p xs ≡ true → list_any p (xs ++ y ∷ []) ≡ true
any_behind p xs y some = list_any-append p xs (y ∷ []) ∙ or_left (list_any p xs) (list_any p (y ∷ [])) some

any_last : (xs : List ℕ) (y : ℕ) → list_any (λ s. eqb s y) (xs ++ y ∷ []) ≡ true
any_last xs y =
    let here : list_any (λ s. eqb s y) (y ∷ []) ≡ true = or_left (eqb y y) false (eq-eqb y y refl) in
    list_any-append (λ s. eqb s y) xs (y ∷ []) ∙ or_right (list_any (λ s. eqb s y) xs) (list_any (λ s. eqb s y) (y ∷ [])) here

-- one more user in a row
pub kept_push : (rows : List (List ℕ)) (slot user : ℕ) → slot < length rows → AreKept rows (set rows slot (get_or rows slot [] ++ user ∷ []))
kept_push rows slot user within m u noted = at (cases_eq m slot) where
  at : (m ≡ slot) ⊎ (m ≡ slot → ⊥) → is_noted (set rows slot (get_or rows slot [] ++ user ∷ [])) m u ≡ true
  at (inl e) =
      let here : get_or (set rows slot (get_or rows slot [] ++ user ∷ [])) m [] ≡ get_or rows m [] ++ user ∷ [] =
      ap (λ (k : ℕ). get_or (set rows slot (get_or rows slot [] ++ user ∷ [])) k []) e
      ∙ get_or-set_same rows slot (get_or rows slot [] ++ user ∷ []) [] within
      ∙ ap (λ (k : ℕ). get_or rows k [] ++ user ∷ []) (sym e) in
      ap (list_any (λ s. eqb s u)) here ∙ any_behind (λ s. eqb s u) (get_or rows m []) user noted
  at (inr ne) = ap (list_any (λ s. eqb s u)) (get_or-set_other rows slot m (get_or rows slot [] ++ user ∷ []) [] ne) ∙ noted

pub noted_push : (rows : List (List ℕ)) (slot user : ℕ) → slot < length rows → is_noted (set rows slot (get_or rows slot [] ++ user ∷ [])) slot user ≡ true
noted_push rows slot user within =
    ap (list_any (λ s. eqb s user)) (get_or-set_same rows slot (get_or rows slot [] ++ user ∷ []) [] within) ∙ any_last (get_or rows slot []) user

-- a module behind the others, noted in the rows of its needs
pub noted_module : (ms : List Module) (m : Module) (rows rows' : List (List ℕ)) (user : ℕ) → user ≡ length ms → AreNoted ms rows → AreKept rows rows' → AreNotedFor m.needs rows' user → AreNoted (ms ++ m ∷ []) rows'
noted_module ms m rows rows' user last noted kept own slot u needed = at (cases_eq u (length ms)) where
  at : (u ≡ length ms) ⊎ (u ≡ length ms → ⊥) → is_noted rows' slot u ≡ true
  at (inl e) =
      let here : module_at (ms ++ m ∷ []) u ≡ m = get_or_push ms m no_module u (sym e) in
      let needed' : list_any (λ n. eqb n slot) m.needs ≡ true = sym (ap (λ (x : Module). list_any (λ n. eqb n slot) x.needs) here) ∙ needed in
      subst (λ (k : ℕ). is_noted rows' slot k ≡ true) (last ∙ sym e) (own slot needed')
  at (inr ne) = below (cases_lt u (length ms)) where
    below : (u < length ms) ⊎ (length ms ≤ u) → is_noted rows' slot u ≡ true
    below (inl h) =
        let here : module_at (ms ++ m ∷ []) u ≡ module_at ms u = get_or_append_left ms (m ∷ []) no_module u h in
        kept slot u (noted slot u (sym (ap (λ (x : Module). list_any (λ n. eqb n slot) x.needs) here) ∙ needed))
    below (inr h) =
        let here : module_at (ms ++ m ∷ []) u ≡ no_module = get_or_past (ms ++ m ∷ []) u no_module (past h) in
        let none : false ≡ true = sym (ap (λ (x : Module). list_any (λ n. eqb n slot) x.needs) here) ∙ needed in
        absurd (cc) where
          past : length ms ≤ u → length (ms ++ m ∷ []) ≤ u
          past l = at' (cases_lt (length ms) u) where
            at' : (length ms < u) ⊎ (u ≤ length ms) → length (ms ++ m ∷ []) ≤ u
            at' (inl lt) = omega (arith, length-append ms (m ∷ []))
            at' (inr le) = absurd (ne (omega (arith, l, le)))

-- a test that finds an element finds it by its number
found : (p : ℕ → Bool) (xs : List ℕ) → list_any p xs ≡ true → (u : ℕ) × (list_any (λ s. eqb s u) xs ≡ true) × (p u ≡ true)
found p [] some = absurd (cc)
found p (x ∷ xs) some = at (p x) refl (found p xs) some where
  at : (b : Bool) → p x ≡ b → (list_any p xs ≡ true → (u : ℕ) × (list_any (λ s. eqb s u) xs ≡ true) × (p u ≡ true)) → (b || list_any p xs) ≡ true
      → (u : ℕ) × (list_any (λ s. eqb s u) (x ∷ xs) ≡ true) × (p u ≡ true)
  at true e rest any = (x, or_left (eqb x x) (list_any (λ s. eqb s x) xs) (eq-eqb x x refl), e)
  at false e rest any =
      let w = rest any in
      (w.0, or_right (eqb x w.0) (list_any (λ s. eqb s w.0) xs) w.1, w.2)

present : (q : ℕ → Bool) (u : ℕ) (xs : List ℕ) → list_any (λ s. eqb s u) xs ≡ true → q u ≡ true → list_any q xs ≡ true
present q u [] some e = absurd (cc)
present q u (x ∷ xs) some e = at (eqb x u) refl (present q u xs) some where
  at : (b : Bool) → eqb x u ≡ b → (list_any (λ s. eqb s u) xs ≡ true → q u ≡ true → list_any q xs ≡ true) → (b || list_any (λ s. eqb s u) xs) ≡ true → list_any q (x ∷ xs) ≡ true
  at true same rest any = or_left (q x) (list_any q xs) (ap q (eqb-true x u same) ∙ e)
  at false other rest any = or_right (q x) (list_any q xs) (rest any e)

-- among those that are noted a user is loaded if one is in the order
pub loaded_users : (p : ℕ → Bool) (order row : List ℕ) → ((u : ℕ) → p u ≡ true → list_any (λ s. eqb s u) row ≡ true)
    → list_any (λ u. list_any (λ s. eqb s u) order && p u) row ≡ list_any p order
loaded_users p order row noted = at (list_any (λ u. list_any (λ s. eqb s u) order && p u) row) (list_any p order) refl refl where
  at : (a b : Bool) → list_any (λ u. list_any (λ s. eqb s u) order && p u) row ≡ a → list_any p order ≡ b → a ≡ b
  at true true here there = refl
  at false false here there = refl
  at true false here there =
      let w = found (λ u. list_any (λ s. eqb s u) order && p u) row here in
      let parts = and_parts (list_any (λ s. eqb s w.0) order) (p w.0) w.2 in
      sym (present p w.0 order parts.0 parts.1) ∙ there
  at false true here there =
      let w = found p order there in
      sym here ∙ present (λ u. list_any (λ s. eqb s u) order && p u) w.0 row (noted w.0 w.2) (and_from (list_any (λ s. eqb s w.0) order) (p w.0) w.1 w.2)

-- what a row of the program is after a write
rows_set : (rows : List (Vec ℕ Global)) (slot : ℕ) (v : Vec ℕ Global) → rows_in (set rows slot v) ≡ set (rows_in rows) slot v.items
rows_set rows slot v = map-set (λ (r : Vec ℕ Global). r.items) rows slot v

row_items : (rows : List (Vec ℕ Global)) (slot : ℕ) (row : Vec ℕ Global) → slot < length rows → row ≡ get_or rows slot row → row.items ≡ get_or (rows_in rows) slot []
row_items rows slot row within read = ap (λ (r : Vec ℕ Global). r.items) read ∙ sym (get_or-map (λ (r : Vec ℕ Global). r.items) rows slot row [] within)

row_pushed : (rows : List (Vec ℕ Global)) (slot user : ℕ) (row v : Vec ℕ Global) → slot < length rows → row ≡ get_or rows slot row → v.items ≡ row.items ++ user ∷ []
    → rows_in (set rows slot v) ≡ set (rows_in rows) slot (get_or (rows_in rows) slot [] ++ user ∷ [])
row_pushed rows slot user row v within read items =
    rows_set rows slot v ∙ ap (set (rows_in rows) slot) (items ∙ ap (λ (r : List ℕ). r ++ user ∷ []) (row_items rows slot row within read))

pub note_noted : (rows : List (Vec ℕ Global)) (slot user : ℕ) (row v : Vec ℕ Global) → slot < length rows → row ≡ get_or rows slot row → v.items ≡ row.items ++ user ∷ []
    → is_noted (rows_in (set rows slot v)) slot user ≡ true
note_noted rows slot user row v within read items =
    ap (λ (rs : List (List ℕ)). is_noted rs slot user) (row_pushed rows slot user row v within read items)
    ∙ noted_push (rows_in rows) slot user (omega (arith, length-map rows (λ (r : Vec ℕ Global). r.items)))

pub note_kept : (old : List (List ℕ)) (rows : List (Vec ℕ Global)) (slot user : ℕ) (row v : Vec ℕ Global) → ((m : ℕ) → get_or (rows_in rows) m [] ≡ get_or old m [])
    → slot < length rows → row ≡ get_or rows slot row → v.items ≡ row.items ++ user ∷ [] → AreKept old (rows_in (set rows slot v))
note_kept old rows slot user row v same within read items m u noted =
    ap (λ (rs : List (List ℕ)). is_noted rs m u) (row_pushed rows slot user row v within read items)
    ∙ kept_push (rows_in rows) slot user (omega (arith, length-map rows (λ (r : Vec ℕ Global). r.items))) m u (ap (list_any (λ s. eqb s u)) (same m) ∙ noted)

-- a row that was not written
pub note_failed : (old : List (List ℕ)) (rows : List (Vec ℕ Global)) (slot : ℕ) (row v : Vec ℕ Global) → ((m : ℕ) → get_or (rows_in rows) m [] ≡ get_or old m [])
    → slot < length rows → row ≡ get_or rows slot row → v.items ≡ row.items → AreKept old (rows_in (set rows slot v))
note_failed old rows slot row v same within read items m u noted =
    let unchanged : rows_in (set rows slot v) ≡ rows_in rows =
    rows_set rows slot v ∙ ap (set (rows_in rows) slot) (items ∙ row_items rows slot row within read) ∙ set-get_or (rows_in rows) slot [] in
    ap (λ (rs : List (List ℕ)). is_noted rs m u) unchanged ∙ ap (list_any (λ s. eqb s u)) (same m) ∙ noted
