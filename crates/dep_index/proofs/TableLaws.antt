-- The laws of the one-thread table: each call keeps them.
use Rattle.std.proofs.Common.{◌≡◌, ◌≢◌, ℕ, zero, suc, ◌+◌, ◌-◌, ◌<◌, ◌≤◌, Bool, true, false, not, ◌||◌, ◌&&◌, ◌⊎◌, eqb, ltb, leb, cond, List, [], ◌∷◌, ◌++◌, length, get_or, Option, Some, None, refl, sym, ◌∙◌, ap, subst, arith, inl, inr, get_or-set_same, get_or-set_other}
use Rattle.std.proofs.Math.ListN.{set}
use Rattle.std.proofs.lemmas.Bool.Decides.{nat_tests}
use Rattle.std.proofs.lemmas.Bool.{cases_eq, eq-eqb, ne_eqb, not-false, false≢true}
use Rattle.std.proofs.lemmas.List.Sums.{sum_by-cons, sum_by_push}
use Rattle.std.specs.List.{count_by}
use Rattle.dep_index.specs.declared.table.states.ModuleState.{ModuleState}
use Rattle.dep_index.specs.declared.table.states.ModuleState.TheVariants.{Absent, Loading, Live, Draining, Unloading}
use Rattle.dep_index.specs.declared.table.calls.Call.{Call}
use Rattle.dep_index.specs.declared.table.calls.Call.TheVariants.{Get, Put, InUse as Query, BeginLoad, EndLoad, BeginDrain, BeginRemove, EndRemove, CancelRemove}
use Rattle.dep_index.specs.declared.table.calls.Reply.{Reply}
use Rattle.dep_index.specs.declared.table.calls.Reply.TheVariants.{NotLive, TooMany, UnknownSymbol, NeededBy, Permanent, InUse}
use Rattle.dep_index.specs.Table.{Module, Book, Table, state_of, is_absent, is_loading, is_live, is_draining, is_unloading, takes_references, needs_slot, has_users, count_of, is_held, holders, module_at}
use Rattle.dep_index.specs.Calls.{refuse, or_else, refusal, book_refusal, unload_refusal, first_missing, missing_need, effect, book_effect, with_state, without, after, IsInRange}
use Rattle.dep_index.specs.Laws.{IsShaped, OrderIsExact, PairsAreOpen, NeedsAreLive, IsLawful}
use Rattle.dep_index.proofs.Lists.{count_by-removed_same, count_by-removed_other, list_any-none_of, find-none_of}

-- one slot has another state, and the others keep theirs
pub record StateChange (book next : Book) (m : ℕ) (s : ModuleState) : Type 0 where
  pub same : state_of next m ≡ s
  pub other : (k : ℕ) → k ≢ m → state_of next k ≡ state_of book k

pub state_change : (states : List ModuleState) (order after : List ℕ) (m : ℕ) (s : ModuleState) → m < length states
    → StateChange (record { states = states; order = order }) (record { states = set states m s; order = after }) m s
state_change states order after m s h =
    record {
      same = get_or-set_same states m s Absent h;
      other = λ k ne. get_or-set_other states m k s Absent ne;
    }

-- what a test that is not refused says
pub passed : (b : Bool) (r : Reply) (later : Option Reply) → refuse b r later ≡ None → (b ≡ false) × (later ≡ None)
passed true r later e = cc
passed false r later e = (refl, e)

pub both_passed : (a b : Option Reply) → or_else a b ≡ None → (a ≡ None) × (b ≡ None)
both_passed None b e = (refl, e)
both_passed (Some r) b e = cc

pub none_missing : (o : Option ℕ) → missing_need o ≡ None → o ≡ None
none_missing None e = refl
none_missing (Some n) e = cc

-- the order of a book whose slot m changes its state and stays in the table, or stays out of it
pub order_kept : (book new : Book) (m : ℕ) (s : ModuleState) → StateChange book new m s → new.order ≡ book.order
    → is_absent (state_of book m) ≡ is_absent s → OrderIsExact book → OrderIsExact new
order_kept book new m s change same stays exact k = at (cases_eq k m) where
  at : (k ≡ m) ⊎ (k ≡ m → ⊥) → count_by (λ i. eqb i k) new.order ≡ cond (is_absent (state_of new k)) 0 1
  at (inl e) =
      let at_m : count_by (λ i. eqb i m) new.order ≡ cond (is_absent (state_of new m)) 0 1 =
      rw (same, change.same, ← stays) (exact m) in
      subst (λ (i : ℕ). count_by (λ j. eqb j i) new.order ≡ cond (is_absent (state_of new i)) 0 1) (sym e) at_m
  at (inr ne) = rw (same, change.other k ne) (exact k)

-- what a book needs stays Live if the changed slot has no users or becomes Live
pub needs_kept : (catalogue : List Module) (book new : Book) (m : ℕ) (s : ModuleState) → StateChange book new m s
    → ((n : ℕ) → n ≢ m → is_absent s ≡ false → needs_slot catalogue n m ≡ true → state_of book n ≡ Live)
    → ((u : ℕ) → is_absent (state_of new u) ≡ false → needs_slot catalogue m u ≡ true → s ≡ Live)
    → NeedsAreLive catalogue book → NeedsAreLive catalogue new
needs_kept catalogue book new m s change own used live u n present needs = at (cases_eq n m) where
  of_other : (n ≡ m → ⊥) → (u ≡ m) ⊎ (u ≡ m → ⊥) → state_of book n ≡ Live
  of_other ne (inl e) =
      let there : is_absent (state_of new m) ≡ false = subst (λ (i : ℕ). is_absent (state_of new i) ≡ false) e present in
      let there' : is_absent s ≡ false = rw change.same at there in
      own n ne there' (subst (λ (i : ℕ). needs_slot catalogue n i ≡ true) e needs)
  of_other ne (inr nu) =
      let there : is_absent (state_of book u) ≡ false = rw (change.other u nu) at present in live u n there needs

  at : (n ≡ m) ⊎ (n ≡ m → ⊥) → state_of new n ≡ Live
  at (inl e) =
      let is : state_of new m ≡ Live = change.same ∙ used u present (subst (λ (i : ℕ). needs_slot catalogue i u ≡ true) e needs) in
      subst (λ (i : ℕ). state_of new i ≡ Live) (sym e) is
  at (inr ne) = change.other n ne ∙ of_other ne (cases_eq u m)

-- the pairs of a table whose book changes the state of one slot
pub pairs_kept : (table : Table) (new : Book) (m : ℕ) (s : ModuleState) → StateChange table.book new m s
    → ((w : ℕ) → 0 < count_of table w m → takes_references s ≡ true)
    → PairsAreOpen table → PairsAreOpen (record { book = new; rows = table.rows })
pairs_kept table new m s change takes known w k held = (at (cases_eq k m), (known w k held).1) where
  at : (k ≡ m) ⊎ (k ≡ m → ⊥) → takes_references (state_of new k) ≡ true
  at (inl e) =
      let at_m : takes_references (state_of new m) ≡ true =
      rw change.same (takes w (subst (λ (i : ℕ). 0 < count_of table w i) e held)) in
      subst (λ (i : ℕ). takes_references (state_of new i) ≡ true) (sym e) at_m
  at (inr ne) = rw (change.other k ne) ((known w k held).0)

pub book_changed : (catalogue : List Module) (table : Table) (new : Book) (m : ℕ) (s : ModuleState) → StateChange table.book new m s
    → OrderIsExact new
    → ((w : ℕ) → 0 < count_of table w m → takes_references s ≡ true)
    → ((n : ℕ) → n ≢ m → is_absent s ≡ false → needs_slot catalogue n m ≡ true → state_of table.book n ≡ Live)
    → ((u : ℕ) → is_absent (state_of new u) ≡ false → needs_slot catalogue m u ≡ true → s ≡ Live)
    → IsLawful catalogue table → IsLawful catalogue (record { book = new; rows = table.rows })
book_changed catalogue table new m s change order takes own used lawful =
    record {
      order = order;
      pairs = pairs_kept table new m s change takes lawful.pairs;
      needs = needs_kept catalogue table.book new m s change own used lawful.needs;
    }

-- one state is not another
pub live_from : (s : ModuleState) → is_live s ≡ true → s ≡ Live
live_from Live e = refl
live_from Absent e = cc
live_from Loading e = cc
live_from Draining e = cc
live_from Unloading e = cc

pub absent_from : (s : ModuleState) → is_absent s ≡ true → s ≡ Absent
absent_from Absent e = refl
absent_from Live e = cc
absent_from Loading e = cc
absent_from Draining e = cc
absent_from Unloading e = cc

pub loading_from : (s : ModuleState) → is_loading s ≡ true → s ≡ Loading
loading_from Loading e = refl
loading_from Absent e = cc
loading_from Live e = cc
loading_from Draining e = cc
loading_from Unloading e = cc

-- if no worker holds the slot, each count is 0
pub none_held : (rows : List (List ℕ)) (m w : ℕ) → holders rows m ≡ 0 → get_or (get_or rows w []) m 0 ≡ 0
none_held [] m w none = refl
none_held (row ∷ rows) m zero none =
    let parts : cond (ltb 0 (get_or row m 0)) 1 0 + holders rows m ≡ 0 = sym (sum_by-cons (λ r. cond (ltb 0 (get_or r m 0)) 1 0) row rows) ∙ none in
    here (ltb 0 (get_or row m 0)) refl parts where
      here : (b : Bool) → ltb 0 (get_or row m 0) ≡ b → cond b 1 0 + holders rows m ≡ 0 → get_or row m 0 ≡ 0
      here true e p = absurd (omega arith)
      here false e p = grind (arith, nat_tests)
none_held (row ∷ rows) m (suc w) none =
    let parts : cond (ltb 0 (get_or row m 0)) 1 0 + holders rows m ≡ 0 = sym (sum_by-cons (λ r. cond (ltb 0 (get_or r m 0)) 1 0) row rows) ∙ none in
    none_held rows m w (omega (arith, parts))

pub takes_absent : (s : ModuleState) → is_absent s ≡ true → takes_references s ≡ true → ⊥
takes_absent s a t = let e : s ≡ Absent = absent_from s a in let bad : false ≡ true = subst (λ (x : ModuleState). takes_references x ≡ true) e t in false≢true bad

pub takes_loading : (s : ModuleState) → is_loading s ≡ true → takes_references s ≡ true → ⊥
takes_loading s a t = let e : s ≡ Loading = loading_from s a in let bad : false ≡ true = subst (λ (x : ModuleState). takes_references x ≡ true) e t in false≢true bad

pub not_live : (s : ModuleState) → is_live s ≡ false → s ≡ Live → ⊥
not_live s a e = let bad : true ≡ false = subst (λ (x : ModuleState). is_live x ≡ false) e a in false≢true (sym bad)

-- a load begins
pub begin_load_lawful : (catalogue : List Module) (table : Table) (m : ℕ) → m < length table.book.states
    → is_absent (state_of table.book m) ≡ true → first_missing catalogue table.book m ≡ None
    → IsLawful catalogue table → IsLawful catalogue (effect table (BeginLoad m))
begin_load_lawful catalogue table m room absent none lawful =
    book_changed catalogue table (book_effect table.book (BeginLoad m)) m Loading
    (state_change table.book.states table.book.order (table.book.order ++ m ∷ []) m Loading room)
    order
    (λ w held. absurd (takes_absent (state_of table.book m) absent ((lawful.pairs w m held).0)))
    (λ n ne present needs. live_from (state_of table.book n) (find-none_of (λ i. is_live (state_of table.book i)) n (module_at catalogue m).needs none needs))
    used
    lawful where
      change : StateChange table.book (book_effect table.book (BeginLoad m)) m Loading
      change = state_change table.book.states table.book.order (table.book.order ++ m ∷ []) m Loading room

      not_live_m : state_of table.book m ≡ Live → ⊥
      not_live_m e = let bad : false ≡ true = subst (λ (x : ModuleState). is_absent x ≡ true) e absent in false≢true bad

      used : (u : ℕ) → is_absent (state_of (book_effect table.book (BeginLoad m)) u) ≡ false → needs_slot catalogue m u ≡ true → Loading ≡ Live
      used u present needs = at (cases_eq u m) where
        at : (u ≡ m) ⊎ (u ≡ m → ⊥) → Loading ≡ Live
        at (inl e) =
            let own : needs_slot catalogue m m ≡ true = subst (λ (i : ℕ). needs_slot catalogue m i ≡ true) e needs in
            absurd (not_live_m (live_from (state_of table.book m) (find-none_of (λ i. is_live (state_of table.book i)) m (module_at catalogue m).needs none own)))
        at (inr ne) =
            let there : is_absent (state_of table.book u) ≡ false = rw (change.other u ne) at present in
            absurd (not_live_m (lawful.needs u m there needs))

      order : OrderIsExact (book_effect table.book (BeginLoad m))
      order k = sum_by_push (λ i. cond (eqb i k) 1 0) table.book.order m ∙ at (cases_eq k m) where
        at : (k ≡ m) ⊎ (k ≡ m → ⊥) → count_by (λ i. eqb i k) table.book.order + cond (eqb m k) 1 0 ≡ cond (is_absent (state_of (book_effect table.book (BeginLoad m)) k)) 0 1
        at (inl e) =
            let before : count_by (λ i. eqb i m) table.book.order ≡ 0 = lawful.order m ∙ rw absent refl in
            let self : eqb m m ≡ true = eq-eqb m m refl in
            let at_m : count_by (λ i. eqb i m) table.book.order + cond (eqb m m) 1 0 ≡ cond (is_absent (state_of (book_effect table.book (BeginLoad m)) m)) 0 1 =
            rw (before, self, change.same) refl in
            subst (λ (i : ℕ). count_by (λ j. eqb j i) table.book.order + cond (eqb m i) 1 0 ≡ cond (is_absent (state_of (book_effect table.book (BeginLoad m)) i)) 0 1) (sym e) at_m
        at (inr ne) =
            let apart : eqb m k ≡ false = ne_eqb m k (λ e. ne (sym e)) in
            rw (apart, change.other k ne) (omega (arith, lawful.order k))

-- a module of the table becomes Live
pub live_lawful : (catalogue : List Module) (table : Table) (m : ℕ) → m < length table.book.states
    → is_absent (state_of table.book m) ≡ false
    → IsLawful catalogue table → IsLawful catalogue (record { book = with_state table.book m Live; rows = table.rows })
live_lawful catalogue table m room present lawful =
    book_changed catalogue table (with_state table.book m Live) m Live change
    (order_kept table.book (with_state table.book m Live) m Live change refl (present) lawful.order)
    (λ w held. refl)
    (λ n ne there needs. lawful.needs m n present needs)
    (λ u there needs. refl)
    lawful where
      change : StateChange table.book (with_state table.book m Live) m Live
      change = state_change table.book.states table.book.order table.book.order m Live room

-- a load ends well
pub end_load_lawful : (catalogue : List Module) (table : Table) (m : ℕ) → m < length table.book.states
    → is_loading (state_of table.book m) ≡ true
    → IsLawful catalogue table → IsLawful catalogue (effect table (EndLoad m true))
end_load_lawful catalogue table m room loading lawful =
    let e : state_of table.book m ≡ Loading = loading_from (state_of table.book m) loading in
    live_lawful catalogue table m room (rw e refl) lawful

-- a module leaves the table, held by nobody and not Live
pub removed_lawful : (catalogue : List Module) (table : Table) (m : ℕ) → m < length table.book.states
    → is_live (state_of table.book m) ≡ false → ((w : ℕ) → count_of table w m ≡ 0)
    → IsLawful catalogue table → IsLawful catalogue (record { book = without table.book m; rows = table.rows })
removed_lawful catalogue table m room down free lawful =
    book_changed catalogue table (without table.book m) m Absent change
    order
    (λ w held. absurd (omega (arith, free w, held)))
    (λ n ne there needs. absurd (false≢true (sym there)))
    used
    lawful where
      change : StateChange table.book (without table.book m) m Absent
      change = state_change table.book.states table.book.order (without table.book m).order m Absent room

      used : (u : ℕ) → is_absent (state_of (without table.book m) u) ≡ false → needs_slot catalogue m u ≡ true → Absent ≡ Live
      used u present needs = at (cases_eq u m) where
        at : (u ≡ m) ⊎ (u ≡ m → ⊥) → Absent ≡ Live
        at (inl e) =
            let there : is_absent (state_of (without table.book m) m) ≡ false = subst (λ (i : ℕ). is_absent (state_of (without table.book m) i) ≡ false) e present in
            let bad : true ≡ false = rw change.same at there in absurd (false≢true (sym bad))
        at (inr ne) =
            let there : is_absent (state_of table.book u) ≡ false = rw (change.other u ne) at present in
            absurd (not_live (state_of table.book m) down (lawful.needs u m there needs))

      order : OrderIsExact (without table.book m)
      order k = at (cases_eq k m) where
        at : (k ≡ m) ⊎ (k ≡ m → ⊥) → count_by (λ i. eqb i k) (without table.book m).order ≡ cond (is_absent (state_of (without table.book m) k)) 0 1
        at (inl e) =
            let at_m : count_by (λ i. eqb i m) (without table.book m).order ≡ cond (is_absent (state_of (without table.book m) m)) 0 1 =
            count_by-removed_same m table.book.order ∙ rw change.same refl in
            subst (λ (i : ℕ). count_by (λ j. eqb j i) (without table.book m).order ≡ cond (is_absent (state_of (without table.book m) i)) 0 1) (sym e) at_m
        at (inr ne) = count_by-removed_other m k ne table.book.order ∙ rw (change.other k ne) (lawful.order k)

-- a Live module without users is shut
pub shut_lawful : (catalogue : List Module) (table : Table) (m : ℕ) (s : ModuleState) → m < length table.book.states
    → is_live (state_of table.book m) ≡ true → has_users catalogue table.book m ≡ false → is_absent s ≡ false
    → ((w : ℕ) → 0 < count_of table w m → takes_references s ≡ true)
    → IsLawful catalogue table → IsLawful catalogue (record { book = with_state table.book m s; rows = table.rows })
shut_lawful catalogue table m s room live unused stays takes lawful =
    book_changed catalogue table (with_state table.book m s) m s change
    (order_kept table.book (with_state table.book m s) m s change refl (present ∙ sym stays) lawful.order)
    takes
    (λ n ne there needs. lawful.needs m n present needs)
    (λ u there needs. absurd (false≢true (sym (nobody u (before u there (cases_eq u m))) ∙ needs)))
    lawful where
      change : StateChange table.book (with_state table.book m s) m s
      change = state_change table.book.states table.book.order table.book.order m s room

      present : is_absent (state_of table.book m) ≡ false
      present = let e : state_of table.book m ≡ Live = live_from (state_of table.book m) live in rw e refl

      before : (u : ℕ) → is_absent (state_of (with_state table.book m s) u) ≡ false → (u ≡ m) ⊎ (u ≡ m → ⊥) → is_absent (state_of table.book u) ≡ false
      before u there (inl e) = subst (λ (i : ℕ). is_absent (state_of table.book i) ≡ false) (sym e) present
      before u there (inr ne) = rw (change.other u ne) at there

      nobody : (u : ℕ) → is_absent (state_of table.book u) ≡ false → needs_slot catalogue m u ≡ false
      nobody u there =
          let once : count_by (λ i. eqb i u) table.book.order ≡ 1 = lawful.order u ∙ rw there refl in
          list_any-none_of (needs_slot catalogue m) u table.book.order unused once

-- a worker's count of a slot changes to a number that may be held
pub count_lawful : (catalogue : List Module) (table : Table) (w m x : ℕ) → w < length table.rows → m < length (get_or table.rows w [])
    → (0 < x → (takes_references (state_of table.book m) ≡ true) × (x ≤ 65535))
    → IsLawful catalogue table
    → IsLawful catalogue (record { book = table.book; rows = set table.rows w (set (get_or table.rows w []) m x) })
count_lawful catalogue table w m x worker slot may lawful =
    record { order = lawful.order; pairs = pairs; needs = lawful.needs } where
      rows : List (List ℕ)
      rows = set table.rows w (set (get_or table.rows w []) m x)

      pairs : PairsAreOpen (record { book = table.book; rows = rows })
      pairs v k held = at (cases_eq v w) (cases_eq k m) where
        old : get_or (get_or rows v []) k 0 ≡ get_or (get_or table.rows v []) k 0 → (takes_references (state_of table.book k) ≡ true) × (get_or (get_or rows v []) k 0 ≤ 65535)
        old same = rw same (lawful.pairs v k (rw same at held))

        same_row : v ≡ w → get_or rows v [] ≡ set (get_or table.rows w []) m x
        same_row e = subst (λ (i : ℕ). get_or rows i [] ≡ set (get_or table.rows w []) m x) (sym e) (get_or-set_same table.rows w (set (get_or table.rows w []) m x) [] worker)

        at : (v ≡ w) ⊎ (v ≡ w → ⊥) → (k ≡ m) ⊎ (k ≡ m → ⊥) → (takes_references (state_of table.book k) ≡ true) × (get_or (get_or rows v []) k 0 ≤ 65535)
        at (inr nv) k' = old (ap (λ (r : List ℕ). get_or r k 0) (get_or-set_other table.rows w v (set (get_or table.rows w []) m x) [] nv))
        at (inl e) (inr nk) =
            let one : get_or (get_or rows v []) k 0 ≡ get_or (get_or table.rows w []) k 0 =
            ap (λ (r : List ℕ). get_or r k 0) (same_row e) ∙ get_or-set_other (get_or table.rows w []) m k x 0 nk in
            old (one ∙ ap (λ (i : ℕ). get_or (get_or table.rows i []) k 0) (sym e))
        at (inl e) (inl f) =
            let is : get_or (get_or rows v []) k 0 ≡ x =
            ap (λ (r : List ℕ). get_or r k 0) (same_row e) ∙ ap (λ (i : ℕ). get_or (set (get_or table.rows w []) m x) i 0) f ∙ get_or-set_same (get_or table.rows w []) m x 0 slot in
            let fact : (takes_references (state_of table.book m) ≡ true) × (x ≤ 65535) = may (rw is at held) in
            (subst (λ (i : ℕ). takes_references (state_of table.book i) ≡ true) (sym f) fact.0, rw is fact.1)

-- no pair names a module that takes no references
pub free_when_shut : (table : Table) (m : ℕ) → PairsAreOpen table → takes_references (state_of table.book m) ≡ false → (w : ℕ) → count_of table w m ≡ 0
free_when_shut table m known shut w = at (count_of table w m) refl where
  at : (n : ℕ) → count_of table w m ≡ n → count_of table w m ≡ 0
  at zero e = e
  at (suc n) e =
      let held : 0 < count_of table w m = omega (arith, e) in
      absurd (false≢true (sym shut ∙ (known w m held).0))

pub free_when_unheld : (table : Table) (m : ℕ) → is_held table m ≡ false → (w : ℕ) → count_of table w m ≡ 0
free_when_unheld table m free w =
    let none : holders table.rows m ≡ 0 = grind (arith, nat_tests) in
    none_held table.rows m w none

pub ended_is_down : (s : ModuleState) → not (is_unloading s || is_draining s) ≡ false → is_live s ≡ false
ended_is_down Absent e = cc
ended_is_down Loading e = cc
ended_is_down Live e = cc
ended_is_down Draining e = refl
ended_is_down Unloading e = refl

pub ended_is_present : (s : ModuleState) → not (is_unloading s || is_draining s) ≡ false → is_absent s ≡ false
ended_is_present Absent e = cc
ended_is_present Loading e = cc
ended_is_present Live e = cc
ended_is_present Draining e = refl
ended_is_present Unloading e = refl

pub ended_is_free : (table : Table) (m : ℕ) → PairsAreOpen table → (s : ModuleState) → state_of table.book m ≡ s
    → not (is_unloading s || is_draining s) ≡ false → (is_draining s && is_held table m) ≡ false
    → (w : ℕ) → count_of table w m ≡ 0
ended_is_free table m known Absent is e f = cc
ended_is_free table m known Loading is e f = cc
ended_is_free table m known Live is e f = cc
ended_is_free table m known Draining is e f = free_when_unheld table m f
ended_is_free table m known Unloading is e f = free_when_shut table m known (rw is refl)

not_absent_from_live : (s : ModuleState) → not (is_live s) ≡ false → is_live s ≡ true
not_absent_from_live s e = not-false (is_live s) e

-- what a drain or a removal that the book does not refuse finds
pub unload_passed : (catalogue : List Module) (book : Book) (m : ℕ) → unload_refusal catalogue book m ≡ None
    → (is_live (state_of book m) ≡ true) × (has_users catalogue book m ≡ false)
unload_passed catalogue book m e =
    let one : (is_absent (state_of book m) ≡ false) × (refuse (has_users catalogue book m) NeededBy (refuse (not (is_live (state_of book m))) NotLive (refuse (module_at catalogue m).permanent Permanent None)) ≡ None) = passed _ _ _ e in
    let two : (has_users catalogue book m ≡ false) × (refuse (not (is_live (state_of book m))) NotLive (refuse (module_at catalogue m).permanent Permanent None) ≡ None) = passed _ _ _ one.1 in
    let three : (not (is_live (state_of book m)) ≡ false) × (refuse (module_at catalogue m).permanent Permanent None ≡ None) = passed _ _ _ two.1 in
    (not-false (is_live (state_of book m)) three.0, two.0)

-- a call that is not refused keeps the laws
pub effect_lawful : (catalogue : List Module) (workers : ℕ) (table : Table) (call : Call)
    → IsShaped (length catalogue) workers table → IsLawful catalogue table → IsInRange (length catalogue) workers call
    → refusal catalogue table call ≡ None → IsLawful catalogue (effect table call)
effect_lawful catalogue workers table (Get w m) shape lawful range allowed =
    let one : (not (is_live (state_of table.book m)) ≡ false) × (refuse (leb 65535 (count_of table w m)) TooMany None ≡ None) = passed _ _ _ allowed in
    let two : (leb 65535 (count_of table w m) ≡ false) × (None ≡ None) = passed _ _ _ one.1 in
    let few : count_of table w m < 65535 = grind (arith, nat_tests) in
    let live : state_of table.book m ≡ Live = live_from _ (not-false _ one.0) in
    let worker : w < length table.rows = omega (arith, shape.rows, range.1) in
    let slot : m < length (get_or table.rows w []) = omega (arith, shape.row w range.1, range.0) in
    count_lawful catalogue table w m (count_of table w m + 1) worker slot (λ held. (rw live refl, omega (arith, few))) lawful
effect_lawful catalogue workers table (Put w m) shape lawful range allowed =
    let one : (eqb (count_of table w m) 0 ≡ false) × (None ≡ None) = passed _ _ _ allowed in
    let some : 0 < count_of table w m = grind (arith, nat_tests) in
    let worker : w < length table.rows = omega (arith, shape.rows, range.1) in
    let slot : m < length (get_or table.rows w []) = omega (arith, shape.row w range.1, range.0) in
    let known : (takes_references (state_of table.book m) ≡ true) × (count_of table w m ≤ 65535) = lawful.pairs w m some in
    count_lawful catalogue table w m (count_of table w m - 1) worker slot (λ held. (known.0, omega (arith, known.1))) lawful
effect_lawful catalogue workers table (Query m) shape lawful range allowed = lawful
effect_lawful catalogue workers table (BeginLoad m) shape lawful range allowed =
    let both : (book_refusal catalogue table.book (BeginLoad m) ≡ None) × (None ≡ None) = both_passed _ _ allowed in
    let one : (not (is_absent (state_of table.book m)) ≡ false) × (refuse (module_at catalogue m).unknown_symbol UnknownSymbol (missing_need (first_missing catalogue table.book m)) ≡ None) = passed _ _ _ both.0 in
    let two : ((module_at catalogue m).unknown_symbol ≡ false) × (missing_need (first_missing catalogue table.book m) ≡ None) = passed _ _ _ one.1 in
    begin_load_lawful catalogue table m (omega (arith, shape.states, range.0)) (not-false _ one.0) (none_missing _ two.1) lawful
effect_lawful catalogue workers table (EndLoad m true) shape lawful range allowed =
    let both : (book_refusal catalogue table.book (EndLoad m true) ≡ None) × (None ≡ None) = both_passed _ _ allowed in
    let one : (not (is_loading (state_of table.book m)) ≡ false) × (None ≡ None) = passed _ _ _ both.0 in
    end_load_lawful catalogue table m (omega (arith, shape.states, range.0)) (not-false _ one.0) lawful
effect_lawful catalogue workers table (EndLoad m false) shape lawful range allowed =
    let both : (book_refusal catalogue table.book (EndLoad m false) ≡ None) × (None ≡ None) = both_passed _ _ allowed in
    let one : (not (is_loading (state_of table.book m)) ≡ false) × (None ≡ None) = passed _ _ _ both.0 in
    let is : state_of table.book m ≡ Loading = loading_from _ (not-false _ one.0) in
    removed_lawful catalogue table m (omega (arith, shape.states, range.0)) (rw is refl) (free_when_shut table m lawful.pairs (rw is refl)) lawful
effect_lawful catalogue workers table (BeginDrain m) shape lawful range allowed =
    let both : (unload_refusal catalogue table.book m ≡ None) × (None ≡ None) = both_passed _ _ allowed in
    let found : (is_live (state_of table.book m) ≡ true) × (has_users catalogue table.book m ≡ false) = unload_passed catalogue table.book m both.0 in
    shut_lawful catalogue table m Draining (omega (arith, shape.states, range.0)) found.0 found.1 refl (λ w held. refl) lawful
effect_lawful catalogue workers table (BeginRemove m) shape lawful range allowed =
    let both : (unload_refusal catalogue table.book m ≡ None) × (refuse (is_held table m) InUse None ≡ None) = both_passed _ _ allowed in
    let found : (is_live (state_of table.book m) ≡ true) × (has_users catalogue table.book m ≡ false) = unload_passed catalogue table.book m both.0 in
    let free : (is_held table m ≡ false) × (None ≡ None) = passed _ _ _ both.1 in
    shut_lawful catalogue table m Unloading (omega (arith, shape.states, range.0)) found.0 found.1 refl
    (λ w held. absurd (omega (arith, free_when_unheld table m free.0 w, held))) lawful
effect_lawful catalogue workers table (EndRemove m) shape lawful range allowed =
    let both : (book_refusal catalogue table.book (EndRemove m) ≡ None) × (refuse (is_draining (state_of table.book m) && is_held table m) InUse None ≡ None) = both_passed _ _ allowed in
    let one : (not (is_unloading (state_of table.book m) || is_draining (state_of table.book m)) ≡ false) × (None ≡ None) = passed _ _ _ both.0 in
    let free : ((is_draining (state_of table.book m) && is_held table m) ≡ false) × (None ≡ None) = passed _ _ _ both.1 in
    removed_lawful catalogue table m (omega (arith, shape.states, range.0)) (ended_is_down _ one.0)
    (ended_is_free table m lawful.pairs (state_of table.book m) refl one.0 free.0) lawful
effect_lawful catalogue workers table (CancelRemove m) shape lawful range allowed =
    let both : (book_refusal catalogue table.book (CancelRemove m) ≡ None) × (None ≡ None) = both_passed _ _ allowed in
    let one : (not (is_unloading (state_of table.book m) || is_draining (state_of table.book m)) ≡ false) × (None ≡ None) = passed _ _ _ both.0 in
    live_lawful catalogue table m (omega (arith, shape.states, range.0)) (ended_is_present _ one.0) lawful
