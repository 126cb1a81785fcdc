-- What lines do to the table of held_table, as hold_turns sees it.
use Rattle.std.proofs.Common.{◌≡◌, ◌⊎◌, ⊎_elim, inl, inr, ℕ, ◌+◌, ◌-◌, ◌<◌, ◌≤◌, Bool, true, false, not, cond, eqb, ltb, List, [], ◌∷◌, ◌++◌, length, get_or, set, length-append, replicate, Option, Some, None, All, Contains, refl, sym, ap, subst, ◌∙◌, arith}
use Rattle.std.specs.Option.{is_some, unwrap_or}
use Rattle.std.specs.List.{position_or_len}
use Rattle.std.specs.Str.{bytes_eq}
use Rattle.std.proofs.lemmas.Bool.{cases_eq, eq-eqb, ne_eqb, not-false}
use Rattle.std.proofs.lemmas.Bool.Decides.{nat_tests}
use Rattle.std.proofs.lemmas.List.{get_or-set_same, get_or-set_other, get_or_past, get_or_push, get_or_append_left, length-set}
use Rattle.std.proofs.lemmas.List.Folds.{position_or_len_push}
use Rattle.std.proofs.lemmas.List.Sums.{passes_at_first}
use Rattle.std.proofs.lemmas.List.Quantifiers.{position-Some}
use Rattle.std.proofs.lemmas.List.Elements.{All-contains, All-weaker}
use Rattle.std.proofs.lemmas.Slice.Eq.{bytes_eq-Decides}
use Rattle.dep_index.specs.declared.table.states.ModuleState.{ModuleState}
use Rattle.dep_index.specs.declared.table.states.ModuleState.TheVariants.{Absent, Loading, Live, Unloading}
use Rattle.dep_index.specs.declared.table.calls.Call.{Call}
use Rattle.dep_index.specs.declared.table.calls.Call.TheVariants as calls
use Rattle.dep_index.specs.declared.table.calls.Reply.{Reply}
use Rattle.dep_index.specs.declared.table.calls.Reply.TheVariants.{Done, NotHeld}
use Rattle.dep_index.specs.Table.{Module, Book, Table, state_of, count_of}
use Rattle.dep_index.specs.Calls.{refuse, refusal, effect, reply, next, without}
use Rattle.dep_index.specs.Laws.{IsShaped, IsLawful}
use Rattle.dep_index.proofs.TableLaws.{StateChange, state_change, passed, both_passed, unload_passed, free_when_unheld, ended_is_free}
use Rattle.dep_index.proofs.RunLaws.{accepted, replicated}
use Rattle.held_table.specs.Names.{place_of}
use Rattle.held_table.specs.Held.{Held, HeldOver, number_of, is_there_or_full, with_holder, entered}
use Rattle.hold_turns.specs.declared.table.Half.{Half}
use Rattle.hold_turns.specs.declared.table.Half.TheVariants.{BeginLoad, LoadDone, LoadFailed, BeginRemove, EndRemove, CancelRemove}
use Rattle.hold_turns.specs.Lines.{may_follow, state_after, is_removal, MayMake, MayHold, MayRelease}
use Rattle.hold_machine.specs.Table.{holds_at, view_of_held, call_of, IsLiveIn, Takes, Gives}

-- HALVES

-- the module of one slot changed its state
changed : (half : Half) (h : Held) (m : ℕ) (book : Book) → StateChange h.table.book book m (state_after half) → may_follow half (state_of h.table.book m) ≡ true
    → (is_removal half ≡ true → (w : ℕ) → count_of h.table w m ≡ 0)
    → MayMake half m (view_of_held h) (view_of_held (record { table = record { book = book; rows = h.table.rows }; names = h.names }))
changed half h m book change follows free = record {
  holds = λ holder k. refl;
  others = λ k. ⊎_elim (λ (e : k ≡ m). inl e) (λ (ne : k ≡ m → ⊥). inr (change.other k ne)) (cases_eq k m);
  state = inr (follows, change.same);
  unheld = λ removes. inr (λ holder. ap (ltb 0) (free removes (number_of h.names holder)));
}

not_removal : (half : Half) (h : Held) (m : ℕ) → is_removal half ≡ false → is_removal half ≡ true → (w : ℕ) → count_of h.table w m ≡ 0
not_removal half h m stays removes w = let bad : false ≡ true = sym stays ∙ removes in cc

-- a half that the table does not refuse
done : (catalogue : List Module) (h : Held) (half : Half) (m : ℕ) → m < length h.table.book.states → IsLawful catalogue h.table → refusal catalogue h.table (call_of half m) ≡ None
    → MayMake half m (view_of_held h) (view_of_held (record { table = effect h.table (call_of half m); names = h.names }))
done catalogue h BeginLoad m room lawful none =
    let first = (passed _ _ _ (both_passed _ _ none).0).0 in
    changed BeginLoad h m _ (state_change h.table.book.states h.table.book.order (h.table.book.order ++ m ∷ []) m Loading room) (not-false _ first) (not_removal BeginLoad h m refl)
done catalogue h LoadDone m room lawful none =
    let first = (passed _ _ _ (both_passed _ _ none).0).0 in
    changed LoadDone h m _ (state_change h.table.book.states h.table.book.order h.table.book.order m Live room) (not-false _ first) (not_removal LoadDone h m refl)
done catalogue h LoadFailed m room lawful none =
    let first = (passed _ _ _ (both_passed _ _ none).0).0 in
    changed LoadFailed h m _ (state_change h.table.book.states h.table.book.order (without h.table.book m).order m Absent room) (not-false _ first) (not_removal LoadFailed h m refl)
done catalogue h BeginRemove m room lawful none =
    let both = both_passed _ _ none in
    changed BeginRemove h m _ (state_change h.table.book.states h.table.book.order h.table.book.order m Unloading room) (unload_passed catalogue h.table.book m both.0).0
    (λ removes w. free_when_unheld h.table m (passed _ _ _ both.1).0 w)
done catalogue h EndRemove m room lawful none =
    let both = both_passed _ _ none in
    let first = (passed _ _ _ both.0).0 in
    changed EndRemove h m _ (state_change h.table.book.states h.table.book.order (without h.table.book m).order m Absent room) (not-false _ first)
    (λ removes w. ended_is_free h.table m lawful.pairs (state_of h.table.book m) refl first (passed _ _ _ both.1).0 w)
done catalogue h CancelRemove m room lawful none =
    let first = (passed _ _ _ (both_passed _ _ none).0).0 in
    changed CancelRemove h m _ (state_change h.table.book.states h.table.book.order h.table.book.order m Live room) (not-false _ first) (not_removal CancelRemove h m refl)

not_made : (half : Half) (m : ℕ) (h : Held) → MayMake half m (view_of_held h) (view_of_held h)
not_made half m h = record { holds = λ holder k. refl; others = λ k. inr refl; state = inl refl; unheld = λ removes. inl refl }

abbrev with_table : Held → Table → Held
with_table h table = record { table = table; names = h.names }

pub may_make : (catalogue : List Module) (h new : Held) (half : Half) (m : ℕ) → m < length catalogue → IsShaped (length catalogue) (length h.table.rows) h.table → IsLawful catalogue h.table
    → new.table ≡ next catalogue h.table (call_of half m) → new.names ≡ h.names → MayMake half m (view_of_held h) (view_of_held new)
may_make catalogue h new half m within shape lawful is named =
    subst (λ (ns : List (List ℕ)). MayMake half m (view_of_held h) (view_of_held (record { table = new.table; names = ns }))) (sym named)
    (subst (λ (t : Table). MayMake half m (view_of_held h) (view_of_held (with_table h t))) (sym is) (at (refusal catalogue h.table (call_of half m)) refl))
  where
    at : (o : Option Reply) → refusal catalogue h.table (call_of half m) ≡ o → MayMake half m (view_of_held h) (view_of_held (with_table h (next catalogue h.table (call_of half m))))
    at (Some r) e = subst (λ (p : Option Reply). MayMake half m (view_of_held h) (view_of_held (with_table h (cond (is_some p) h.table (effect h.table (call_of half m)))))) (sym e) (not_made half m h)
    at None e = subst (λ (p : Option Reply). MayMake half m (view_of_held h) (view_of_held (with_table h (cond (is_some p) h.table (effect h.table (call_of half m)))))) (sym e)
        (done catalogue h half m (omega (arith, within, shape.states)) lawful e)

-- HOLDERS' NUMBERS

short : (b : Bool) (n len : ℕ) → n ≤ len → cond (not b) (1 + n) 0 ≤ 1 + len
short true n len le = omega arith
short false n len le = omega (arith, le)

within_names : (p : List ℕ → Bool) (names : List (List ℕ)) → position_or_len p names ≤ length names
within_names p [] = omega arith
within_names p (name ∷ names) = omega (arith, short (p name) (position_or_len p names) (length names) (within_names p names))

number_is : (names : List (List ℕ)) (holder : List ℕ) → number_of names holder ≡ position_or_len (bytes_eq holder) names
number_is names holder = at (ltb (position_or_len (bytes_eq holder) names) (length names)) refl where
  at : (b : Bool) → ltb (position_or_len (bytes_eq holder) names) (length names) ≡ b → number_of names holder ≡ position_or_len (bytes_eq holder) names
  at true e = ap (λ (b : Bool). unwrap_or (cond b (Some (position_or_len (bytes_eq holder) names)) None) (length names)) e
  at false e =
      let past : length names ≤ position_or_len (bytes_eq holder) names = grind (arith, nat_tests) in
      ap (λ (b : Bool). unwrap_or (cond b (Some (position_or_len (bytes_eq holder) names)) None) (length names)) e
      ∙ omega (arith, past, within_names (bytes_eq holder) names)

named_at : (names : List (List ℕ)) (holder : List ℕ) (n : ℕ) → number_of names holder ≡ n → n < length names → holder ≡ get_or names n []
named_at names holder n is within =
    let at : position_or_len (bytes_eq holder) names ≡ n = sym (number_is names holder) ∙ is in
    let found : bytes_eq holder (get_or names n []) ≡ true =
    subst (λ (k : ℕ). bytes_eq holder (get_or names k []) ≡ true) at (passes_at_first (bytes_eq holder) names [] (omega (arith, at, within))) in
    (bytes_eq-Decides holder (get_or names n [])).0 found

-- two holders of one number are one
one_holder : (names : List (List ℕ)) (g h : List ℕ) (n : ℕ) → number_of names g ≡ n → n < length names → number_of names h ≡ n → g ≡ h
one_holder names g h n is within other = named_at names g n is within ∙ sym (named_at names h n other within)

-- A HOLDER COMES IN

nothing : (m zero : ℕ) → get_or [] m zero ≡ zero
nothing m zero = get_or_past [] m zero (omega arith)

none_at : (rows : List (List ℕ)) (w m : ℕ) → length rows ≤ w → get_or (get_or rows w []) m 0 ≡ 0
none_at rows w m past = ap (λ (row : List ℕ). get_or row m 0) (get_or_past rows w [] past) ∙ nothing m 0

module _ (h : Held) (new : List ℕ) (same : length h.names ≡ length h.table.rows) where
  abbrev more : List (List ℕ)
  more = h.names ++ new ∷ []

  abbrev zeros : List ℕ
  zeros = replicate (length h.table.book.states) 0

  abbrev rows' : List (List ℕ)
  rows' = h.table.rows ++ zeros ∷ []

  place' : (g : List ℕ) → number_of more g ≡ cond (eqb (number_of h.names g) (length h.names)) (length h.names + cond (bytes_eq g new) 0 1) (number_of h.names g)
  place' g = number_is more g ∙ (position_or_len_push (bytes_eq g) h.names new
      ∙ ap (λ (n : ℕ). cond (eqb n (length h.names)) (length h.names + cond (bytes_eq g new) 0 1) n) (sym (number_is h.names g)))

  pushed_count : (g : List ℕ) (m : ℕ) → get_or (get_or rows' (number_of more g) []) m 0 ≡ get_or (get_or h.table.rows (number_of h.names g) []) m 0
  pushed_count g m = at (cases_eq (number_of h.names g) (length h.names)) where
    new_at : (b : Bool) → get_or (get_or rows' (length h.names + cond b 0 1) []) m 0 ≡ 0
    new_at true = ap (λ (row : List ℕ). get_or row m 0) (get_or_push h.table.rows zeros [] (length h.names + 0) (omega (arith, same))) ∙ replicated (length h.table.book.states) m 0
    new_at false = none_at rows' (length h.names + 1) m (omega (arith, same, length-append h.table.rows (zeros ∷ [])))

    at : (number_of h.names g ≡ length h.names) ⊎ (number_of h.names g ≡ length h.names → ⊥)
        → get_or (get_or rows' (number_of more g) []) m 0 ≡ get_or (get_or h.table.rows (number_of h.names g) []) m 0
    at (inl e) =
        let past : number_of more g ≡ length h.names + cond (bytes_eq g new) 0 1 =
        place' g ∙ ap (λ (b : Bool). cond b (length h.names + cond (bytes_eq g new) 0 1) (number_of h.names g)) (eq-eqb _ _ e) in
        ap (λ (n : ℕ). get_or (get_or rows' n []) m 0) past ∙ (new_at (bytes_eq g new) ∙ sym (none_at h.table.rows (number_of h.names g) m (omega (arith, e, same))))
    at (inr ne) =
        let stays : number_of more g ≡ number_of h.names g =
        place' g ∙ ap (λ (b : Bool). cond b (length h.names + cond (bytes_eq g new) 0 1) (number_of h.names g)) (ne_eqb _ _ ne) in
        let within : number_of h.names g ≤ length h.names = subst (λ (n : ℕ). n ≤ length h.names) (sym (number_is h.names g)) (within_names (bytes_eq g) h.names) in
        ap (λ (n : ℕ). get_or (get_or rows' n []) m 0) stays
        ∙ ap (λ (row : List ℕ). get_or row m 0) (get_or_append_left h.table.rows (zeros ∷ []) [] (number_of h.names g) (omega (arith, ne, within, same)))

  pushed_number : number_of more new ≡ number_of h.names new
  pushed_number = at (cases_eq (number_of h.names new) (length h.names)) where
    at : (number_of h.names new ≡ length h.names) ⊎ (number_of h.names new ≡ length h.names → ⊥) → number_of more new ≡ number_of h.names new
    at (inl e) = place' new ∙ (ap (λ (b : Bool). cond b (length h.names + cond (bytes_eq new new) 0 1) (number_of h.names new)) (eq-eqb _ _ e)
        ∙ (ap (λ (b : Bool). length h.names + cond b 0 1) ((bytes_eq-Decides new new).1 refl) ∙ omega (arith, e)))
    at (inr ne) = place' new ∙ ap (λ (b : Bool). cond b (length h.names + cond (bytes_eq new new) 0 1) (number_of h.names new)) (ne_eqb _ _ ne)

  -- each holder holds what it held
  entered_holds : (g : List ℕ) (m : ℕ) → (view_of_held (entered h new)).holds g m ≡ (view_of_held h).holds g m
  entered_holds g m = at (is_there_or_full h.names new) where
    at : (b : Bool) → (view_of_held (cond b h (with_holder h new))).holds g m ≡ (view_of_held h).holds g m
    at true = refl
    at false = ap (ltb 0) (pushed_count g m)

  entered_number : number_of (entered h new).names new ≡ number_of h.names new
  entered_number = at (is_there_or_full h.names new) where
    at : (b : Bool) → number_of (cond b h (with_holder h new)).names new ≡ number_of h.names new
    at true = refl
    at false = pushed_number

  entered_book : (entered h new).table.book ≡ h.table.book
  entered_book = at (is_there_or_full h.names new) where
    at : (b : Bool) → (cond b h (with_holder h new)).table.book ≡ h.table.book
    at true = refl
    at false = refl

may_hold : (g ms : List ℕ) (h : Held) (before after : HeldOver) → length h.names ≡ length h.table.rows → before.held ≡ entered h g → number_of h.names g < length before.held.names
    → Takes (number_of h.names g) (Contains ms) before after → ((m : ℕ) → Contains ms m → state_of h.table.book m ≡ Live) → MayHold g ms (view_of_held h) (view_of_held after.held)
may_hold g ms h before after same is within takes live = record {
  states = λ m. ap (λ (b : Book). state_of b m) (takes.stays.book ∙ book);
  kept = λ f m has. subst (λ (ns : List (List ℕ)). holds_at after.held.table (number_of ns f) m ≡ true) (sym takes.stays.names) (takes.kept (number_of before.held.names f) m (holds f m ∙ has));
  only = λ f m has. ⊎_elim (λ (was : holds_at before.held.table (number_of before.held.names f) m ≡ true). inl (sym (holds f m) ∙ was))
      (λ (got : (number_of before.held.names f ≡ number_of h.names g) × Contains ms m). inr (one_holder before.held.names g f (number_of h.names g) number within got.0, got.1, live m got.1))
      (takes.only (number_of before.held.names f) m (subst (λ (ns : List (List ℕ)). holds_at after.held.table (number_of ns f) m ≡ true) takes.stays.names has));
} where
  holds : (f : List ℕ) (m : ℕ) → holds_at before.held.table (number_of before.held.names f) m ≡ (view_of_held h).holds f m
  holds f m = subst (λ (b : Held). (view_of_held b).holds f m ≡ (view_of_held h).holds f m) (sym is) (entered_holds h g same f m)

  number : number_of before.held.names g ≡ number_of h.names g
  number = subst (λ (b : Held). number_of b.names g ≡ number_of h.names g) (sym is) (entered_number h g same)

  book : before.held.table.book ≡ h.table.book
  book = subst (λ (b : Held). b.table.book ≡ h.table.book) (sym is) (entered_book h g same)

-- the holder holds it by the number that it had
held_by : (g : List ℕ) (m : ℕ) (h : Held) (before after : HeldOver) → length h.names ≡ length h.table.rows → before.held ≡ entered h g → after.held.names ≡ before.held.names
    → holds_at after.held.table (number_of h.names g) m ≡ true → (view_of_held after.held).holds g m ≡ true
held_by g m h before after same is named has =
    subst (λ (ns : List (List ℕ)). holds_at after.held.table (number_of ns g) m ≡ true) (sym named)
    (subst (λ (n : ℕ). holds_at after.held.table n m ≡ true) (sym (subst (λ (b : Held). number_of b.names g ≡ number_of h.names g) (sym is) (entered_number h g same))) has)

pub hold_is : (g ms name : List ℕ) (n : ℕ) (now start before after : HeldOver) → start ≡ now → name ≡ g → length start.held.names ≡ length start.held.table.rows
    → before.held ≡ entered start.held name → n ≡ number_of start.held.names name → n < length before.held.names → Takes n (Contains ms) before after → All (λ (m : ℕ). IsLiveIn start m) ms
    → MayHold g ms (view_of_held now.held) (view_of_held after.held)
hold_is g ms name n now start before after same is named enters number below takes live =
    let numbered = subst (λ (f : List ℕ). n ≡ number_of start.held.names f) is number in
    subst (λ (t : HeldOver). MayHold g ms (view_of_held t.held) (view_of_held after.held)) same
    (may_hold g ms start.held before after named (subst (λ (f : List ℕ). before.held ≡ entered start.held f) is enters) (subst (λ (k : ℕ). k < length before.held.names) numbered below)
    (subst (λ (k : ℕ). Takes k (Contains ms) before after) numbered takes) (λ m among. (All-contains (λ (k : ℕ). IsLiveIn start k) ms m live among).live))

pub hold_all : (g ms name : List ℕ) (n : ℕ) (start before after : HeldOver) → name ≡ g → length start.held.names ≡ length start.held.table.rows
    → before.held ≡ entered start.held name → n ≡ number_of start.held.names name → Takes n (Contains ms) before after
    → All (λ (m : ℕ). holds_at after.held.table n m ≡ true) ms → All (λ (m : ℕ). (view_of_held after.held).holds g m ≡ true) ms
hold_all g ms name n start before after is named enters number takes all =
    let numbered = subst (λ (f : List ℕ). n ≡ number_of start.held.names f) is number in
    All-weaker (λ (m : ℕ). holds_at after.held.table n m ≡ true) (λ (m : ℕ). (view_of_held after.held).holds g m ≡ true)
    (λ m has. held_by g m start.held before after named (subst (λ (f : List ℕ). before.held ≡ entered start.held f) is enters) takes.stays.names
    (subst (λ (k : ℕ). holds_at after.held.table k m ≡ true) numbered has)) ms all

-- MODULES ARE GIVEN BACK

-- a holder of a number gave modules back
may_release : (g ms : List ℕ) (n : ℕ) (before after : HeldOver) → number_of before.held.names g ≡ n → n < length before.held.names → Gives n (Contains ms) before after
    → MayRelease g ms (view_of_held before.held) (view_of_held after.held)
may_release g ms n before after is within gives = record {
  states = λ m. ap (λ (b : Book). state_of b m) gives.stays.book;
  fewer = λ f m has. gives.fewer (number_of before.held.names f) m (subst (λ (ns : List (List ℕ)). holds_at after.held.table (number_of ns f) m ≡ true) gives.stays.names has);
  only = λ f m has. ⊎_elim (λ kept. inl (subst (λ (ns : List (List ℕ)). holds_at after.held.table (number_of ns f) m ≡ true) (sym gives.stays.names) kept))
      (λ (gave : (number_of before.held.names f ≡ n) × Contains ms m). inr (one_holder before.held.names g f n is within gave.0, gave.1))
      (gives.only (number_of before.held.names f) m has);
}

pub release_is : (g ms name : List ℕ) (n : ℕ) (now start after : HeldOver) → start ≡ now → name ≡ g → place_of start.held.names name ≡ Some n
    → Gives n (Contains ms) start after → MayRelease g ms (view_of_held now.held) (view_of_held after.held)
release_is g ms name n now start after same is there gives =
    let at = subst (λ (f : List ℕ). place_of start.held.names f ≡ Some n) is there in
    subst (λ (t : HeldOver). MayRelease g ms (view_of_held t.held) (view_of_held after.held)) same
    (may_release g ms n start after (ap (λ (o : Option ℕ). unwrap_or o (length start.held.names)) at) (position-Some (bytes_eq g) start.held.names n [] at).0 gives)

pub none_released : (g ms : List ℕ) (now start : HeldOver) → start ≡ now → MayRelease g ms (view_of_held now.held) (view_of_held start.held)
none_released g ms now start same = subst (λ (t : HeldOver). MayRelease g ms (view_of_held t.held) (view_of_held start.held)) same
    (record { states = λ m. refl; fewer = λ f m is. is; only = λ f m is. inl is })
