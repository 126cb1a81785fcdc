-- The steps of a pass are allowed.
use Rattle.std.proofs.Common.{◌≡◌, ◌≢◌, ℕ, ◌+◌, ◌-◌, ◌%◌, ◌^◌, ◌<◌, List, [], ◌∷◌, length, get_or, set, eqb, Option, Some, None, ◌==◌, MatchBool, refl, sym, ap, ◌∙◌, subst, inl, inr, arith, append-nil, replicate, eq-eqb, ne_eqb}
use Rattle.std.proofs.lemmas.Bool.{cases_eq}
use Rattle.std.proofs.lemmas.List.{get_or-replicate, length-replicate}
use mathlib.Core.Option.{some, none, some-ne-none}
use lib.ListN.{get_elem?}
use prog.Atomic.{either}
use Rattle.atomic_table.specs.Table.{Me, Act, Valid, takes, gives, keeps, put_back, rest, carried_after, opening, step, stepped, Allows}
use Rattle.atomic_table.proofs.Lists.{set_again, at_map, exchanged}
use Rattle.root_row.specs.declared.view.SeatAnswer.{SeatAnswer}
use Rattle.root_row.specs.declared.view.AtomicStep.{AtomicStep}
use Rattle.root_row.specs.Seats.{RowIs, Seated}
use Rattle.root_row.specs.World.{place_of}
use Rattle.root_row.specs.History.{SeatName, StartsWith}
use Rattle.root_row.proofs.Moves.{same_slot, same_words}
use Rattle.managed_table.specs.declared.view.Taken.{Taken}
use Rattle.managed_table.specs.declared.view.Turn.{Turn}
use Rattle.managed_table.specs.declared.view.Pass.{Pass}
use Rattle.managed_table.specs.declared.view.Passes.{Passes}
use Rattle.managed_table.specs.declared.rule.Setting.{Setting}
use Rattle.managed_table.specs.Locks.{Place, pass_at, Accounts, FitsPass, HasTurn, IsListed, AreOneFamily, LocksRule, AreFresh, first_view}
use Rattle.managed_table.specs.Kept.{seen}
use Rattle.managed_table.specs.Turns.{PassName, taken, alone, pass_of, new_pass, with_turns, with_misses, turn_of, shown_in_hand, after_turn, HasTaken, IsSame, Misses, Looks, Seizes, Releases, LetsGo}
use Rattle.managed_table.specs.Passes.{HasInHand}
use Rattle.managed_table.proofs.Places.{place_new}
use Rattle.managed_table.proofs.Keeping as keeping

module _ {T : Type 0} (row : RowIs) (locks : ℕ) (by : ℕ → SeatName) (fits : RowIs → ℕ → T → Type 0) (shown : T → Seated) (slots' id : ℕ) (me : Me T Passes) (one : me.0 ≡ alone (pass_of me.0)) where
  abbrev mine : Pass
  mine = pass_of me.0

  -- a lock that is taken is found so
  finds : (w n : ℕ) → n ≢ 0 → (lock : ℕ) → place_of w ≡ place_of lock → (Free : Type 0)
      → MatchBool (n == 0) Free (Misses lock 1 me (alone (with_misses mine w 1), me.1))
  finds w n away lock e Free = subst (λ b. MatchBool b Free (Misses lock 1 me (alone (with_misses mine w 1), me.1))) (sym (ne_eqb n 0 away)) (ap (λ i. alone (with_misses mine i 1)) (same_slot w lock e), refl)

  pub seizes : (w mark : ℕ) → me.1 ≡ [] → mine.taken ≡ None → w < locks → mark ≢ 0
      → Allows (LocksRule row locks by fits shown) slots' id me (place_of w) (λ _. mark) (Seizes fits shown (step slots' (place_of w) mark 0 none) me)
  seizes w mark empty none_taken inside shut s kept homes at small = elim (cases_eq (get_or s.words (place_of w) 0) 0) [
    | inl unlocked ↦ (
        let at' = at ∙ ap some one in
        let home = kept.free w inside unlocked in
        let view : Passes = alone (keeping.taking row locks by fits shown s kept id mine at' w mark inside shut none_taken unlocked) in
        let has : HasTaken fits shown w [] mine (view, (w, home.value) ∷ me.1) = record {
          value = home.value;
          missed = 0;
          steps = (shown home.value).steps;
          view = refl;
          steps_are = sym (append-nil (shown home.value).steps);
          hand = ap (λ l. (w, home.value) ∷ l) empty;
          fit = subst (λ r. fits r w home.value) (sym (keeping.mine row locks by fits shown s kept id mine at').same_row) home.fit;
          follows = keeping.follows row locks by fits shown s kept id mine at' w mark inside shut none_taken unlocked;
        } in (
          view,
          takes w home.value,
          home.at,
          keeping.seized row locks by fits shown s kept id mine at' w mark inside shut none_taken unlocked,
          λ lock e. subst (λ i. MatchBool (get_or s.words (place_of w) 0 == 0) (HasTaken fits shown i [] mine (view, (w, home.value) ∷ me.1)) (Misses i 1 me (view, (w, home.value) ∷ me.1))) (same_slot w lock e)
              (subst (λ b. MatchBool b (HasTaken fits shown w [] mine (view, (w, home.value) ∷ me.1)) (Misses w 1 me (view, (w, home.value) ∷ me.1))) (sym (eq-eqb (get_or s.words (place_of w) 0) 0 unlocked)) has),
        ))
    | inr away ↦ (
      alone (with_misses mine w 1),
      keeps,
      tt,
      keeping.missed row locks by fits shown (record { words = set s.words (place_of w) mark; homes = s.homes; views = s.views }) (keeping.busy row locks by fits shown s kept w mark inside shut away) id mine (at ∙ ap some one) (w ∷ mine.missed),
      λ lock e. finds w (get_or s.words (place_of w) 0) away lock e (HasTaken fits shown lock [] mine (alone (with_misses mine w 1), me.1)),
    )
  ]

  -- a look leaves the word as it is
  pub looks : (w : ℕ) → Allows (LocksRule row locks by fits shown) slots' id me (place_of w) (λ n. n) (Looks (step slots' (place_of w) 0 0 none) me)
  looks w s kept homes at small = elim (cases_eq (get_or s.words (place_of w) 0) 0) [
    | inl unlocked ↦ (
      me.0,
      keeps,
      tt,
      subst (λ (y : List ℕ × List Passes). LocksRule row locks by fits shown (record { words = y.0; homes = s.homes; views = y.1 })) (λ i. (sym (same_words s.words (place_of w)) i, sym (set_again s.views id me.0 at) i)) kept,
      λ lock e. subst (λ b. MatchBool b (IsSame me (me.0, me.1)) (Misses lock 1 me (me.0, me.1))) (sym (eq-eqb (get_or s.words (place_of w) 0) 0 unlocked)) (refl, refl),
    )
    | inr away ↦ (
      alone (with_misses mine w 1),
      keeps,
      tt,
      subst (λ l. LocksRule row locks by fits shown (record { words = l; homes = s.homes; views = set s.views id (alone (with_misses mine w 1)) })) (sym (same_words s.words (place_of w)))
          (keeping.missed row locks by fits shown s kept id mine (at ∙ ap some one) (w ∷ mine.missed)),
      λ lock e. finds w (get_or s.words (place_of w) 0) away lock e (IsSame me (alone (with_misses mine w 1), me.1)),
    )
  ]

  pub releases : (w : ℕ) (x : T) (b : List SeatAnswer) (c : List AtomicStep) → me.1 ≡ (w, x) ∷ [] → mine.taken ≡ Some (taken w b c) → fits mine.row.value w x → StartsWith (seen (shown x)) b → slots' ≡ locks
      → Allows (LocksRule row locks by fits shown) slots' id me (place_of w) (λ _. 0) (Releases shown (step slots' (place_of w) 0 0 none) me)
  releases w x b c hand has fit grows as_many s kept homes at small =
      let at' = at ∙ ap some one in (
        alone (with_turns mine (turn_of mine.taken (shown_in_hand shown me.1))),
        gives,
        tt,
        subst (λ (z : Option Taken × List (ℕ × T)). LocksRule row locks by fits shown (record { words = set s.words (place_of w) 0; homes = put_back s.homes z.1; views = set s.views id (alone (with_turns mine (turn_of z.0 (shown_in_hand shown z.1)))) })) (λ i. (sym has i, sym hand i))
            (keeping.released row locks by fits shown s kept id mine at' w x b c has (subst (λ r. fits r w x) (keeping.mine row locks by fits shown s kept id mine at').same_row fit) grows (homes ∙ as_many)),
        (refl, ap rest hand),
      )

-- 1 less, if the word has 64 bits
to_zero : (n : ℕ) → n ≡ 1 → (n + 18446744073709551615) % 18446744073709551616 ≡ 0
to_zero n is_one = ap (λ k. (k + 18446744073709551615) % 18446744073709551616) is_one

stays_shut : (n : ℕ) → n < 18446744073709551616 → n ≢ 1 → (n + 18446744073709551615) % 18446744073709551616 ≢ 0
stays_shut n small marked e = marked (omega arith)

module _ {T : Type 0} (row : RowIs) (locks : ℕ) (by : ℕ → SeatName) (fits : RowIs → ℕ → T → Type 0) (shown : T → Seated) (slots' id : ℕ) (me : Me T Passes) (one : me.0 ≡ alone (pass_of me.0)) where
  abbrev own_pass : Pass
  own_pass = pass_of me.0

  -- an exchange of 0 leaves any other word
  pub tries : (w mark : ℕ) → me.1 ≡ [] → own_pass.taken ≡ None → w < locks → mark ≢ 0
      → Allows (LocksRule row locks by fits shown) slots' id me (place_of w) (λ n. either (eqb n 0) mark n) (Seizes fits shown (step slots' (place_of w) 0 mark none) me)
  tries w mark empty none_taken inside shut s kept homes at small = exchanged found 0 mark Goal hit miss
    where
      found : ℕ
      found = get_or s.words (place_of w) 0

      Goal : ℕ → Type 0
      Goal n = (v : Passes) × (a : Act T) × Valid s.homes me.1 a × LocksRule row locks by fits shown (stepped s (place_of w) n id me.1 v a) × Seizes fits shown (step slots' (place_of w) 0 mark none) me (get_or s.words (place_of w) 0) (v, carried_after me.1 a)

      hit : get_or s.words (place_of w) 0 ≡ 0 → Goal mark
      hit unlocked = seizes row locks by fits shown slots' id me one w mark empty none_taken inside shut s kept homes at small

      miss : get_or s.words (place_of w) 0 ≢ 0 → Goal (get_or s.words (place_of w) 0)
      miss away = seizes row locks by fits shown slots' id me one w (get_or s.words (place_of w) 0) empty none_taken inside away s kept homes at small

  -- a lock that is waited for stays taken if its word becomes 1 less
  pub drops : (w : ℕ) (x : T) (b : List SeatAnswer) (c : List AtomicStep) → me.1 ≡ (w, x) ∷ [] → own_pass.taken ≡ Some (taken w b c) → fits own_pass.row.value w x → StartsWith (seen (shown x)) b → slots' ≡ locks
      → Allows (LocksRule row locks by fits shown) slots' id me (place_of w) (λ n. (n + (2 ^ 64 - 1)) % 2 ^ 64) (LetsGo shown (step slots' (place_of w) 1 0 none) me)
  drops w x b c hand has fit grows as_many s kept homes at small = elim (cases_eq (get_or s.words (place_of w) 0) 1) [
    | inl is_one ↦ (
        let r = releases row locks by fits shown slots' id me one w x b c hand has fit grows as_many s kept homes at small in (
          r.0,
          r.1,
          r.2,
          subst (λ n. LocksRule row locks by fits shown (stepped s (place_of w) n id me.1 r.0 r.1)) (sym (to_zero (get_or s.words (place_of w) 0) is_one)) r.3,
          subst (λ t. MatchBool t (Releases shown (step slots' (place_of w) 1 0 none) me (get_or s.words (place_of w) 0) (r.0, carried_after me.1 r.1)) (IsSame me (r.0, carried_after me.1 r.1))) (sym (eq-eqb (get_or s.words (place_of w) 0) 1 is_one)) r.4,
        ))
    | inr marked ↦ (
        let held = (keeping.mine row locks by fits shown s kept id own_pass (at ∙ ap some one)).held (taken w b c) has in
        let less : ℕ = (get_or s.words (place_of w) 0 + 18446744073709551615) % 18446744073709551616 in (
          me.0,
          keeps,
          tt,
          subst (λ l. LocksRule row locks by fits shown (record { words = set s.words (place_of w) less; homes = s.homes; views = l })) (sym (set_again s.views id me.0 at))
              (keeping.busy row locks by fits shown s kept w less held.inside (stays_shut (get_or s.words (place_of w) 0) small marked) held.shut),
          subst (λ t. MatchBool t (Releases shown (step slots' (place_of w) 1 0 none) me (get_or s.words (place_of w) 0) (me.0, me.1)) (IsSame me (me.0, me.1))) (sym (ne_eqb (get_or s.words (place_of w) 0) 1 marked)) (refl, refl),
        ))
  ]

module _ {T : Type 0} (shown : T → Seated) (me me' : Me T Passes) (same : IsSame me me') where
  pub still_in_hand : (fits : RowIs → ℕ → T → Type 0) (lock : ℕ) → HasInHand fits shown lock (pass_of me.0) me → HasInHand fits shown lock (pass_of me'.0) me'
  still_in_hand fits lock = subst (λ (m : Me T Passes). HasInHand fits shown lock (pass_of m.0) m) (λ i. (sym same.0 i, sym same.1 i))

  pub same_turn : after_turn shown me' ≡ after_turn shown me
  same_turn = ap (λ (m : Me T Passes). after_turn shown m) (λ i. (same.0 i, same.1 i))

-- the first pass, before any other
abbrev first_pass : Setting → Pass
first_pass setting = new_pass setting.row.value []

abbrev first_accounts : Accounts
first_accounts = record { logs = λ _. []; holder = λ _. (0, 0); who = λ _ _. ([], 0) }

first_fits : (setting : Setting) (by : ℕ → SeatName) (words : List ℕ) → FitsPass setting.row.value setting.locks by first_accounts words (0, 0) (first_pass setting)
first_fits setting by words = record {
  same_row = refl;
  held = λ t is. absurd (keeping.not_taken t is);
  turns = λ k g there. absurd (some-ne-none g (sym there));
}

no_turn : (setting : Setting) (n : PassName) (k : ℕ) (t : Turn) → HasTurn (first_view setting ∷ []) n k t → ⊥
no_turn setting n k t h = elim (place_new [] (first_pass setting) h.place h.pass h.at) [
  | inl none_there ↦ absurd (some-ne-none h.pass (sym none_there))
  | inr one ↦ absurd (some-ne-none t (sym (ap (λ (u : Pass). get_elem? u.turns k) one.1 ∙ h.there)))
]

-- the first pass stands alone
first_alone : (setting : Setting) (z : Place) (p : Pass) → pass_at (first_view setting ∷ []) z ≡ some p → (z ≡ (0, 0)) × (first_pass setting ≡ p)
first_alone setting z p there = elim (place_new [] (first_pass setting) z p there) [
  | inl none_there ↦ absurd (some-ne-none p (sym none_there))
  | inr one ↦ one
]

first_family : (setting : Setting) → AreOneFamily (first_view setting ∷ [])
first_family setting = record {
  first = record { place = (0, 0); pass = first_pass setting; at = refl; is = refl };
  listed = λ z p there. subst (λ (q : Pass). IsListed (first_view setting ∷ []) q.name) (first_alone setting z p there).1 tt;
  stand = λ z p k there lt. let none : k < 0 = subst (λ (q : Pass). k < q.further) (sym (first_alone setting z p there).1) lt in absurd (omega arith);
  once = λ z y p q there there' same. (first_alone setting z p there).0 ∙ sym (first_alone setting y q there').0;
}

pub opens : {T : Type 0} (setting : Setting) (by : ℕ → SeatName) (fits : RowIs → ℕ → T → Type 0) (shown : T → Seated) (xs : List T) → length xs ≡ setting.locks → AreFresh fits shown setting.row.value xs
    → LocksRule setting.row.value setting.locks by fits shown (opening (replicate (place_of setting.locks) 0) xs (first_view setting))
opens setting by fits shown xs many fresh = record {
  accounts = first_accounts;
  wide = length-replicate (place_of setting.locks) 0;
  free = λ lock lt is_zero. let f = fresh lock (omega arith) in record { value = f.0; at = at_map some xs lock f.0 f.1; fit = f.2; saw = f.3 };
  shut = λ lock lt not_zero. absurd (not_zero (get_or-replicate (place_of setting.locks) (place_of lock) 0 0 (omega arith)));
  passes = λ z p there. elim (place_new [] (first_pass setting) z p there) [
    | inl none_there ↦ absurd (some-ne-none p (sym none_there))
    | inr one ↦ subst (λ (y : Place × Pass). FitsPass setting.row.value setting.locks by first_accounts (replicate (place_of setting.locks) 0) y.0 y.1) (λ i. (sym one.0 i, one.1 i)) (first_fits setting by (replicate (place_of setting.locks) 0))
  ];
  made = λ lock k lt below. let none : k < 0 = below in absurd (omega arith);
  family = first_family setting;
  ordered = λ n k m i t u h j. absurd (no_turn setting n k t h);
}
