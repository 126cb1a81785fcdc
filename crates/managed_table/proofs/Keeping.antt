-- The rule of the locks, before and after a step of a pass.
use Rattle.std.proofs.Common.{◌≡◌, ◌≢◌, ◌⊎◌, ℕ, ◌+◌, ◌<◌, ◌≤◌, Bool, true, false, cond, ltb, List, [], ◌∷◌, ◌++◌, length, get_or, set, Option, Some, None, ◌==◌, refl, sym, ap, ◌∙◌, subst, inl, inr, arith, append_assoc, append-nil, length-append, length-set, get_or-set_other, get_or-set_same, eq-eqb, ne_eqb, lt-ltb}
use Rattle.std.proofs.lemmas.Bool.{false≢true, cases_eq, cases_lt, le-ltb}
use Rattle.std.proofs.lemmas.List.Elements.{filter-append}
use mathlib.Core.Option.{some, none, some-injective}
use lib.ListN.{get_elem?}
use Rattle.atomic_table.specs.Table.{State}
use Rattle.atomic_table.proofs.Lists.{set_here, set_else, at_longer, at_last}
use Rattle.root_row.specs.declared.view.SeatAnswer.{SeatAnswer}
use Rattle.root_row.specs.declared.view.AtomicStep.{AtomicStep}
use Rattle.root_row.specs.Seats.{RowIs, Seated}
use Rattle.root_row.specs.World.{place_of}
use Rattle.root_row.specs.History.{SeatName, same_name, StartsWith}
use Rattle.root_row.proofs.Seating.{at_snoc}
use Rattle.managed_table.specs.declared.view.Turn.{Turn}
use Rattle.managed_table.specs.declared.view.Taken.{Taken}
use Rattle.managed_table.specs.declared.view.Pass.{Pass}
use Rattle.managed_table.specs.declared.view.Passes.{Passes}
use Rattle.managed_table.specs.Locks.{count, Place, pass_in, pass_at, Accounts, FitsTurn, IsHeld, FitsPass, IsMade, IsShut, IsHome, HasTurn, AreOneFamily, LocksRule}
use Rattle.managed_table.specs.Kept.{seen}
use Rattle.managed_table.specs.Turns.{PassName, turn, taken, since, alone, with_taken, with_turns, with_missed, Follows, AreOrdered}
use Rattle.managed_table.proofs.Changed.{put, put_here, put_else}
use Rattle.managed_table.proofs.Places.{same_place, place_set, place_here, place_else}
use Rattle.managed_table.proofs.Family.{set_family}

cond_same : {A : Type 0} (b : Bool) (a : A) → cond b a a ≡ a
cond_same true a = refl
cond_same false a = refl

word_here : (words : List ℕ) (locks w x : ℕ) → length words ≡ place_of locks → w < locks → get_or (set words (place_of w) x) (place_of w) 0 ≡ x
word_here words locks w x wide lt = get_or-set_same words (place_of w) x 0 (omega arith)

word_else : (words : List ℕ) (w u x : ℕ) → u ≢ w → get_or (set words (place_of w) x) (place_of u) 0 ≡ get_or words (place_of u) 0
word_else words w u x ne = get_or-set_other words (place_of w) (place_of u) x 0 (λ q. ne (omega arith))

-- what is taken, if it is known
abbrev lock_in : Taken → Option Taken → Taken
lock_in d None = d
lock_in d (Some t) = t

same_taken : (t u : Taken) → Some t ≡ Some u → t ≡ u
same_taken t u e = ap (lock_in t) e

abbrev is_taken : Option Taken → Bool
is_taken None = false
is_taken (Some t) = true

pub not_taken : (t : Taken) → None ≡ Some t → ⊥
not_taken t e = false≢true (ap is_taken e)

starts_same : (l : List SeatAnswer) → StartsWith l l
starts_same l = ([], sym (append-nil l))

pub starts_trans : (l m n : List SeatAnswer) → StartsWith l m → StartsWith m n → StartsWith l n
starts_trans l m n s t = (t.0 ++ s.0, s.1 ∙ ap (λ z. z ++ s.0) t.1 ∙ append_assoc n t.0 s.0)

pub count_more : (n : SeatName) (l m : List SeatAnswer) → StartsWith l m → count n m ≤ count n l
count_more n l m s =
    let e : count n l ≡ count n m + count n s.0 = ap (count n) s.1 ∙ ap length (filter-append (λ (a : SeatAnswer). same_name a.by n) m s.0) ∙ length-append _ _ in
    omega arith

module _ {T : Type 0} (row : RowIs) (locks : ℕ) (by : ℕ → SeatName) (fits : RowIs → ℕ → T → Type 0) (shown : T → Seated) (s : State T Passes) (kept : LocksRule row locks by fits shown s) where
  -- a word that is not 0 is put in place of another
  still_held : (w mark : ℕ) → w < locks → mark ≢ 0 → (z : Place) (t : Taken) → IsHeld locks kept.accounts s.words z t → IsHeld locks kept.accounts (set s.words (place_of w) mark) z t
  still_held w mark inside shut z t held = record {
    inside = held.inside;
    holder = held.holder;
    log = held.log;
    shut = elim (cases_eq t.lock w) [
      | inl same ↦ (λ q. shut (sym (word_here s.words locks w mark kept.wide inside) ∙ ap (λ i. get_or (set s.words (place_of w) mark) (place_of i) 0) (sym same) ∙ q))
      | inr apart ↦ (λ q. held.shut (sym (word_else s.words w t.lock mark apart) ∙ q))
    ];
  }

  pub busy : (w mark : ℕ) → w < locks → mark ≢ 0 → get_or s.words (place_of w) 0 ≢ 0 → LocksRule row locks by fits shown (record { words = set s.words (place_of w) mark; homes = s.homes; views = s.views })
  busy w mark inside shut away = record {
    accounts = kept.accounts;
    wide = length-set s.words (place_of w) mark ∙ kept.wide;
    free = λ u lt is_zero. elim (cases_eq u w) [
      | inl same ↦ absurd (shut (sym (word_here s.words locks w mark kept.wide inside) ∙ ap (λ i. get_or (set s.words (place_of w) mark) (place_of i) 0) (sym same) ∙ is_zero))
      | inr apart ↦ kept.free u lt (sym (word_else s.words w u mark apart) ∙ is_zero)
    ];
    shut = λ u lt not_zero. elim (cases_eq u w) [
      | inl same ↦ kept.shut u lt (λ z. away (ap (λ i. get_or s.words (place_of i) 0) (sym same) ∙ z))
      | inr apart ↦ kept.shut u lt (λ z. not_zero (word_else s.words w u mark apart ∙ z))
    ];
    passes = λ z u there. let old = kept.passes z u there in record {
      same_row = old.same_row;
      held = λ t is. still_held w mark inside shut z t (old.held t is);
      turns = old.turns;
    };
    made = kept.made;
    family = kept.family;
    ordered = kept.ordered;
  }

  module _ (id : ℕ) (v : Pass) (at : get_elem? s.views id ≡ some (alone v)) where
    at_id : pass_at s.views (id, 0) ≡ some v
    at_id = ap (λ o. pass_in o 0) at

    pub mine : FitsPass row locks by kept.accounts s.words (id, 0) v
    mine = kept.passes (id, 0) v at_id

    -- a call stays made if a pass keeps its name and its turns
    made_set : (z : PassName × ℕ) (v' : Pass) (lock k : ℕ) → v'.name ≡ v.name → ((p : ℕ) (t : Turn) → get_elem? v.turns p ≡ some t → get_elem? v'.turns p ≡ some t)
        → IsMade by z s.views lock k → IsMade by z (set s.views id (alone v')) lock k
    made_set z v' lock k same keeps m = elim (same_place m.place (id, 0)) [
      | inl here ↦ (let is : m.pass ≡ v = some-injective m.pass v (sym m.at ∙ ap (λ i. pass_at s.views i) here ∙ at_id) in record {
        place = (id, 0);
        pass = v';
        at = place_here s.views id v v' at;
        name = same ∙ ap (λ (u : Pass). u.name) (sym is) ∙ m.name;
        turn = m.turn;
        there = keeps z.1 m.turn (ap (λ (u : Pass). get_elem? u.turns z.1) (sym is) ∙ m.there);
        is_in = m.is_in;
      })
      | inr away ↦ record {
        place = m.place;
        pass = m.pass;
        at = place_else s.views id v v' m.place m.pass at away m.at;
        name = m.name;
        turn = m.turn;
        there = m.there;
        is_in = m.is_in;
      }
    ]

    -- a turn was there before, or it is one of the pass that changed
    has_set : (v' : Pass) → v'.name ≡ v.name → (n : PassName) (k : ℕ) (t : Turn) → HasTurn (set s.views id (alone v')) n k t → (HasTurn s.views n k t) ⊎ ((n ≡ v.name) × (get_elem? v'.turns k ≡ some t))
    has_set v' same n k t h = elim (place_set s.views id v v' h.place h.pass at h.at) [
      | inl here ↦ inr (sym h.is ∙ ap (λ (u : Pass). u.name) (sym here.1) ∙ same, ap (λ (u : Pass). get_elem? u.turns k) here.1 ∙ h.there)
      | inr away ↦ inl (record { place = h.place; pass = h.pass; at = away.1; is = h.is; there = h.there })
    ]

    has_mine : (n : PassName) (k : ℕ) (t : Turn) → n ≡ v.name → get_elem? v.turns k ≡ some t → HasTurn s.views n k t
    has_mine n k t name there = record { place = (id, 0); pass = v; at = at_id; is = sym name; there = there }

    -- a turn was there before, if a pass keeps its name and its turns
    had_set : (v' : Pass) → v'.name ≡ v.name → v'.turns ≡ v.turns → (n : PassName) (k : ℕ) (t : Turn) → HasTurn (set s.views id (alone v')) n k t → HasTurn s.views n k t
    had_set v' same turns n k t h = elim (has_set v' same n k t h) [
      | inl before ↦ before
      | inr own ↦ has_mine n k t own.0 (ap (λ l. get_elem? l k) (sym turns) ∙ own.1)
    ]

    -- a lock stays shut if a pass keeps the lock
    shut_set : (v' : Pass) (lock : ℕ) → ((t : Taken) → v.taken ≡ Some t → t.lock ≡ lock → v'.taken ≡ Some t)
        → IsShut s.views lock → IsShut (set s.views id (alone v')) lock
    shut_set v' lock keeps m = elim (same_place m.place (id, 0)) [
      | inl here ↦ (let is : m.pass ≡ v = some-injective m.pass v (sym m.at ∙ ap (λ i. pass_at s.views i) here ∙ at_id) in record {
        place = (id, 0);
        pass = v';
        at = place_here s.views id v v' at;
        taken = m.taken;
        has = keeps m.taken (ap (λ (u : Pass). u.taken) (sym is) ∙ m.has) m.same;
        same = m.same;
      })
      | inr away ↦ record {
        place = m.place;
        pass = m.pass;
        at = place_else s.views id v v' m.place m.pass at away m.at;
        taken = m.taken;
        has = m.has;
        same = m.same;
      }
    ]

    -- the family stays if a pass keeps its name and what it lists
    family_set : (v' : Pass) → v'.name ≡ v.name → v'.further ≡ v.further → AreOneFamily (set s.views id (alone v'))
    family_set v' name further = set_family s.views id v v' at (record { name = name; further = further }) kept.family

    -- a pass has found other locks taken
    module _ (locks' : List ℕ) where
      abbrev pub missing : Pass
      missing = with_missed v locks'

      missing_fits : FitsPass row locks by kept.accounts s.words (id, 0) missing
      missing_fits = record { same_row = mine.same_row; held = mine.held; turns = mine.turns }

      pub missed : LocksRule row locks by fits shown (record { words = s.words; homes = s.homes; views = set s.views id (alone missing) })
      missed = record {
        accounts = kept.accounts;
        wide = kept.wide;
        free = kept.free;
        shut = λ u lt not_zero. shut_set missing u (λ t e q. e) (kept.shut u lt not_zero);
        passes = λ z u there. elim (place_set s.views id v missing z u at there) [
          | inl here ↦ subst (λ (y : Place × Pass). FitsPass row locks by kept.accounts s.words y.0 y.1) (λ i. (sym here.0 i, here.1 i)) missing_fits
          | inr away ↦ kept.passes z u away.1
        ];
        made = λ lock k lt below. made_set (kept.accounts.who lock k) missing lock k refl (λ p t e. e) (kept.made lock k lt below);
        family = family_set missing refl refl;
        ordered = λ n k m i t u h j. kept.ordered n k m i t u (had_set missing refl refl n k t h) (had_set missing refl refl m i u j);
      }

    -- a free lock is taken
    module _ (w mark : ℕ) (inside : w < locks) (shut : mark ≢ 0) (none_taken : v.taken ≡ None) (unlocked : get_or s.words (place_of w) 0 ≡ 0) where
      abbrev pub taking : Pass
      taking = with_taken v (Some (taken w (seen (shown (kept.free w inside unlocked).value)) (shown (kept.free w inside unlocked).value).steps))

      abbrev taken_accounts : Accounts
      taken_accounts = record { logs = kept.accounts.logs; holder = put kept.accounts.holder w (id, 0); who = kept.accounts.who }

      pub follows : Follows v w (seen (shown (kept.free w inside unlocked).value))
      follows p t there same = subst (λ l. StartsWith l t.after) (ap kept.accounts.logs same ∙ sym (kept.free w inside unlocked).saw) (mine.turns p t there).begins

      held_else : (z : Place) (t : Taken) → IsHeld locks kept.accounts s.words z t → IsHeld locks taken_accounts (set s.words (place_of w) mark) z t
      held_else z t held = let apart : t.lock ≢ w = λ q. held.shut (ap (λ i. get_or s.words (place_of i) 0) q ∙ unlocked) in record {
        inside = held.inside;
        holder = put_else kept.accounts.holder w (id, 0) t.lock apart ∙ held.holder;
        log = held.log;
        shut = λ q. held.shut (sym (word_else s.words w t.lock mark apart) ∙ q);
      }

      held_here : IsHeld locks taken_accounts (set s.words (place_of w) mark) (id, 0) (taken w (seen (shown (kept.free w inside unlocked).value)) (shown (kept.free w inside unlocked).value).steps)
      held_here = record {
        inside = inside;
        holder = put_here kept.accounts.holder w (id, 0);
        log = (kept.free w inside unlocked).saw;
        shut = λ z. shut (sym (word_here s.words locks w mark kept.wide inside) ∙ z);
      }

      taking_fits : FitsPass row locks by taken_accounts (set s.words (place_of w) mark) (id, 0) taking
      taking_fits = record {
        same_row = mine.same_row;
        held = λ t is. subst (λ (u : Taken). IsHeld locks taken_accounts (set s.words (place_of w) mark) (id, 0) u) (same_taken (taken w (seen (shown (kept.free w inside unlocked).value)) (shown (kept.free w inside unlocked).value).steps) t is) held_here;
        turns = λ p t there. let old = mine.turns p t there in record { begins = old.begins; mine = old.mine };
      }

      else_fits : (z : Place) (u : Pass) → FitsPass row locks by kept.accounts s.words z u → FitsPass row locks by taken_accounts (set s.words (place_of w) mark) z u
      else_fits z u old = record {
        same_row = old.same_row;
        held = λ t is. held_else z t (old.held t is);
        turns = λ p t there. let fit = old.turns p t there in record { begins = fit.begins; mine = fit.mine };
      }

      pub seized : LocksRule row locks by fits shown (record { words = set s.words (place_of w) mark; homes = set s.homes w none; views = set s.views id (alone taking) })
      seized = record {
        accounts = taken_accounts;
        wide = length-set s.words (place_of w) mark ∙ kept.wide;
        free = λ u lt is_zero. elim (cases_eq u w) [
          | inl same ↦ absurd (shut (sym (word_here s.words locks w mark kept.wide inside) ∙ ap (λ i. get_or (set s.words (place_of w) mark) (place_of i) 0) (sym same) ∙ is_zero))
          | inr apart ↦ (let old = kept.free u lt (sym (word_else s.words w u mark apart) ∙ is_zero) in record {
            value = old.value;
            at = set_else s.homes w u none apart ∙ old.at;
            fit = old.fit;
            saw = old.saw;
          })
        ];
        shut = λ u lt not_zero. elim (cases_eq u w) [
          | inl same ↦ record {
            place = (id, 0);
            pass = taking;
            at = place_here s.views id v taking at;
            taken = taken w (seen (shown (kept.free w inside unlocked).value)) (shown (kept.free w inside unlocked).value).steps;
            has = refl;
            same = sym same;
          }
          | inr apart ↦ shut_set taking u (λ t e q. absurd (not_taken t (sym none_taken ∙ e))) (kept.shut u lt (λ z. not_zero (word_else s.words w u mark apart ∙ z)))
        ];
        passes = λ z u there. elim (place_set s.views id v taking z u at there) [
          | inl here ↦ subst (λ (y : Place × Pass). FitsPass row locks by taken_accounts (set s.words (place_of w) mark) y.0 y.1) (λ i. (sym here.0 i, here.1 i)) taking_fits
          | inr away ↦ else_fits z u (kept.passes z u away.1)
        ];
        made = λ lock k lt below. made_set (kept.accounts.who lock k) taking lock k refl (λ p t e. e) (kept.made lock k lt below);
        family = family_set taking refl refl;
        ordered = λ n k m i t u h j. kept.ordered n k m i t u (had_set taking refl refl n k t h) (had_set taking refl refl m i u j);
      }

    -- the value comes back, and has seen more
    module _ (w : ℕ) (x : T) (b : List SeatAnswer) (c : List AtomicStep) (has : v.taken ≡ Some (taken w b c)) (fit : fits row w x) (grows : StartsWith (seen (shown x)) b) (as_many : length s.homes ≡ locks) where
      old : IsHeld locks kept.accounts s.words (id, 0) (taken w b c)
      old = mine.held (taken w b c) has

      abbrev now : Pass
      now = with_turns v (turn w b (seen (shown x)) (since c (shown x)) ∷ [])

      abbrev who' : ℕ → ℕ → PassName × ℕ
      who' u k = cond (u == w) (cond (ltb k (count (by w) b)) (kept.accounts.who u k) (v.name, length v.turns)) (kept.accounts.who u k)

      abbrev back_accounts : Accounts
      back_accounts = record { logs = put kept.accounts.logs w (seen (shown x)); holder = kept.accounts.holder; who = who' }

      who_below : (u k : ℕ) → k < count (by w) b → who' u k ≡ kept.accounts.who u k
      who_below u k lt =
          subst (λ t. cond (u == w) (cond t (kept.accounts.who u k) (v.name, length v.turns)) (kept.accounts.who u k) ≡ kept.accounts.who u k)
          (sym (lt-ltb k (count (by w) b) lt)) (cond_same (u == w) (kept.accounts.who u k))

      who_else : (u k : ℕ) → u ≢ w → who' u k ≡ kept.accounts.who u k
      who_else u k ne =
          subst (λ t. cond t (cond (ltb k (count (by w) b)) (kept.accounts.who u k) (v.name, length v.turns)) (kept.accounts.who u k) ≡ kept.accounts.who u k)
          (sym (ne_eqb u w ne)) refl

      who_new : (k : ℕ) → count (by w) b ≤ k → who' w k ≡ (v.name, length v.turns)
      who_new k le =
          subst (λ t. cond t (cond (ltb k (count (by w) b)) (kept.accounts.who w k) (v.name, length v.turns)) (kept.accounts.who w k) ≡ (v.name, length v.turns))
          (sym (eq-eqb w w refl))
          (subst (λ t. cond t (kept.accounts.who w k) (v.name, length v.turns) ≡ (v.name, length v.turns)) (sym (le-ltb k (count (by w) b) le)) refl)

      turn_kept : (name : PassName) (p : ℕ) (g : Turn) → FitsTurn by kept.accounts name p g → FitsTurn by back_accounts name p g
      turn_kept name p g f = elim (cases_eq g.lock w) [
        | inl same ↦ (
            let before : StartsWith b g.after = subst (λ l. StartsWith l g.after) (ap kept.accounts.logs same ∙ sym old.log) f.begins in
            let less : count (by g.lock) g.after ≤ count (by w) b = subst (λ i. count (by i) g.after ≤ count (by w) b) (sym same) (count_more (by w) b g.after before) in record {
              begins = subst (λ l. StartsWith l g.after) (sym (ap (put kept.accounts.logs w (seen (shown x))) same ∙ put_here kept.accounts.logs w (seen (shown x)))) (starts_trans (seen (shown x)) b g.after grows before);
              mine = λ k is_in. who_below g.lock k (let below = is_in.below in omega arith) ∙ f.mine k is_in;
            })
        | inr apart ↦ record {
          begins = subst (λ l. StartsWith l g.after) (sym (put_else kept.accounts.logs w (seen (shown x)) g.lock apart)) f.begins;
          mine = λ k is_in. who_else g.lock k apart ∙ f.mine k is_in;
        }
      ]

      new_turn : FitsTurn by back_accounts v.name (length v.turns) (turn w b (seen (shown x)) (since c (shown x)))
      new_turn = record {
        begins = subst (λ l. StartsWith l (seen (shown x))) (sym (put_here kept.accounts.logs w (seen (shown x)))) (starts_same (seen (shown x)));
        mine = λ k is_in. who_new k is_in.from;
      }

      now_fits : FitsPass row locks by back_accounts (set s.words (place_of w) 0) (id, 0) now
      now_fits = record {
        same_row = mine.same_row;
        held = λ t is. absurd (not_taken t is);
        turns = λ p g there. elim (at_snoc v.turns (turn w b (seen (shown x)) (since c (shown x))) g p there) [
          | inl before ↦ turn_kept v.name p g (mine.turns p g before)
          | inr last ↦ subst (λ (z : ℕ × Turn). FitsTurn by back_accounts v.name z.0 z.1) (λ i. (sym last.0 i, last.1 i)) new_turn
        ];
      }

      others_fit : (z : Place) (u : Pass) → z ≢ (id, 0) → FitsPass row locks by kept.accounts s.words z u → FitsPass row locks by back_accounts (set s.words (place_of w) 0) z u
      others_fit z u away f = record {
        same_row = f.same_row;
        held = λ t is. let h = f.held t is in let apart : t.lock ≢ w = λ q. away (sym h.holder ∙ ap kept.accounts.holder q ∙ old.holder) in record {
          inside = h.inside;
          holder = h.holder;
          log = h.log ∙ sym (put_else kept.accounts.logs w (seen (shown x)) t.lock apart);
          shut = λ q. h.shut (sym (word_else s.words w t.lock 0 apart) ∙ q);
        };
        turns = λ p g there. turn_kept u.name p g (f.turns p g there);
      }

      made_here : (k : ℕ) → k < count (by w) (seen (shown x)) → IsMade by (who' w k) (set s.views id (alone now)) w k
      made_here k lt = elim (cases_lt k (count (by w) b)) [
        | inl below ↦
            subst (λ z. IsMade by z (set s.views id (alone now)) w k) (sym (who_below w k below))
            (made_set (kept.accounts.who w k) now w k refl (λ p t e. at_longer v.turns (turn w b (seen (shown x)) (since c (shown x)) ∷ []) p t e)
            (kept.made w k old.inside (subst (λ l. k < count (by w) l) old.log below)))
        | inr from ↦ subst (λ z. IsMade by z (set s.views id (alone now)) w k) (sym (who_new k from)) (record {
          place = (id, 0);
          pass = now;
          at = place_here s.views id v now at;
          name = refl;
          turn = turn w b (seen (shown x)) (since c (shown x));
          there = at_last v.turns (turn w b (seen (shown x)) (since c (shown x))) (length v.turns) refl;
          is_in = record { same = refl; from = from; below = lt };
        })
      ]

      made_else : (u k : ℕ) → u ≢ w → u < locks → k < count (by u) (put kept.accounts.logs w (seen (shown x)) u) → IsMade by (who' u k) (set s.views id (alone now)) u k
      made_else u k apart lt below =
          subst (λ z. IsMade by z (set s.views id (alone now)) u k) (sym (who_else u k apart))
          (made_set (kept.accounts.who u k) now u k refl (λ p t e. at_longer v.turns (turn w b (seen (shown x)) (since c (shown x)) ∷ []) p t e)
          (kept.made u k lt (subst (λ l. k < count (by u) l) (put_else kept.accounts.logs w (seen (shown x)) u apart) below)))

      -- a turn was there before, or it is this one
      has_now : (n : PassName) (k : ℕ) (t : Turn) → HasTurn (set s.views id (alone now)) n k t → (HasTurn s.views n k t) ⊎ ((n ≡ v.name) × (k ≡ length v.turns) × (turn w b (seen (shown x)) (since c (shown x)) ≡ t))
      has_now n k t h = elim (has_set now refl n k t h) [
        | inl before ↦ inl before
        | inr own ↦ (elim (at_snoc v.turns (turn w b (seen (shown x)) (since c (shown x))) t k own.1) [
          | inl before ↦ inl (has_mine n k t own.0 before)
          | inr last ↦ inr (own.0, last.0, last.1)
        ])
      ]

      -- whatever turn was there at this lock was before this one
      came_before : (n : PassName) (k : ℕ) (t : Turn) → HasTurn s.views n k t → t.lock ≡ w → StartsWith b t.after
      came_before n k t h same = subst (λ l. StartsWith l t.after) (ap kept.accounts.logs same ∙ sym old.log) ((kept.passes h.place h.pass h.at).turns k t h.there).begins

      now_ordered : (n : PassName) (k : ℕ) (m : PassName) (i : ℕ) (t u : Turn) → HasTurn (set s.views id (alone now)) n k t → HasTurn (set s.views id (alone now)) m i u → t.lock ≡ u.lock → ((n ≡ m) × (k ≡ i) → ⊥) → AreOrdered t u
      now_ordered n k m i t u h j same apart = elim (has_now n k t h) [
        | inl one ↦ (elim (has_now m i u j) [
          | inl other ↦ kept.ordered n k m i t u one other same apart
          | inr new ↦ inl (subst (λ (z : Turn). StartsWith z.before t.after) new.2 (came_before n k t one (same ∙ ap (λ (z : Turn). z.lock) (sym new.2))))
        ])
        | inr new ↦ (elim (has_now m i u j) [
          | inl other ↦ inr (subst (λ (z : Turn). StartsWith z.before u.after) new.2 (came_before m i u other (sym same ∙ ap (λ (z : Turn). z.lock) (sym new.2))))
          | inr again ↦ absurd (apart (new.0 ∙ sym again.0, new.1 ∙ sym again.1))
        ])
      ]

      pub released : LocksRule row locks by fits shown (record { words = set s.words (place_of w) 0; homes = set s.homes w (some x); views = set s.views id (alone now) })
      released = record {
        accounts = back_accounts;
        wide = length-set s.words (place_of w) 0 ∙ kept.wide;
        free = λ u lt is_zero. elim (cases_eq u w) [
          | inl same ↦ subst (λ i. IsHome row fits shown (set s.homes w (some x)) i (put kept.accounts.logs w (seen (shown x)) i)) (sym same) (record {
            value = x;
            at = set_here s.homes w (some x) (let within : w < locks = old.inside in omega arith);
            fit = fit;
            saw = sym (put_here kept.accounts.logs w (seen (shown x)));
          })
          | inr apart ↦ (let before = kept.free u lt (sym (word_else s.words w u 0 apart) ∙ is_zero) in record {
            value = before.value;
            at = set_else s.homes w u (some x) apart ∙ before.at;
            fit = before.fit;
            saw = before.saw ∙ sym (put_else kept.accounts.logs w (seen (shown x)) u apart);
          })
        ];
        shut = λ u lt not_zero. elim (cases_eq u w) [
          | inl same ↦ absurd (not_zero (ap (λ i. get_or (set s.words (place_of w) 0) (place_of i) 0) same ∙ word_here s.words locks w 0 kept.wide old.inside))
          | inr apart ↦ shut_set now u (λ t e q. absurd (apart (sym q ∙ ap (λ (k : Taken). k.lock) (same_taken t (taken w b c) (sym e ∙ has))))) (kept.shut u lt (λ z. not_zero (word_else s.words w u 0 apart ∙ z)))
        ];
        passes = λ z u there. elim (place_set s.views id v now z u at there) [
          | inl here ↦ subst (λ (y : Place × Pass). FitsPass row locks by back_accounts (set s.words (place_of w) 0) y.0 y.1) (λ i. (sym here.0 i, here.1 i)) now_fits
          | inr away ↦ others_fit z u away.0 (kept.passes z u away.1)
        ];
        made = λ u k lt below. elim (cases_eq u w) [
          | inl same ↦
              subst (λ i. IsMade by (who' i k) (set s.views id (alone now)) i k) (sym same)
              (made_here k (subst (λ l. k < count (by w) l) (put_here kept.accounts.logs w (seen (shown x))) (subst (λ i. k < count (by i) (put kept.accounts.logs w (seen (shown x)) i)) same below)))
          | inr apart ↦ made_else u k apart lt below
        ];
        family = family_set now refl refl;
        ordered = now_ordered;
      }
