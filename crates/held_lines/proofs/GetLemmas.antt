-- Gets of several modules, one after another.
use Rattle.std.proofs.Common.{◌≡◌, ℕ, ◌+◌, ◌-◌, ◌<◌, Bool, true, false, not, eqb, leb, cond, List, [], ◌∷◌, ◌++◌, length, get_or, Some, None, refl, sym, ap, subst, ◌∙◌, arith, get_or-set_same}
use Rattle.std.proofs.Math.ListN.{set}
use Rattle.std.specs.Option.{is_some, unwrap_or}
use Rattle.std.proofs.lemmas.Bool.{ne_eqb}
use Rattle.std.proofs.lemmas.List.{set-set, set-get_or}
use Rattle.dep_index.specs.Table.{Table, is_live, state_of, count_of}
use Rattle.dep_index.specs.Catalogue.{modules_of}
use Rattle.dep_index.specs.Calls.{refuse, refusal, next, effect}
use Rattle.dep_index.specs.Laws.{IsShaped}
use Rattle.dep_index.specs.declared.table.calls.Call.TheVariants as call
use Rattle.dep_index.specs.declared.table.calls.Reply.TheVariants.{Done, NotLive, TooMany}
use Rattle.dep_index.proofs.RunLaws.{next_shaped}
use Rattle.modprobe.specs.Setup.{Setup}
use Rattle.modprobe.specs.Refusals.{Refusal, code_of}
use Rattle.modprobe.specs.Changes.{Change, ◌then◌, refusal_of, call_change}
use Rattle.modprobe.proofs.ChangeLemmas.{then_some}
use Rattle.held_lines.specs.Holds.{gets}

abbrev pub one_get : Setup → ℕ → ℕ → Table → Change
one_get s number slot t = call_change s code_of slot (call.Get number slot) t

-- A change alone.
pub then_none : (c : Change) → (c then (λ u. (None, u))) ≡ c
then_none (None, t) = refl
then_none (Some r, t) = refl

-- No refusal is none.
pub refusal_is_some : (r : Refusal) → Some r ≡ None → ⊥
refusal_is_some r e = cc

step : (c : Change) (f g : Table → Change) (u v : Table) → ((w : Table) → f w ≡ (None, u) → g w ≡ (None, v)) → (c then f) ≡ (None, u) → (c then g) ≡ (None, v)
step (None, w) f g u v next e = next w e
step (Some r, w) f g u v next e = absurd (refusal_is_some r (ap (λ (c : Change). c.0) e))

-- One more get is done.
pub gets_push : (s : Setup) (number : ℕ) (slots : List ℕ) (slot : ℕ) (t u v : Table) → gets s number slots t ≡ (None, u) → one_get s number slot u ≡ (None, v)
    → gets s number (slots ++ slot ∷ []) t ≡ (None, v)
gets_push s number [] slot t u v e one =
    let same : t ≡ u = ap (λ (c : Change). c.1) e in
    then_none (one_get s number slot t) ∙ ap (one_get s number slot) same ∙ one
gets_push s number (first ∷ slots) slot t u v e one =
    step (one_get s number first t) (gets s number slots) (gets s number (slots ++ slot ∷ [])) u v (λ w e'. gets_push s number slots slot w u v e' one) e

-- The state before the last get.
pub record BeforeLast (s : Setup) (number : ℕ) (slots : List ℕ) (slot : ℕ) (t v : Table) : Type 0 where
  pub table : Table
  pub gets : gets s number slots t ≡ (None, table)
  pub last : one_get s number slot table ≡ (None, v)

back : (s : Setup) (number : ℕ) (first : ℕ) (slots : List ℕ) (slot : ℕ) (t v : Table) (c : Change) → one_get s number first t ≡ c
    → ((w : Table) → gets s number (slots ++ slot ∷ []) w ≡ (None, v) → BeforeLast s number slots slot w v)
    → (c then (λ w. gets s number (slots ++ slot ∷ []) w)) ≡ (None, v) → BeforeLast s number (first ∷ slots) slot t v
back s number first slots slot t v (None, w) is next e =
    let before = next w e in
    record { table = before.table; gets = rw is before.gets; last = before.last }
back s number first slots slot t v (Some r, w) is next e = absurd (refusal_is_some r (ap (λ (c : Change). c.0) e))

pub gets_back : (s : Setup) (number : ℕ) (slots : List ℕ) (slot : ℕ) (t v : Table) → gets s number (slots ++ slot ∷ []) t ≡ (None, v) → BeforeLast s number slots slot t v
gets_back s number [] slot t v e = record { table = t; gets = refl; last = sym (then_none (one_get s number slot t)) ∙ e }
gets_back s number (first ∷ slots) slot t v e =
    back s number first slots slot t v (one_get s number first t) refl (λ w e'. gets_back s number slots slot w v e') e

stop : (c : Change) (f g : Table → Change) (u : Table) (r : Refusal) → ((w : Table) → f w ≡ (None, u) → (g w).0 ≡ Some r) → (c then f) ≡ (None, u) → (c then g).0 ≡ Some r
stop (None, w) f g u r next e = next w e
stop (Some q, w) f g u r next e = absurd (refusal_is_some q (ap (λ (c : Change). c.0) e))

-- A get is refused after some that are done.
pub gets_stop : (s : Setup) (number : ℕ) (slots : List ℕ) (slot : ℕ) (later : List ℕ) (t u : Table) (r : Refusal) → gets s number slots t ≡ (None, u)
    → (one_get s number slot u).0 ≡ Some r → (gets s number (slots ++ slot ∷ later) t).0 ≡ Some r
gets_stop s number [] slot later t u r e one =
    let same : t ≡ u = ap (λ (c : Change). c.1) e in
    let refused : (one_get s number slot t).0 ≡ Some r = ap (λ (w : Table). (one_get s number slot w).0) same ∙ one in
    ap (λ (c : Change). c.0) (then_some (one_get s number slot t) (gets s number later) r refused)
gets_stop s number (first ∷ slots) slot later t u r e one =
    stop (one_get s number first t) (gets s number slots) (gets s number (slots ++ slot ∷ later)) u r (λ w e'. gets_stop s number slots slot later w u r e' one) e

shaped_by : (slots workers : ℕ) (c : Change) (f : Table → Change) (u : Table) → IsShaped slots workers c.1
    → ((w : Table) → IsShaped slots workers w → f w ≡ (None, u) → IsShaped slots workers u) → (c then f) ≡ (None, u) → IsShaped slots workers u
shaped_by slots workers (None, w) f u shape next e = next w shape e
shaped_by slots workers (Some r, w) f u shape next e = absurd (refusal_is_some r (ap (λ (c : Change). c.0) e))

-- Gets keep the shape of a table.
pub gets_shaped : (slots workers : ℕ) (s : Setup) (number : ℕ) (taken : List ℕ) (t u : Table) → IsShaped slots workers t → gets s number taken t ≡ (None, u) → IsShaped slots workers u
gets_shaped slots workers s number [] t u shape e = subst (λ (w : Table). IsShaped slots workers w) (ap (λ (c : Change). c.1) e) shape
gets_shaped slots workers s number (first ∷ taken) t u shape e =
    shaped_by slots workers (one_get s number first t) (gets s number taken) u (next_shaped slots workers (modules_of s.catalogue) t (call.Get number first) shape)
    (λ w shape' e'. gets_shaped slots workers s number taken w u shape' e') e

-- what is not refused passed both tests
pub get_passed : (s : Setup) (slot : ℕ) (live many : Bool) → refusal_of s code_of slot (unwrap_or (refuse (not live) NotLive (refuse many TooMany None)) Done) ≡ None
    → is_some (refuse (not live) NotLive (refuse many TooMany None)) ≡ false
get_passed s slot true false e = refl
get_passed s slot true true e = absurd (refusal_is_some _ e)
get_passed s slot false many e = absurd (refusal_is_some _ e)

-- A get that was done is undone by a put.
pub put_undoes : (slots workers : ℕ) (s : Setup) (number slot : ℕ) (u v : Table) → IsShaped slots workers u → number < workers → slot < slots
    → one_get s number slot u ≡ (None, v) → next (modules_of s.catalogue) v (call.Put number slot) ≡ u
put_undoes slots workers s number slot u v shape worker below e =
    let rows = u.rows in
    let row = get_or rows number [] in
    let count = get_or row slot 0 in
    let more = set row slot (count + 1) in
    let here : number < length rows = omega (arith, shape.rows) in
    let there : slot < length row = omega (arith, shape.row number worker) in
    let done : is_some (refusal (modules_of s.catalogue) u (call.Get number slot)) ≡ false =
    get_passed s slot (is_live (state_of u.book slot)) (leb 65535 (count_of u number slot)) (ap (λ (c : Change). c.0) e) in
    let is : effect u (call.Get number slot) ≡ v = sym (ap (λ (b : Bool). cond b u (effect u (call.Get number slot))) done) ∙ ap (λ (c : Change). c.1) e in
    let at_row : get_or (set rows number more) number [] ≡ more = get_or-set_same rows number more [] here in
    let at_slot : get_or more slot 0 ≡ count + 1 = get_or-set_same row slot (count + 1) 0 there in
    let some : eqb (count + 1) 0 ≡ false = ne_eqb (count + 1) 0 (omega arith) in
    let less : count + 1 - 1 ≡ count = omega arith in
    let row_back : set more slot count ≡ row = set-set row slot (count + 1) count ∙ set-get_or row slot 0 in
    let rows_back : set (set rows number more) number row ≡ rows = set-set rows number more row ∙ set-get_or rows number [] in
    subst (λ (w : Table). next (modules_of s.catalogue) w (call.Put number slot) ≡ u) is (rw (at_row, at_slot, some, less, row_back, rows_back) refl)
