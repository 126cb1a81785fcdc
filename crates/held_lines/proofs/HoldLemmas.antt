-- A hold that is done holds each of its modules.
use Rattle.std.proofs.Common.{◌≡◌, ℕ, ◌+◌, ◌<◌, ◌≤◌, inl, inr, Bool, false, leb, cond, List, [], ◌∷◌, length, get_or, Some, None, refl, sym, ap, subst, ◌∙◌, arith, get_or-set_same, get_or-set_other}
use Rattle.std.proofs.Math.ListN.{set}
use Rattle.std.specs.List.{All}
use Rattle.std.specs.Option.{is_some}
use Rattle.std.proofs.lemmas.Bool.{cases_eq}
use Rattle.std.proofs.lemmas.List.Elements.{All-nil, All-cons, All-head, All-tail}
use Rattle.dep_index.specs.Table.{Table, is_live, state_of, count_of}
use Rattle.dep_index.specs.Catalogue.{modules_of}
use Rattle.dep_index.specs.Calls.{refusal, next, effect}
use Rattle.dep_index.specs.Laws.{IsShaped}
use Rattle.dep_index.specs.declared.table.calls.Call.TheVariants as call
use Rattle.dep_index.proofs.RunLaws.{next_shaped}
use Rattle.modprobe.specs.Setup.{Setup}
use Rattle.modprobe.specs.Changes.{Change, ◌then◌}
use Rattle.held_lines.specs.Holds.{gets}
use Rattle.held_lines.proofs.GetLemmas.{one_get, get_passed, refusal_is_some}

-- the counts of one row grow
pub record Grows (number : ℕ) (old new : Table) : Type 0 where
  pub counts : (m : ℕ) → count_of old number m ≤ count_of new number m

-- one get makes its own count more, and leaves the others
get_grows : (slots workers : ℕ) (s : Setup) (number slot : ℕ) (t u : Table) → IsShaped slots workers t → number < workers → slot < slots → one_get s number slot t ≡ (None, u)
    → Grows number t u × (count_of u number slot ≡ count_of t number slot + 1)
get_grows slots workers s number slot t u shape worker below e =
    let rows = t.rows in
    let row = get_or rows number [] in
    let count = get_or row slot 0 in
    let more = set row slot (count + 1) in
    let here : number < length rows = omega (arith, shape.rows) in
    let there : slot < length row = omega (arith, shape.row number worker) in
    let done : is_some (refusal (modules_of s.catalogue) t (call.Get number slot)) ≡ false =
    get_passed s slot (is_live (state_of t.book slot)) (leb 65535 (count_of t number slot)) (ap (λ (c : Change). c.0) e) in
    let is : effect t (call.Get number slot) ≡ u = sym (ap (λ (b : Bool). cond b t (effect t (call.Get number slot))) done) ∙ ap (λ (c : Change). c.1) e in
    let at_row : get_or u.rows number [] ≡ more = ap (λ (w : Table). get_or w.rows number []) (sym is) ∙ get_or-set_same rows number more [] here in
    let own : count_of u number slot ≡ count + 1 = ap (λ (r : List ℕ). get_or r slot 0) at_row ∙ get_or-set_same row slot (count + 1) 0 there in
    let grows : (m : ℕ) → count_of t number m ≤ count_of u number m = λ m.
    elim (cases_eq m slot) [
      | inl same ↦ rw same (omega (arith, own))
      | inr other ↦
          let kept : count_of u number m ≡ count_of t number m = ap (λ (r : List ℕ). get_or r m 0) at_row ∙ get_or-set_other row slot m (count + 1) 0 other in
          omega (arith, kept)
    ] in
    (record { counts = grows }, own)

-- what some gets leave: no count less, and each module of theirs is held
pub record AreHeld (number : ℕ) (taken : List ℕ) (old new : Table) : Type 0 where
  pub grows : Grows number old new
  pub held : All (λ (m : ℕ). 0 < count_of new number m) taken

one_more : (slots workers : ℕ) (s : Setup) (number slot : ℕ) (taken : List ℕ) (t u : Table) (c : Change) → IsShaped slots workers t → number < workers → slot < slots
    → one_get s number slot t ≡ c → ((w : Table) → IsShaped slots workers w → gets s number taken w ≡ (None, u) → AreHeld number taken w u)
    → (c then gets s number taken) ≡ (None, u) → AreHeld number (slot ∷ taken) t u
one_more slots workers s number slot taken t u (None, w) shape worker below is next e =
    let first = get_grows slots workers s number slot t w shape worker below is in
    let shape' : IsShaped slots workers w = subst (λ (v : Table). IsShaped slots workers v) (ap (λ (c : Change). c.1) is) (next_shaped slots workers (modules_of s.catalogue) t (call.Get number slot) shape) in
    let later = next w shape' e in
    let here : 0 < count_of u number slot = omega (arith, first.1, later.grows.counts slot) in
    record {
      grows = record { counts = λ m. omega (arith, first.0.counts m, later.grows.counts m) };
      held = All-cons (λ (m : ℕ). 0 < count_of u number m) slot taken here later.held;
    }
one_more slots workers s number slot taken t u (Some r, w) shape worker below is next e = absurd (refusal_is_some r (ap (λ (c : Change). c.0) e))

-- Some gets are done.
pub gets_hold : (slots workers : ℕ) (s : Setup) (number : ℕ) (taken : List ℕ) (t u : Table) → IsShaped slots workers t → number < workers → All (λ (m : ℕ). m < slots) taken
    → gets s number taken t ≡ (None, u) → AreHeld number taken t u
gets_hold slots workers s number [] t u shape worker within e =
    let same : t ≡ u = ap (λ (c : Change). c.1) e in
    record { grows = record { counts = λ m. rw same (omega arith) }; held = All-nil (λ (m : ℕ). 0 < count_of u number m) }
gets_hold slots workers s number (slot ∷ taken) t u shape worker within e =
    one_more slots workers s number slot taken t u (one_get s number slot t) shape worker (All-head (λ (m : ℕ). m < slots) slot taken within) refl
    (λ w shape' e'. gets_hold slots workers s number taken w u shape' worker (All-tail (λ (m : ℕ). m < slots) slot taken within) e') e
