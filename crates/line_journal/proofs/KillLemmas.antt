-- The history of a file that loses nothing.
use Rattle.std.proofs.Common.{◌≡◌, ◌⊎◌, inl, inr, ⊎_elim, ℕ, zero, suc, ◌+◌, ◌≤◌, List, [], ◌∷◌, ◌++◌, length, take, drop, Vec, refl, sym, ◌∙◌, subst, arith, length-append, length-drop}
use Rattle.std.proofs.lemmas.List.{length-take-le}
use Rattle.std.specs.declared.alloc.Global.{Global}
use Rattle.line_journal.specs.Device.{History, overwritten, Torn, Shortened, Goes}
use Rattle.line_journal.specs.Past.{IsAmong, WasThere, kill_history}

-- a call that does nothing
pub stays : {step : List ℕ → List ℕ → Type 0} (history : History) → ((file : List ℕ) → history.leaves file → step file file) → Goes step history history
stays {step} history does_nothing = record {
  later = omega arith;
  steps = λ left leaves. (left, leaves, does_nothing left leaves);
  nothing_else = λ moment left le since. inl since;
  keeps = λ moment left le since. since;
}

among_more : (past : List (Vec ℕ Global)) (next : Vec ℕ Global) (file : List ℕ) → IsAmong past file → IsAmong (past ++ next ∷ []) file
among_more [] next file among = absurd among
among_more (first ∷ past) next file (inl is) = inl is
among_more (first ∷ past) next file (inr later) = inr (among_more past next file later)

among_one : (past : List (Vec ℕ Global)) (next : Vec ℕ Global) (file : List ℕ) → IsAmong (past ++ next ∷ []) file → IsAmong past file ⊎ (file ≡ next.items)
among_one [] next file (inl is) = inr is
among_one [] next file (inr none) = absurd none
among_one (first ∷ past) next file (inl is) = inl (inl is)
among_one (first ∷ past) next file (inr later) = ⊎_elim (λ among. inl (inr among)) (λ is. inr is) (among_one past next file later)

last_among : (past : List (Vec ℕ Global)) (next : Vec ℕ Global) (file : List ℕ) → file ≡ next.items → IsAmong (past ++ next ∷ []) file
last_among [] next file is = inl is
last_among (first ∷ past) next file is = inr (last_among past next file is)

drop_push : (moment : ℕ) (past : List (Vec ℕ Global)) (next : Vec ℕ Global) → moment ≤ length past → drop moment (past ++ next ∷ []) ≡ drop moment past ++ next ∷ []
drop_push zero past next le = refl
drop_push (suc moment) [] next le = absurd (omega arith)
drop_push (suc moment) (first ∷ past) next le = drop_push moment past next (omega arith)

module _ (past : List (Vec ℕ Global)) (last : Vec ℕ Global) (old new : List ℕ) (is : last.items ≡ old) where
  was_before : (moment : ℕ) (left : List ℕ) → moment ≤ length past → IsAmong (drop moment (past ++ last ∷ [])) left → WasThere past old moment left
  was_before moment left le among = ⊎_elim (λ before. inr before) (λ same. inl (same ∙ is)) (among_one (drop moment past) last left (subst (λ (l : List (Vec ℕ Global)). IsAmong l left) (drop_push moment past last le) among))

  still_there : (moment : ℕ) (left : List ℕ) → moment ≤ length past → WasThere past old moment left → IsAmong (drop moment (past ++ last ∷ [])) left
  still_there moment left le was = subst (λ (l : List (Vec ℕ Global)). IsAmong l left) (sym (drop_push moment past last le)) (⊎_elim (λ same. last_among (drop moment past) last left (same ∙ sym is)) (among_more (drop moment past) last left) was)

  -- a call after which the file holds other bytes
  pub held : {step : List ℕ → List ℕ → Type 0} → step old new → Goes step (kill_history past old) (kill_history (past ++ last ∷ []) new)
  held {step} does = record {
    later = omega (arith, length-append past (last ∷ []));
    steps = λ left leaves. (old, refl, subst (step old) (sym leaves) does);
    nothing_else = λ moment left le since. ⊎_elim (λ now. inr now) (λ among. inl (was_before moment left le among)) since;
    keeps = λ moment left le since. inr (still_there moment left le since);
  }

pub held_next : {step : List ℕ → List ℕ → Type 0} (past later : List (Vec ℕ Global)) (last : Vec ℕ Global) (old new : List ℕ) → last.items ≡ old → later ≡ past ++ last ∷ [] → step old new
    → Goes step (kill_history past old) (kill_history later new)
held_next {step} past later last old new is more does = subst (λ (l : List (Vec ℕ Global)). Goes step (kill_history past old) (kill_history l new)) (sym more) (held past last old new is does)

-- a write that was done is one of what a crash may leave of it
pub torn_done : (file bytes : List ℕ) (place : ℕ) → place ≤ length file → Torn place (length bytes) file (overwritten file place bytes)
torn_done file bytes place le = record {
  middle = bytes;
  is = refl;
  within = omega arith;
  no_shorter = omega (
    arith,
    le,
    length-append (take place file) (bytes ++ drop (place + length bytes) file),
    length-append bytes (drop (place + length bytes) file),
    length-take-le place file le,
    length-drop (place + length bytes) file,
  );
}

pub shortened_done : (file : List ℕ) (size : ℕ) → Shortened size file (take size file)
shortened_done file size = record { size = size; no_less = omega arith; is = refl }

-- a call that failed, and left the file and its past as they were
pub not_held : {step : List ℕ → List ℕ → Type 0} (past later : List (Vec ℕ Global)) (old new : List ℕ) → later ≡ past → new ≡ old → step old old → Goes step (kill_history past old) (kill_history later new)
not_held {step} past later old new same_past same does_nothing =
    subst (λ (l : List (Vec ℕ Global)). Goes step (kill_history past old) (kill_history l new)) (sym same_past)
    (subst (λ (f : List ℕ). Goes step (kill_history past old) (kill_history past f)) (sym same) (stays (kill_history past old) (λ file is. subst (λ (f : List ℕ). step f f) (sym is) does_nothing)))
