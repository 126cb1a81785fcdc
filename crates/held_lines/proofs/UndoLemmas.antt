-- Gets that are put back, the last one first.
use Rattle.std.proofs.Common.{◌≡◌, ℕ, ◌+◌, ◌<◌, List, [], ◌∷◌, ◌++◌, length, take, drop, get_or, Bool, true, false, cond, None, refl, sym, ap, subst, ◌∙◌, arith}
use Rattle.std.specs.List.{All}
use Rattle.std.specs.Option.{is_some}
use Rattle.std.proofs.lemmas.List.{length-append, length-set, get_or_append_left, get_or_at, take_more, drop_more, take-append-drop}
use Rattle.dep_index.specs.Table.{Module, Table}
use Rattle.dep_index.specs.Catalogue.{modules_of}
use Rattle.dep_index.specs.Calls.{refusal, next, effect}
use Rattle.dep_index.specs.Laws.{IsShaped}
use Rattle.dep_index.specs.declared.table.calls.Call.TheVariants as call
use Rattle.modprobe.specs.Setup.{Setup, name_at}
use Rattle.modprobe.specs.Changes.{Change}
use Rattle.held_lines.specs.declared.gets.TakeError.{TakeError}
use Rattle.held_lines.specs.declared.gets.TakeError.TheVariants as take_error
use Rattle.held_lines.specs.Holds.{gets}
use Rattle.held_lines.specs.ForProofs.{Tells}
use Rattle.held_lines.proofs.GetLemmas.{one_get, gets_push, gets_back, gets_stop, gets_shaped, put_undoes}

pub all_front : (P : ℕ → Type 0) (xs ys : List ℕ) → All P (xs ++ ys) → All P xs
all_front P xs ys all k d below = subst P (get_or_append_left xs ys d k below) (all k d (omega (arith, length-append xs ys)))

pub all_last : (P : ℕ → Type 0) (xs : List ℕ) (x : ℕ) → All P (xs ++ x ∷ []) → P x
all_last P xs x all = subst P (get_or_at xs x [] x (length xs) refl) (all (length xs) x (omega (arith, length-append xs (x ∷ []))))

-- The last get is put back.
pub undo_step : (slots workers : ℕ) (s : Setup) (number slot : ℕ) (earlier : List ℕ) (t u v : Table) → IsShaped slots workers t → number < workers → slot < slots
    → gets s number (earlier ++ slot ∷ []) t ≡ (None, u) → v ≡ next (modules_of s.catalogue) u (call.Put number slot) → gets s number earlier t ≡ (None, v)
undo_step slots workers s number slot earlier t u v shape worker below e is =
    let before = gets_back s number earlier slot t u e in
    let shape' = gets_shaped slots workers s number earlier t before.table shape before.gets in
    let back : v ≡ before.table = is ∙ put_undoes slots workers s number slot before.table u shape' worker below before.last in
    let done : Table → Change = λ w. (None, w) in
    before.gets ∙ ap done (sym back)

-- One more get is done.
pub take_step : (s : Setup) (number : ℕ) (slots : List ℕ) (i d : ℕ) (t u v : Table) → i < length slots → gets s number (take i slots) t ≡ (None, u)
    → one_get s number (get_or slots i d) u ≡ (None, v) → gets s number (take (i + 1) slots) t ≡ (None, v)
take_step s number slots i d t u v below done one =
    ap (λ (l : List ℕ). gets s number l t) (take_more slots i d below) ∙ gets_push s number (take i slots) (get_or slots i d) t u v done one

-- A get is not done, and with it none of all.
pub take_stop : (s : Setup) (number : ℕ) (slots : List ℕ) (i d : ℕ) (t u : Table) (error : TakeError) → i < length slots
    → gets s number (take i slots) t ≡ (None, u) → Tells s error (one_get s number (get_or slots i d) u).0 → Tells s error (gets s number slots t).0
take_stop s number slots i d t u (take_error.Refused code m) below done tells =
    let slot = get_or slots i d in
    let all : take i slots ++ slot ∷ drop (i + 1) slots ≡ slots = ap (λ (l : List ℕ). take i slots ++ l) (sym (drop_more slots i d below)) ∙ take-append-drop i slots in (
      tells.0,
      ap (λ (l : List ℕ). (gets s number l t).0) (sym all)
          ∙ gets_stop s number (take i slots) slot (drop (i + 1) slots) t u (record { code = code; name = name_at s m }) done tells.1,
    )
take_stop s number slots i d t u take_error.Full below done tells = absurd tells
take_stop s number slots i d t u take_error.Memory below done tells = tt

-- A put keeps the number of rows.
pub put_long : (catalogue : List Module) (t : Table) (number slot : ℕ) → length (next catalogue t (call.Put number slot)).rows ≡ length t.rows
put_long catalogue t number slot = at (is_some (refusal catalogue t (call.Put number slot))) where
  at : (b : Bool) → length (cond b t (effect t (call.Put number slot))).rows ≡ length t.rows
  at true = refl
  at false = length-set t.rows number _
