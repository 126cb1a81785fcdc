-- What a load makes of the states of a table.
use Rattle.std.proofs.Common.{◌≡◌, ◌≢◌, ℕ, ◌<◌, Bool, true, false, not, ◌&&◌, cond, List, [], ◌∷◌, length, length-set, get_or-set_same, get_or-set_other, Option, Some, None, refl, sym, ◌∙◌, ap, subst, inl, inr, ◌⊎◌}
use Rattle.std.specs.Prelude.{is_some, unwrap_or, find}
use Rattle.std.specs.List.{list_all}
use Rattle.std.proofs.Math.ListN.{set}
use Rattle.dep_index.specs.declared.table.states.ModuleState.{ModuleState}
use Rattle.dep_index.specs.declared.table.states.ModuleState.TheVariants.{Absent, Loading, Live}
use Rattle.dep_index.specs.declared.table.calls.Call.TheVariants.{BeginLoad, EndLoad}
use Rattle.dep_index.specs.declared.table.calls.Reply.{Reply}
use Rattle.dep_index.specs.declared.table.calls.Reply.TheVariants.{Done, Exists, UnknownSymbol, NotLoading}
use Rattle.dep_index.specs.Table.{Module, Book, Table, module_at, state_of, is_absent, is_loading, is_live}
use Rattle.dep_index.specs.Calls.{refuse, or_else, missing_need, refusal, next, effect}
use Rattle.dep_index.specs.Catalogue.{description_at, module_of, modules_of, needs_of, has_unknown_symbol}
use Rattle.dep_index.proofs.SlotLemmas.{module_at-modules_of}
use Rattle.dep_index.proofs.TableLaws.{absent_from}
use Rattle.load_plan.specs.Parameters.{are_valid}
use Rattle.modprobe.specs.declared.refusal.Code.TheVariants.{Einval}
use Rattle.modprobe.specs.Setup.{Setup, name_at}
use Rattle.modprobe.specs.Refusals as told
use Rattle.modprobe.specs.Changes.{Change, ◌then◌, refusal_of, call_change, end_of_load, one_load}

-- the state of one slot alone may differ
pub record OneSlot (t u : Table) (k : ℕ) : Type 0 where
  pub long : length u.book.states ≡ length t.book.states
  pub other : (m : ℕ) → m ≢ k → state_of u.book m ≡ state_of t.book m

same_slot : (t : Table) (k : ℕ) → OneSlot t t k
same_slot t k = record { long = refl; other = λ m ne. refl }

pub one_both : {t u v : Table} {k : ℕ} → OneSlot t u k → OneSlot u v k → OneSlot t v k
one_both {t} {u} {v} {k} a b = record { long = b.long ∙ a.long; other = λ m ne. b.other m ne ∙ a.other m ne }

one_set : (t : Table) (k : ℕ) (state : ModuleState) (order : List ℕ) (rows : List (List ℕ)) → OneSlot t (record { book = record { states = set t.book.states k state; order = order }; rows = rows }) k
one_set t k state order rows = record {
  long = length-set t.book.states k state;
  other = λ m ne. get_or-set_other t.book.states k m state Absent ne;
}

either_slot : (o : Option Reply) (t u : Table) (k : ℕ) → OneSlot t u k → OneSlot t (cond (is_some o) t u) k
either_slot None t u k h = h
either_slot (Some r) t u k h = same_slot t k

begin_one : (modules : List Module) (t : Table) (k : ℕ) → OneSlot t (next modules t (BeginLoad k)) k
begin_one modules t k = either_slot (refusal modules t (BeginLoad k)) t (effect t (BeginLoad k)) k (one_set t k Loading _ _)

end_one : (modules : List Module) (t : Table) (k : ℕ) (ok : Bool) → OneSlot t (next modules t (EndLoad k ok)) k
end_one modules t k true = either_slot (refusal modules t (EndLoad k true)) t (effect t (EndLoad k true)) k (one_set t k Live _ _)
end_one modules t k false = either_slot (refusal modules t (EndLoad k false)) t (effect t (EndLoad k false)) k (one_set t k Absent _ _)

then_one : (c : Change) (f : Table → Change) (t : Table) (k : ℕ) → OneSlot t c.1 k → ((u : Table) → OneSlot u (f u).1 k) → OneSlot t (c then f).1 k
then_one (None, u) f t k h g = one_both h (g u)
then_one (Some r, u) f t k h g = h

-- a change after which only something is said leaves the same table
pub then_said : (c : Change) (said : Table → Option told.Refusal) → (c then (λ u. (said u, u))).1 ≡ c.1
then_said (None, u) said = refl
then_said (Some r, u) said = refl

ended_one : (s : Setup) (k : ℕ) (valid : Bool) (t : Table) → OneSlot t (end_of_load s k valid t).1 k
ended_one s k true t = end_one (modules_of s.catalogue) t k true
ended_one s k false t = subst (λ u. OneSlot t u k) (sym (then_said (call_change s told.code_of k (EndLoad k false) t) (λ u. told.refuse Einval (name_at s k)))) (end_one (modules_of s.catalogue) t k false)

-- a load changes the state of its slot alone
pub load_one : (s : Setup) (k : ℕ) (words : List (List ℕ)) (t : Table) → OneSlot t (one_load s k words t).1 k
load_one s k words t =
    then_one (call_change s told.code_of k (BeginLoad k) t) (λ u. end_of_load s k (are_valid (description_at s.catalogue k) words) u) t k
    (begin_one (modules_of s.catalogue) t k) (λ u. ended_one s k (are_valid (description_at s.catalogue k) words) u)

-- the module is live, or it is not in the table
abbrev pub AtRest : ModuleState → Type 0
AtRest state = (is_live state ≡ true) ⊎ (is_absent state ≡ true)

rest_from : (a b : ModuleState) → a ≡ b → AtRest b → AtRest a
rest_from a b e h = subst AtRest (sym e) h

-- the end of a load that has begun, and of one that has not
end_loading : (modules : List Module) (u : Table) (k : ℕ) (ok : Bool) → state_of u.book k ≡ Loading → next modules u (EndLoad k ok) ≡ effect u (EndLoad k ok)
end_loading modules u k ok e = ap (λ st. cond (is_some (or_else (refuse (not (is_loading st)) NotLoading None) None)) u (effect u (EndLoad k ok))) e

end_absent : (modules : List Module) (u : Table) (k : ℕ) (ok : Bool) → state_of u.book k ≡ Absent → next modules u (EndLoad k ok) ≡ u
end_absent modules u k ok e = ap (λ st. cond (is_some (or_else (refuse (not (is_loading st)) NotLoading None) None)) u (effect u (EndLoad k ok))) e

-- what the end leaves
ended_table : (s : Setup) (k : ℕ) (valid : Bool) (u : Table) → (end_of_load s k valid u).1 ≡ next (modules_of s.catalogue) u (EndLoad k valid)
ended_table s k true u = refl
ended_table s k false u = then_said (call_change s told.code_of k (EndLoad k false) u) (λ v. told.refuse Einval (name_at s k))

ended_live : (s : Setup) (k : ℕ) (u : Table) → k < length u.book.states → state_of u.book k ≡ Loading → state_of (end_of_load s k true u).1.book k ≡ Live
ended_live s k u within loading =
    ap (λ v. state_of v.book k) (ended_table s k true u ∙ end_loading (modules_of s.catalogue) u k true loading)
    ∙ get_or-set_same u.book.states k Live Absent within

ended_absent : (s : Setup) (k : ℕ) (u : Table) → k < length u.book.states → state_of u.book k ≡ Loading → state_of (end_of_load s k false u).1.book k ≡ Absent
ended_absent s k u within loading =
    ap (λ v. state_of v.book k) (ended_table s k false u ∙ end_loading (modules_of s.catalogue) u k false loading)
    ∙ get_or-set_same u.book.states k Absent Absent within

ended_rest : (s : Setup) (k : ℕ) (valid : Bool) (u : Table) → k < length u.book.states → state_of u.book k ≡ Loading → AtRest (state_of (end_of_load s k valid u).1.book k)
ended_rest s k true u within loading = rest_from _ Live (ended_live s k u within loading) (inl refl)
ended_rest s k false u within loading = rest_from _ Absent (ended_absent s k u within loading) (inr refl)

not_begun : (s : Setup) (k : ℕ) (valid : Bool) (u : Table) → state_of u.book k ≡ Absent → AtRest (state_of (end_of_load s k valid u).1.book k)
not_begun s k valid u absent =
    rest_from _ Absent (ap (λ v. state_of v.book k) (ended_table s k valid u ∙ end_absent (modules_of s.catalogue) u k valid absent) ∙ absent) (inr refl)

-- a load that begins
begun : (s : Setup) (k : ℕ) (t : Table) → refusal (modules_of s.catalogue) t (BeginLoad k) ≡ None → call_change s told.code_of k (BeginLoad k) t ≡ (None, effect t (BeginLoad k))
begun s k t e =
    ap (λ o. (refusal_of s told.code_of k (unwrap_or o Done), cond (is_some o) t (effect t (BeginLoad k)))) e

begun_load : (s : Setup) (k : ℕ) (words : List (List ℕ)) (t : Table) → refusal (modules_of s.catalogue) t (BeginLoad k) ≡ None → one_load s k words t ≡ end_of_load s k (are_valid (description_at s.catalogue k) words) (effect t (BeginLoad k))
begun_load s k words t e = ap (λ (c : Change). c then (λ u. end_of_load s k (are_valid (description_at s.catalogue k) words) u)) (begun s k t e)

begun_state : (k : ℕ) (t : Table) → k < length t.book.states → state_of (effect t (BeginLoad k)).book k ≡ Loading
begun_state k t within = get_or-set_same t.book.states k Loading Absent within

begun_long : (k : ℕ) (t : Table) → k < length t.book.states → k < length (effect t (BeginLoad k)).book.states
begun_long k t within = subst (λ n. k < n) (sym (length-set t.book.states k Loading)) within

-- a load of an absent module leaves it at rest
pub load_rest : (s : Setup) (k : ℕ) (words : List (List ℕ)) (t : Table) → k < length t.book.states → is_absent (state_of t.book k) ≡ true → AtRest (state_of (one_load s k words t).1.book k)
load_rest s k words t within absent = at (refusal (modules_of s.catalogue) t (BeginLoad k)) refl
  where
    later : (o : Option told.Refusal) → AtRest (state_of ((o, t) then (λ u. end_of_load s k (are_valid (description_at s.catalogue k) words) u)).1.book k)
    later None = not_begun s k (are_valid (description_at s.catalogue k) words) t (absent_from (state_of t.book k) absent)
    later (Some r) = inr absent

    at : (o : Option Reply) → refusal (modules_of s.catalogue) t (BeginLoad k) ≡ o → AtRest (state_of (one_load s k words t).1.book k)
    at None e =
        subst (λ (c : Change). AtRest (state_of c.1.book k)) (sym (begun_load s k words t e))
        (ended_rest s k (are_valid (description_at s.catalogue k) words) (effect t (BeginLoad k)) (begun_long k t within) (begun_state k t within))
    at (Some r) e =
        subst (λ (c : Change). AtRest (state_of (c then (λ u. end_of_load s k (are_valid (description_at s.catalogue k) words) u)).1.book k))
        (sym (ap (λ o. (refusal_of s told.code_of k (unwrap_or o Done), cond (is_some o) t (effect t (BeginLoad k)))) e))
        (later (refusal_of s told.code_of k r))

-- all are live, so none is missing
none_missing : (book : Book) (needs : List ℕ) → list_all (λ n. is_live (state_of book n)) needs ≡ true → find (λ n. not (is_live (state_of book n))) needs ≡ None
none_missing book [] all = refl
none_missing book (n ∷ ns) all = at (is_live (state_of book n)) all (none_missing book ns)
  where
    at : (b : Bool) → (b && list_all (λ n. is_live (state_of book n)) ns) ≡ true → (list_all (λ n. is_live (state_of book n)) ns ≡ true → find (λ n. not (is_live (state_of book n))) ns ≡ None) → cond (not b) (Some n) (find (λ n. not (is_live (state_of book n))) ns) ≡ None
    at true h later = later h
    at false h later = absurd (cc)

-- nothing stands in the way of a load
nothing_refuses : (s : Setup) (k : ℕ) (t : Table) → k < length s.catalogue → is_absent (state_of t.book k) ≡ true → has_unknown_symbol s.catalogue k ≡ false → list_all (λ n. is_live (state_of t.book n)) (needs_of s.catalogue k) ≡ true → refusal (modules_of s.catalogue) t (BeginLoad k) ≡ None
nothing_refuses s k t within absent known live =
    let m : Module = module_at (modules_of s.catalogue) k in
    let is : m ≡ module_of s.catalogue k = module_at-modules_of s.catalogue k within in
    ap (λ b. or_else (refuse (not b) Exists (refuse m.unknown_symbol UnknownSymbol (missing_need (find (λ n. not (is_live (state_of t.book n))) m.needs)))) None) absent
    ∙ ap (λ (x : Module). or_else (refuse x.unknown_symbol UnknownSymbol (missing_need (find (λ n. not (is_live (state_of t.book n))) x.needs))) None) is
    ∙ ap (λ b. or_else (refuse b UnknownSymbol (missing_need (find (λ n. not (is_live (state_of t.book n))) (needs_of s.catalogue k)))) None) known
    ∙ ap (λ o. or_else (missing_need o) None) (none_missing t.book (needs_of s.catalogue k) live)

-- such a load of an absent module makes it live
pub load_live : (s : Setup) (k : ℕ) (words : List (List ℕ)) (t : Table) → k < length s.catalogue → k < length t.book.states → is_absent (state_of t.book k) ≡ true → has_unknown_symbol s.catalogue k ≡ false → list_all (λ n. is_live (state_of t.book n)) (needs_of s.catalogue k) ≡ true → are_valid (description_at s.catalogue k) words ≡ true → is_live (state_of (one_load s k words t).1.book k) ≡ true
load_live s k words t within room absent known live valid =
    ap (λ (c : Change). is_live (state_of c.1.book k)) (begun_load s k words t (nothing_refuses s k t within absent known live) ∙ ap (λ b. end_of_load s k b (effect t (BeginLoad k))) valid)
    ∙ ap is_live (ended_live s k (effect t (BeginLoad k)) (begun_long k t room) (begun_state k t room))
