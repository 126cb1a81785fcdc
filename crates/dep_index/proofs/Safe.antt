-- A legal history is safe.
use Rattle.std.proofs.Common.{◌≡◌, ℕ, ◌<◌, List, [], ◌∷◌, ◌++◌, length, get_or-set_same, sym, ap, ◌∙◌, subst, arith}
use Rattle.std.proofs.lemmas.List.{map-append}
use Rattle.dep_index.specs.declared.table.states.ModuleState.TheVariants.{Absent, Live}
use Rattle.dep_index.specs.declared.table.calls.Call.{Call}
use Rattle.dep_index.specs.declared.table.calls.Call.TheVariants.{Get, CancelRemove}
use Rattle.dep_index.specs.declared.table.calls.Reply.{Reply}
use Rattle.dep_index.specs.declared.table.calls.Reply.TheVariants.{Done, NotLive}
use Rattle.dep_index.specs.Table.{Module, Table, state_of, pairs, users}
use Rattle.dep_index.specs.Calls.{reply, next, effect, after, opening, replies, slot_of, IsInRange}
use Rattle.dep_index.specs.Laws.{IsShaped, AllInRange, IsRemoval, IsShutting, NoRevival}
use Rattle.dep_index.specs.History.{Answer, IsLegal, table_after, calls_in, replies_in, NoneRevives, LegalIsSafe}
use Rattle.dep_index.proofs.RunLaws.{opening_shaped, removes_unused, stays_shut}
use Rattle.dep_index.proofs.Replies.{after_append, after_shaped}
use Rattle.dep_index.proofs.Cancelling.{begins}

in_range_before : (catalogue : List Module) (workers : ℕ) (before later : List Answer)
    → AllInRange catalogue workers (calls_in (before ++ later)) → AllInRange catalogue workers (calls_in before)
in_range_before catalogue workers [] later range = tt
in_range_before catalogue workers (a ∷ before) later range = (range.0, in_range_before catalogue workers before later range.1)

first : (x y : Reply) (xs ys : List Reply) → x ∷ xs ≡ y ∷ ys → x ≡ y
first x y xs ys e = cc

others : (x y : Reply) (xs ys : List Reply) → x ∷ xs ≡ y ∷ ys → xs ≡ ys
others x y xs ys e = cc

-- an answer and the later ones replay from the table after the earlier ones
pub record ReplaysAt (catalogue : List Module) (t : Table) (before : List Answer) (a : Answer) (later : List Answer) : Type 0 where
  pub here : a.reply ≡ reply catalogue (after catalogue t (calls_in before)) a.call
  pub afterwards : replies catalogue (next catalogue (after catalogue t (calls_in before)) a.call) (calls_in later) ≡ replies_in later

at_place : (catalogue : List Module) (t : Table) (before : List Answer) (a : Answer) (later : List Answer)
    → replies catalogue t (calls_in (before ++ a ∷ later)) ≡ replies_in (before ++ a ∷ later)
    → ReplaysAt catalogue t before a later
at_place catalogue t [] a later e =
    record { here = sym (first _ _ _ _ e); afterwards = others _ _ _ _ e }
at_place catalogue t (b ∷ before) a later e =
    let inner : ReplaysAt catalogue (next catalogue t b.call) before a later =
    at_place catalogue (next catalogue t b.call) before a later (others _ _ _ _ e) in
    record { here = inner.here; afterwards = inner.afterwards }

no_revival : (catalogue : List Module) (t : Table) (m : ℕ) (between : List Answer) (a : Answer) (rest : List Answer)
    → replies catalogue t (calls_in (between ++ a ∷ rest)) ≡ replies_in (between ++ a ∷ rest) → NoneRevives m between
    → NoRevival catalogue m t (calls_in between)
no_revival catalogue t m [] a rest e quiet = tt
no_revival catalogue t m (b ∷ between) a rest e quiet = (
  (λ is done. quiet.0 is (sym (first _ _ _ _ e) ∙ done)),
  no_revival catalogue (next catalogue t b.call) m between a rest (others _ _ _ _ e) quiet.1,
)

split_replay : (catalogue : List Module) (workers : ℕ) (history before later : List Answer) (a : Answer)
    → IsLegal catalogue workers history → history ≡ before ++ a ∷ later
    → ReplaysAt catalogue (opening catalogue workers) before a later
split_replay catalogue workers history before later a legal is =
    at_place catalogue (opening catalogue workers) before a later
    (subst (λ (h : List Answer). replies catalogue (opening catalogue workers) (calls_in h) ≡ replies_in h) is legal.replay)

safe_unused : (catalogue : List Module) (workers : ℕ) (history : List Answer) → IsLegal catalogue workers history
    → (before later : List Answer) (removal : Answer) (m : ℕ)
    → history ≡ before ++ removal ∷ later → IsRemoval m removal.call → removal.reply ≡ Done
    → (pairs (table_after catalogue workers before).rows m ≡ 0)
    × (users catalogue (table_after catalogue workers before).book m ≡ [])
safe_unused catalogue workers history legal before later removal m is kind done =
    let range : AllInRange catalogue workers (calls_in (before ++ removal ∷ later)) =
    subst (λ (h : List Answer). AllInRange catalogue workers (calls_in h)) is legal.range in
    let at : ReplaysAt catalogue (opening catalogue workers) before removal later =
    split_replay catalogue workers history before later removal legal is in
    removes_unused catalogue workers (calls_in before) m removal.call
    (in_range_before catalogue workers before (removal ∷ later) range) kind (sym at.here ∙ done)

safe_shut : (catalogue : List Module) (workers : ℕ) (history : List Answer) → IsLegal catalogue workers history
    → (before later between rest : List Answer) (shutting get : Answer) (m w : ℕ)
    → history ≡ before ++ shutting ∷ later → IsShutting m shutting.call → shutting.reply ≡ Done
    → later ≡ between ++ get ∷ rest → NoneRevives m between → get.call ≡ Get w m
    → get.reply ≡ NotLive
safe_shut catalogue workers history legal before later between rest shutting get m w is kind done split quiet gets =
    let table = table_after catalogue workers before in
    let then = next catalogue table shutting.call in
    let at : ReplaysAt catalogue (opening catalogue workers) before shutting later =
    split_replay catalogue workers history before later shutting legal is in
    let more : replies catalogue then (calls_in (between ++ get ∷ rest)) ≡ replies_in (between ++ get ∷ rest) =
    subst (λ (h : List Answer). replies catalogue then (calls_in h) ≡ replies_in h) split at.afterwards in
    let place : ReplaysAt catalogue then between get rest = at_place catalogue then between get rest more in
    place.here ∙ ap (λ (c : Call). reply catalogue (after catalogue then (calls_in between)) c) gets
    ∙ stays_shut catalogue table m w shutting.call (calls_in between) kind (sym at.here ∙ done)
    (no_revival catalogue then m between get rest more quiet)

in_range_at : (catalogue : List Module) (workers : ℕ) (before : List Answer) (a : Answer) (later : List Answer)
    → AllInRange catalogue workers (calls_in (before ++ a ∷ later)) → IsInRange (length catalogue) workers a.call
in_range_at catalogue workers [] a later range = range.0
in_range_at catalogue workers (b ∷ before) a later range = in_range_at catalogue workers before a later range.1

-- the table after a history and one more answer
after_one : (catalogue : List Module) (workers : ℕ) (before : List Answer) (a : Answer)
    → table_after catalogue workers (before ++ a ∷ []) ≡ next catalogue (table_after catalogue workers before) a.call
after_one catalogue workers before a =
    ap (λ (calls : List Call). after catalogue (opening catalogue workers) calls) (map-append (λ (b : Answer). b.call) before (a ∷ []))
    ∙ after_append catalogue (opening catalogue workers) (calls_in before) (a.call ∷ [])

safe_called_off : (catalogue : List Module) (workers : ℕ) (history : List Answer) → IsLegal catalogue workers history
    → (before later : List Answer) (cancel : Answer) (m : ℕ)
    → history ≡ before ++ cancel ∷ later → cancel.call ≡ CancelRemove m → cancel.reply ≡ Done
    → (state_of (table_after catalogue workers (before ++ cancel ∷ [])).book m ≡ Live)
    × ((table_after catalogue workers (before ++ cancel ∷ [])).rows ≡ (table_after catalogue workers before).rows)
safe_called_off catalogue workers history legal before later cancel m is call done =
    let table : Table = table_after catalogue workers before in
    let at : ReplaysAt catalogue (opening catalogue workers) before cancel later = split_replay catalogue workers history before later cancel legal is in
    let range : IsInRange (length catalogue) workers cancel.call =
    in_range_at catalogue workers before cancel later (subst (λ (h : List Answer). AllInRange catalogue workers (calls_in h)) is legal.range) in
    let inside : m < length catalogue = subst (λ (c : Call). slot_of c < length catalogue) call range.0 in
    let shape : IsShaped (length catalogue) workers table = after_shaped (length catalogue) workers catalogue (opening catalogue workers) (calls_in before) (opening_shaped catalogue workers) in
    let made : table_after catalogue workers (before ++ cancel ∷ []) ≡ effect table (CancelRemove m) =
    after_one catalogue workers before cancel ∙ begins catalogue table cancel.call (sym at.here ∙ done) ∙ ap (λ (c : Call). effect table c) call in (
      ap (λ (t : Table). state_of t.book m) made ∙ get_or-set_same table.book.states m Live Absent (omega (arith, shape.states, inside)),
      ap (λ (t : Table). t.rows) made,
    )

pub legal_is_safe : LegalIsSafe
legal_is_safe catalogue workers history legal =
    record {
      unused = safe_unused catalogue workers history legal;
      shut = safe_shut catalogue workers history legal;
      called_off = safe_called_off catalogue workers history legal;
    }
