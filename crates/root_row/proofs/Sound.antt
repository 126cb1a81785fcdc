-- What a seat knows is sound, after each step.
use Rattle.std.proofs.Common.{◌≡◌, ℕ, zero, suc, Bool, true, false, List, [], ◌∷◌, Option, Some, None, MatchOption, MatchBool, refl, sym, ap, ◌∙◌, subst}
use mathlib.Core.Option.{some, some-injective}
use lib.ListN.{get_elem?}
use Rattle.dep_index.specs.declared.table.calls.Call.{Call}
use Rattle.dep_index.specs.declared.table.calls.Reply.{Reply}
use Rattle.dep_index.specs.declared.table.calls.Reply.TheVariants.{Done}
use Rattle.dep_index.specs.declared.words.Outcome.{Outcome}
use Rattle.dep_index.specs.declared.words.Outcome.TheVariants.{Effect, GoesOn}
use Rattle.dep_index.specs.Laws.{OrderIsExact}
use Rattle.dep_index.specs.History.{LegalIsSafe}
use Rattle.dep_index.specs.Words.{MatchOutcome}
use Rattle.root_row.specs.declared.calls.LeafCall.{LeafCall}
use Rattle.root_row.specs.declared.calls.LeafCall.TheVariants as leaf_is
use Rattle.root_row.specs.declared.calls.BookCall.{BookCall}
use Rattle.root_row.specs.declared.view.World.{World}
use Rattle.root_row.specs.declared.view.Part.TheVariants as part_is
use Rattle.root_row.specs.declared.view.Member.{Member}
use Rattle.root_row.specs.declared.view.View.{View}
use Rattle.root_row.specs.World.{opened}
use Rattle.root_row.specs.History.{SeatName, answers_in, table_after}
use Rattle.root_row.specs.Views.{Part, member, seen_of, part_in, IsOne, IsBook, book_of, worker_of, counts_of, count_of}
use Rattle.root_row.specs.Rule.{Agrees}
use Rattle.root_row.specs.Seats.{IsSoundMember, IsSound, KnowsTable}
use Rattle.root_row.specs.Steps.{Answered, word_after, leaf_look, LeafAnswered, Looked, TriedArrive}
use Rattle.root_row.specs.BookSteps.{book_look, BookAnswered, LookedBook}
use Rattle.root_row.specs.Seating.{first_member, other_members, Paired}
use Rattle.root_row.specs.Setting.{new_view}
use Rattle.root_row.proofs.Replay.{legal_none, callers_none, lawful_after}
use Rattle.root_row.proofs.Moves.{at_single}
use Rattle.root_row.proofs.Seating.{at_first, at_rest}

-- a view of one member
one_sound : (v : View) (y : Member) → v.members ≡ y ∷ [] → IsSoundMember v.world y → IsSound v
one_sound v y single sound k x at =
    let only = at_single y x k (ap (λ (l : List Member). get_elem? l k) (sym single) ∙ at) in
    subst (IsSoundMember v.world) only.1 sound

pub answered_sound : (v w : View) (by : SeatName) (call : Call) (answer : Reply) (x : Part) → Answered v by call answer x w → IsSound w
answered_sound v w by call answer x t = one_sound w (member x (seen_of w)) t.members (record { legal = t.legal; callers = t.callers; agrees = t.agrees })

pub looked_sound : (kind : LeafCall) (m found : ℕ) (v w : View) → IsSound v → Looked kind m v found w → IsSound w
looked_sound kind m found v w sound told = by_case (leaf_look kind (count_of v m) found) told
  where
    by_case : (o : Outcome) → MatchOutcome o (λ r. LeafAnswered v m kind r w × (found ≡ word_after w m)) (λ _. w ≡ v) → IsSound w
    by_case (Effect r) t = answered_sound v w _ _ _ _ t.0
    by_case (GoesOn word) t = subst IsSound (sym t) sound

pub arrived_sound : (m : ℕ) (made : Bool) (v w : View) → IsSound v → TriedArrive m v made w → IsSound w
arrived_sound m made v w sound told = by_case made told
  where
    by_case : (b : Bool) → MatchBool b (LeafAnswered v m leaf_is.Get Done w) (w ≡ v) → IsSound w
    by_case true t = answered_sound v w _ _ _ _ t
    by_case false t = subst IsSound (sym t) sound

pub looked_book_sound : (kind : BookCall) (m found : ℕ) (v w : View) → IsSound v → LookedBook kind m v found w → IsSound w
looked_book_sound kind m found v w sound told = by_case (book_look v.world (book_of v) kind m) told
  where
    by_case : (o : Option Reply) → MatchOption o (w ≡ v) (λ r. BookAnswered v m kind r w × (found ≡ word_after w m)) → IsSound w
    by_case (Some r) t = answered_sound v w _ _ _ _ t.0
    by_case None t = subst IsSound (sym t) sound

-- the world of a view stays
pub looked_world : (kind : LeafCall) (m found : ℕ) (v w : View) → Looked kind m v found w → w.world ≡ v.world
looked_world kind m found v w told = by_case (leaf_look kind (count_of v m) found) told
  where
    by_case : (o : Outcome) → MatchOutcome o (λ r. LeafAnswered v m kind r w × (found ≡ word_after w m)) (λ _. w ≡ v) → w.world ≡ v.world
    by_case (Effect r) t = t.0.same_world
    by_case (GoesOn word) t = ap (λ (z : View). z.world) t

pub arrived_world : (m : ℕ) (made : Bool) (v w : View) → TriedArrive m v made w → w.world ≡ v.world
arrived_world m true v w t = t.same_world
arrived_world m false v w t = ap (λ (z : View). z.world) t

-- a pair, and its two leaves
pub paired_sound : (v w u : View) → Paired v w u → IsSound u
paired_sound v w u p = by_place
  where
    first : IsSoundMember u.world (member (part_is.Leaf (worker_of v) (counts_of v)) p.0)
    first = record { legal = p.2.legal; callers = p.2.callers; agrees = p.2.agrees_a }

    second : IsSoundMember u.world (member (part_is.Leaf (worker_of w) (counts_of w)) p.0)
    second = record { legal = p.2.legal; callers = p.2.callers; agrees = p.2.agrees_b }

    by_list : (k : ℕ) (x : Member) → get_elem? (member (part_is.Leaf (worker_of v) (counts_of v)) p.0 ∷ member (part_is.Leaf (worker_of w) (counts_of w)) p.0 ∷ []) k ≡ some x → IsSoundMember u.world x
    by_list zero x at = subst (IsSoundMember u.world) (some-injective _ x at) first
    by_list (suc k) x at = subst (IsSoundMember u.world) (at_single (member (part_is.Leaf (worker_of w) (counts_of w)) p.0) x k at).1 second

    by_place : IsSound u
    by_place k x at = by_list k x (ap (λ (l : List Member). get_elem? l k) (sym p.1) ∙ at)

pub first_sound : (v : View) → IsSound v → IsSound (first_member v)
first_sound v sound k x at = sound 0 x (at_first v.members k x at).1

pub others_sound : (v : View) → IsSound v → IsSound (other_members v)
others_sound v sound k x at = sound (suc k) x (at_rest v.members k x at)

-- a new seat of a part that is the opening table's
pub new_sound : (world : World) (x : Part) → Agrees (opened world) x → IsSound (new_view world (x ∷ []))
new_sound world x is = one_sound (new_view world (x ∷ [])) (member x []) refl (record { legal = legal_none world; callers = callers_none; agrees = is })

-- what the member of a seat of one member has seen
pub knows : LegalIsSafe → (v : View) (x : Part) → IsOne v x → IsSound v → KnowsTable v
knows legal_is_safe v x single sound =
    let s = sound 0 (member x (seen_of v)) (ap (λ (l : List Member). get_elem? l 0) single) in record {
      legal = s.legal;
      safe = legal_is_safe v.world.catalogue v.world.workers (answers_in (seen_of v)) s.legal;
      callers = s.callers;
      agrees = subst (Agrees (table_after v.world (seen_of v))) (sym (ap part_in single)) s.agrees;
    }

-- the order of the book's seat is exact
pub exact_book : (v : View) → IsBook v → IsSound v → OrderIsExact (book_of v)
exact_book v single sound =
    let s = sound 0 (member (part_is.Book (book_of v)) (seen_of v)) (ap (λ (l : List Member). get_elem? l 0) single) in
    subst OrderIsExact s.agrees (lawful_after v.world (seen_of v) s.legal).order
