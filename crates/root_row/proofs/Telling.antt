-- Two seats of one member hear of each other.
use Rattle.std.proofs.Common.{◌≡◌, ℕ, List, [], ◌∷◌, ◌++◌, set, get_or, refl, sym, ap, ◌∙◌, subst}
use mathlib.Core.Option.{some, none}
use lib.ListN.{get_elem?}
use Rattle.atomic_table.specs.Table.{Me, keeps, step, homes_after, Allows}
use Rattle.atomic_table.proofs.Lists.{at_map}
use Rattle.dep_index.specs.History.{IsLegal}
use Rattle.root_row.specs.declared.view.World.{World}
use Rattle.root_row.specs.declared.view.Member.{Member}
use Rattle.root_row.specs.declared.view.SeatAnswer.{SeatAnswer}
use Rattle.root_row.specs.declared.view.View.{View}
use Rattle.root_row.specs.declared.view.AtomicStep.TheVariants.{LoadSpare}
use Rattle.root_row.specs.History.{answers_in, table_after}
use Rattle.root_row.specs.declared.view.Part.TheVariants as part_is
use Rattle.root_row.specs.Views.{Part, member, seen_of, part_of, worker_of, counts_of, IsOne, IsLeaf}
use Rattle.root_row.specs.Rule.{Agrees, RowRule}
use Rattle.root_row.specs.Seating.{first_of, rest_of, first_member, other_members, joined, Paired}
use Rattle.root_row.specs.Trails.{trail, view_in, shown, shown_seat, TrailRule, TrailState}
use Rattle.root_row.specs.Hearing.{HasHeard, HeardBoth, ToldTwo, told_two, told_two_trail}
use Rattle.root_row.proofs.Seating.{caught_up, now, hears, pair_of}
use Rattle.root_row.proofs.Trails.{views_set}
use Rattle.root_row.proofs.Moves as move

module _ (world : World) (s : move.St) (kept : RowRule world s) (id : ℕ) (v : View) (at : get_elem? s.views id ≡ some v) where
  heard : (k : ℕ) (x : Part) (a : List SeatAnswer) → get_elem? v.members k ≡ some (member x a) → HasHeard v.world x a kept.history
  heard k x a there = let fit = kept.seats id v at k (member x a) there in record {
    begins = fit.begins;
    legal = subst (λ (d : World). IsLegal d.catalogue d.workers (answers_in kept.history)) (sym fit.same_world) kept.legal;
    callers = kept.callers;
    own = fit.own;
    agrees = subst (λ (d : World). Agrees (table_after d kept.history) x) (sym fit.same_world) fit.agrees;
  }

  two_told : ToldTwo v (now world s kept id v at)
  two_told x y a b two = record {
    seen = kept.history;
    members = ap (caught_up kept.history) two;
    world = refl;
    one = heard 0 x a (ap (λ (l : List Member). get_elem? l 0) two);
    other = heard 1 y b (ap (λ (l : List Member). get_elem? l 1) two);
  }

tells : (world : World) (slots' id : ℕ) (me : Me (Unit {0}) View) → Allows (RowRule world) slots' id me 0 (λ n. n) (told_two (step slots' 0 0 0 none) me)
tells world slots' id me s kept _ at _ = (now world s kept id me.0 at, keeps, tt, hears world s kept id me.0 at 0 me.1, (refl, two_told world s kept id me.0 at))

-- a load of the spare word, which tells a seat of two members the whole history
pub tells_two : (world : World) (slots' id : ℕ) (me : TrailState) → Allows (TrailRule world) slots' id me 0 (λ n. n) (told_two_trail (step slots' 0 0 0 none) me)
tells_two world slots' id me s kept homes at small =
    let r = tells world slots' id (shown_seat me) (shown s) kept homes (at_map view_in s.views id me.0 at) small in
    let steps = me.0.steps ++ LoadSpare ∷ [] in (
      trail r.0 steps,
      r.1,
      r.2,
      subst (λ (l : List View). RowRule world (record { words = set s.words 0 (get_or s.words 0 0); homes = homes_after s.homes me.1 r.1; views = l })) (sym (views_set s.views id (trail r.0 steps))) r.3,
      (r.4, refl),
    )

-- what the two seats have heard
pub heard_both : (v w j u : View) → IsOne v (part_of v) → IsOne w (part_of w) → j ≡ joined v w → ToldTwo j u → HeardBoth v w (first_member u) (other_members u)
heard_both v w j u one other is told =
    let two : j.members ≡ member (part_of v) (seen_of v) ∷ member (part_of w) (seen_of w) ∷ [] = ap (λ (z : View). z.members) is ∙ (λ i. one i ++ other i) in
    let t = told (part_of v) (part_of w) (seen_of v) (seen_of w) two in
    let same : j.world ≡ v.world = ap (λ (z : View). z.world) is in record {
      seen = t.seen;
      one = ap first_of t.members;
      other = ap rest_of t.members;
      one_world = t.world ∙ same;
      other_world = t.world ∙ same;
      one_heard = subst (λ (d : World). HasHeard d (part_of v) (seen_of v) t.seen) same t.one;
      other_heard = subst (λ (d : World). HasHeard d (part_of w) (seen_of w) t.seen) same t.other;
    }

-- what two leaves have heard, as a pair
pub paired : (v w j u : View) → j ≡ joined v w → ToldTwo j u → IsLeaf v → IsLeaf w → Paired v w u
paired v w j u is told one two =
    let x : Part = part_is.Leaf (worker_of v) (counts_of v) in
    let y : Part = part_is.Leaf (worker_of w) (counts_of w) in
    let t = told x y (seen_of v) (seen_of w) (ap (λ (z : View). z.members) is ∙ pair_of v w one two) in
    let a = subst (λ (d : World). HasHeard d x (seen_of v) t.seen) (sym t.world) t.one in
    let b = subst (λ (d : World). HasHeard d y (seen_of w) t.seen) (sym t.world) t.other in (
      t.seen,
      t.members,
      record {
        legal = a.legal;
        callers = a.callers;
        begins_a = a.begins;
        begins_b = b.begins;
        own_a = a.own;
        own_b = b.own;
        agrees_a = a.agrees;
        agrees_b = b.agrees;
      },
      t.world ∙ ap (λ (z : View). z.world) is,
    )
