-- A reader's load.
use Rattle.std.proofs.Common.{◌≡◌, ℕ, ◌<◌, cond, List, [], ◌∷◌, get_or, refl, sym, subst}
use mathlib.Core.Option.{none}
use Rattle.atomic_table.specs.Table.{Me, Step, keeps, step, Allows}
use Rattle.dep_index.specs.declared.table.calls.Call.TheVariants as call_is
use Rattle.dep_index.specs.declared.table.calls.Reply.TheVariants.{Yes, No}
use Rattle.dep_index.specs.Table.{Table}
use Rattle.dep_index.specs.Calls.{next}
use Rattle.dep_index.specs.Words.{query_look, shows_holders, IsRightStep}
use Rattle.dep_index.proofs.Replies.{query_keeps}
use Rattle.root_row.specs.declared.view.World.{World}
use Rattle.root_row.specs.declared.view.Part.TheVariants as part_is
use Rattle.root_row.specs.declared.view.Member.{Member}
use Rattle.root_row.specs.declared.view.View.{View}
use Rattle.root_row.specs.World.{slots, place_of}
use Rattle.root_row.specs.History.{table_after}
use Rattle.root_row.specs.Views.{Part, member, seen_in, part_in, reader_in, reader_of, IsReader}
use Rattle.root_row.specs.Rule.{Agrees, RowRule}
use Rattle.root_row.specs.Steps.{AtSlot, SeatState, LookedRead}
use Rattle.root_row.proofs.Moves as move

-- what a reader's load tells
abbrev pub read : Step (Unit {0}) → SeatState → ℕ → SeatState → Type 0
read = AtSlot (λ _ m v found w. LookedRead m v found w)

module _ (world : World) (slots' id : ℕ) (me : Me (Unit {0}) View) (is : IsReader me.0) (m : ℕ) (inside : m < slots world) where
  pub reads : Allows (RowRule world) slots' id me (place_of m) (λ n. n) (read (step slots' (place_of m) 0 0 none) me)
  reads s kept _ at small =
      let T = table_after world kept.history in
      let x : Part = part_is.Reader (reader_of me.0) in
      let n = get_or s.words (place_of m) 0 in
      let right : IsRightStep world.catalogue T (call_is.InUse m) (query_look n) = subst (λ k. IsRightStep world.catalogue T (call_is.InUse m) (query_look k)) (sym (kept.words m inside)) (move.right world s kept (call_is.InUse m) (inside, tt)) in
      let turns : move.Turns T (next world.catalogue T (call_is.InUse m)) x x m n = record {
        same = refl;
        agrees = tt;
        others = λ y _ old. subst (λ (t : Table). Agrees t y) (sym (query_keeps world.catalogue T m)) old;
        here = right.1;
        elsewhere = move.others_stay world s kept (call_is.InUse m) (inside, tt);
      } in (
        move.next_view world s kept id me.0 at x x is (call_is.InUse m) m n inside (inside, tt) refl turns,
        keeps,
        tt,
        move.point world s kept id me.0 at x x is (call_is.InUse m) m n inside (inside, tt) refl turns me.1,
        (
          refl,
          λ j e. subst (λ i. LookedRead i me.0 n (move.next_view world s kept id me.0 at x x is (call_is.InUse m) m n inside (inside, tt) refl turns)) (move.same_slot m j e) (
            move.answered world s kept id me.0 at x x is (call_is.InUse m) m n inside (inside, tt) refl turns (cond (shows_holders n) Yes No) (sym right.0),
            move.word_is world s kept id me.0 at x x is (call_is.InUse m) m n inside (inside, tt) refl turns,
          ),
        ),
      )

pub read_reader : (m found : ℕ) (v w : View) → LookedRead m v found w → IsReader w
read_reader m found v w t = let P : List Member → Type 0 = λ ps. ps ≡ member (part_is.Reader (reader_in (part_in ps))) (seen_in ps) ∷ [] in subst P (sym t.0.members) refl
