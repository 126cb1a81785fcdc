use Rattle.std.proofs.Common.{◌≡◌, ℕ, ◌<◌, List, ◌++◌, ◌∷◌, [], length, arith, sym, ap, subst, ◌∙◌}
use Rattle.std.specs.List.{All}
use Rattle.dep_index.specs.Table.{Module, Table}
use Rattle.dep_index.specs.Calls.{next}
use Rattle.held_lines.specs.Holds.{gets}
use Rattle.dep_index.specs.declared.table.calls.Call.TheVariants.{Put}
use Rattle.held_lines.proofs.SlotLemmas.{modules_of_length}
use Rattle.held_lines.proofs.UndoLemmas.{all_front, all_last, undo_step, put_long}
use Rattle.held_lines.proofs.gets.put_back.Goals as goal

pub put-requires-clause-slot : goal.put-requires-clause-slot
put-requires-clause-slot g c =
    let modules = c.args.setup.now.catalogue in
    let P : ℕ → Type 0 = λ m. m < length modules in
    let before = c.loop-slot.invariant in
    let cut : c.loop-slot.left.now ≡ c.in-Some.earlier.now ++ c.in-Some.slot.now ∷ [] = c.in-Some.ensures.cases.0 in
    let below : c.in-Some.slot.now < length modules = all_last P c.in-Some.earlier.now c.in-Some.slot.now (subst (λ (l : List ℕ). All P l) cut before.within) in
    let same = ap length before.over ∙ ap length c.requires.over ∙ modules_of_length modules in
    omega (arith, below, same)

pub loop-slot-preserved : goal.loop-slot-preserved
loop-slot-preserved g c =
    let s = c.args.setup.now in
    let modules = s.catalogue in
    let P : ℕ → Type 0 = λ m. m < length modules in
    let number = c.args.number in
    let slot = c.in-Some.slot.now in
    let earlier = c.in-Some.earlier.now in
    let before = c.loop-slot.invariant in
    let t = g.M.Modules.table c.loop-slot.table in
    let start = c.args.table.now in
    let catalogue = g.M.Modules.catalogue c.loop-slot.table in
    let cut : c.loop-slot.left.now ≡ earlier ++ slot ∷ [] = c.in-Some.ensures.cases.0 in
    let within : All P (earlier ++ slot ∷ []) = subst (λ (l : List ℕ). All P l) cut before.within in
    let below : slot < length modules = all_last P earlier slot within in
    let long = ap length c.requires.over ∙ modules_of_length modules in
    let is = c.put.ensures.becomes ∙ ap (λ (ms : List Module). next ms t (Put number slot)) (before.over ∙ c.requires.over) in
    record {
      over = c.put.ensures.over ∙ before.over;
      named = c.put.ensures.named ∙ before.named;
      workers = ap (λ (u : Table). length u.rows) c.put.ensures.becomes ∙ put_long catalogue t number slot ∙ before.workers;
      within = all_front P earlier (slot ∷ []) within;
      left = λ u shape e.
          undo_step (length (g.M.Modules.catalogue start)) (length (g.M.Modules.table start).rows) s number slot earlier u t _ shape c.requires.number (omega (arith, below, long))
          (ap (λ (l : List ℕ). gets s number l u) (sym cut) ∙ before.left u shape e) is;
    }
