use Rattle.std.proofs.Common.{◌≡◌, ◌-◌, ℕ, List, length, take, drop, ap, sym, ◌∙◌, arith, length-drop}
use Rattle.std.proofs.lemmas.List.{take_all}
use Rattle.std.proofs.lemmas.Bool.Decides.{Decides-eqb}
use Rattle.std.proofs.lemmas.Slice.Eq.{slice_eq-Decides}
use Rattle.file_journal.proofs.belief.Belief.agrees.Goals as goal

whole : (place : ℕ) (file : List ℕ) → take (length file - place) (drop place file) ≡ drop place file
whole place file = take_all (length file - place) (drop place file) (omega (arith, length-drop place file))

pub returns : goal.returns
returns c =
    let place = c.args.place in
    let decides = slice_eq-Decides Decides-eqb _ _ _ c.eq.ensures in
    let is_rest = whole place c.deref.result.now ∙ ap (λ (f : List ℕ). drop place f) c.deref.ensures.value in
    (λ equal. decides.0 equal ∙ is_rest, λ same. decides.1 (same ∙ sym is_rest))
