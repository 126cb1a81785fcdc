-- The steps of a plan by marks are those of its definition.
use Rattle.std.proofs.Common.{◌≡◌, ℕ, ◌<◌, arith, Bool, true, false, not, List, [], ◌∷◌, length, get_or, refl, sym, ◌∙◌, ap}
use Rattle.std.specs.List.{All}
use Rattle.std.proofs.lemmas.List.Elements.{All-head, All-tail}
use Rattle.load_plan.specs.declared.walk.Mark.{Mark}
use Rattle.load_plan.specs.declared.walk.Mark.TheVariants.{New}
use Rattle.load_plan.specs.Walk.{has}
use Rattle.load_plan.specs.Plan.{marked}
use Rattle.load_plan.specs.ForProofs.{AreMarks, mark_of, is_done_mark, steps_of}
use Rattle.load_plan.proofs.Clean.{mark_with}

done-mark : (a : Bool) → is_done_mark (mark_of a false) ≡ a
done-mark true = refl
done-mark false = refl

pub steps_marked : (n : ℕ) (marks : List Mark) (reached ms : List ℕ) → length marks ≡ n → AreMarks n marks [] reached → All (λ m. m < n) ms → steps_of marks ms ≡ marked reached ms
steps_marked n marks reached [] long are all = refl
steps_marked n marks reached (m ∷ ms) long are all =
    let within : m < n = All-head (λ q. q < n) m ms all in
    let mark : get_or marks m New ≡ mark_of (has reached m) false = sym (mark_with marks m New (omega arith)) ∙ are m within in
    let soft : not (is_done_mark (get_or marks m New)) ≡ not (has reached m) = ap (λ x. not (is_done_mark x)) mark ∙ ap not (done-mark (has reached m)) in
    ap (λ b. record { slot = m; soft = b } ∷ steps_of marks ms) soft
    ∙ ap (λ l. record { slot = m; soft = not (has reached m) } ∷ l) (steps_marked n marks reached ms long are (All-tail (λ q. q < n) m ms all))
