-- Which modules have no options.
use Rattle.std.proofs.Common.{◌≡◌, ℕ, ◌<◌, Bool, true, false, List, [], length, get_or, set, replicate, inl, inr, sym, ◌∙◌, ap}
use Rattle.std.proofs.lemmas.Bool.Decides.{eqb_tells}
use Rattle.std.proofs.lemmas.List.{get_or-set_same, get_or-set_other}
use Rattle.load_plan.specs.declared.sources.Sources.{Sources}
use Rattle.load_plan.specs.OptionWords.{AreBare}
use Rattle.load_plan.specs.Sources.{options_from}
use Rattle.load_plan.proofs.Reaching.{none_known}

-- of none it is known
pub bare-none : (s : Sources) (n : ℕ) → AreBare s (replicate n false)
bare-none s n m h = (let no : get_or (replicate n false) m false ≡ false = none_known n m in absurd (cc))

-- of one more it is known, or it has some
pub bare-set : (s : Sources) (bare : List Bool) (slot : ℕ) (flag : Bool) → slot < length bare → (flag ≡ true → options_from s slot ≡ []) → AreBare s bare → AreBare s (set bare slot flag)
bare-set s bare slot flag within is before m h = elim (eqb_tells m slot) [
  | inl t ↦ ap (options_from s) t.1 ∙ is (sym (get_or-set_same bare slot flag false within) ∙ ap (λ j. get_or (set bare slot flag) j false) (sym t.1) ∙ h)
  | inr t ↦ before m (sym (get_or-set_other bare slot m flag false t.1) ∙ h)
]
