-- What processes were asked.
use Rattle.std.proofs.Common.{◌≡◌, sym, ap, ◌∙◌, ℕ, ◌+◌, ◌<◌, List, [], ◌∷◌, ◌++◌, length, take, map, Vec, get_or, take-suc, add-one, append_assoc}
use Rattle.std.proofs.lemmas.List.{map-append}
use Rattle.std.specs.declared.alloc.Global.{Global}
use Rattle.tenures.specs.declared.step.Step.{Step}
use Rattle.tenures.specs.Tenures.{Tenure, asked_of}
use Rattle.tenures.specs.Steps.{groups_of}

abbrev pub groups_in : Vec Step Global → List (List (List ℕ))
groups_in steps = groups_of steps.items

one_more_process : (processes : List (Vec Step Global)) (i : ℕ) (item : Vec Step Global) → i < length processes → item ≡ get_or processes i item
    → map groups_in (take (i + 1) processes) ≡ map groups_in (take i processes) ++ groups_in item ∷ []
one_more_process processes i item within is =
    ap (λ (n : ℕ). map groups_in (take n processes)) (add-one i)
    ∙ ap (map groups_in) (take-suc processes i item within ∙ ap (λ (v : Vec Step Global). take i processes ++ v ∷ []) (sym is))
    ∙ map-append groups_in (take i processes) (item ∷ [])

-- one process more was asked its steps
pub asked_more : (first old more : List Tenure) (tenure : Tenure) (processes : List (Vec Step Global)) (i : ℕ) (item : Vec Step Global) (steps : List Step)
    → i < length processes → item ≡ get_or processes i item → steps ≡ item.items → more ≡ old ++ tenure ∷ [] → tenure.asked ≡ groups_of steps
    → asked_of old ≡ asked_of first ++ map groups_in (take i processes) → asked_of more ≡ asked_of first ++ map groups_in (take (i + 1) processes)
asked_more first old more tenure processes i item steps within is same grows asks so_far =
    ap asked_of grows ∙ map-append (λ (t : Tenure). t.asked) old (tenure ∷ [])
    ∙ ap (λ (xs : List (List (List (List ℕ)))). xs ++ tenure.asked ∷ []) so_far
    ∙ append_assoc (asked_of first) (map groups_in (take i processes)) (tenure.asked ∷ [])
    ∙ ap (λ (xs : List (List (List (List ℕ)))). asked_of first ++ xs)
    (ap (λ (x : List (List (List ℕ))). map groups_in (take i processes) ++ x ∷ []) (asks ∙ ap groups_of same) ∙ sym (one_more_process processes i item within is))
