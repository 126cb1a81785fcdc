-- Where passes stand among the views.
use Rattle.std.proofs.Common.{◌≡◌, ◌≢◌, ◌⊎◌, ℕ, zero, suc, List, [], ◌∷◌, ◌++◌, length, set, refl, sym, ap, ◌∙◌, inl, inr}
use Rattle.std.proofs.lemmas.Bool.{cases_eq}
use mathlib.Core.Option as core
use mathlib.Core.Option.{some, none, some-ne-none, some-injective}
use lib.ListN.{get_elem?}
use Rattle.atomic_table.proofs.Lists.{set_here, set_else, at_longer}
use Rattle.root_row.proofs.Replay.{at_length}
use Rattle.root_row.proofs.Seating.{at_snoc}
use Rattle.managed_table.specs.declared.view.Pass.{Pass}
use Rattle.managed_table.specs.declared.view.Passes.{Passes}
use Rattle.managed_table.specs.Locks.{Place, pass_in, pass_at}
use Rattle.managed_table.specs.Turns.{alone}

pub same_place : (z y : Place) → (z ≡ y) ⊎ (z ≢ y)
same_place z y = elim (cases_eq z.0 y.0) [
  | inl seat ↦ (elim (cases_eq z.1 y.1) [
    | inl place ↦ inl (λ i. (seat i, place i))
    | inr away ↦ inr (λ q. away (ap (λ (x : Place). x.1) q))
  ])
  | inr away ↦ inr (λ q. away (ap (λ (x : Place). x.0) q))
]

-- a view of one pass has it at its first place
pub at_alone : (p u : Pass) (k : ℕ) → get_elem? (alone p).passes k ≡ some u → (k ≡ 0) × (p ≡ u)
at_alone p u zero e = (refl, some-injective p u e)
at_alone p u (suc k) e = absurd (some-ne-none u (sym e))

-- the view in which a pass stands
pub view_of : (o : core.Option Passes) (k : ℕ) (u : Pass) → pass_in o k ≡ some u → (v : Passes) × (o ≡ some v) × (get_elem? v.passes k ≡ some u)
view_of none k u e = absurd (some-ne-none u (sym e))
view_of (some v) k u e = (v, refl, e)

pub place_here : (views : List Passes) (id : ℕ) (p p' : Pass) → get_elem? views id ≡ some (alone p) → pass_at (set views id (alone p')) (id, 0) ≡ some p'
place_here views id p p' at = ap (λ o. pass_in o 0) (set_here views id (alone p') (at_length views id (alone p) at))

pub place_else : (views : List Passes) (id : ℕ) (p p' : Pass) (z : Place) (u : Pass) → get_elem? views id ≡ some (alone p) → z ≢ (id, 0) → pass_at views z ≡ some u → pass_at (set views id (alone p')) z ≡ some u
place_else views id p p' z u at away there = elim (cases_eq z.0 id) [
  | inl same ↦ absurd (away (λ i. (same i, (at_alone p u z.1 (sym (ap (λ o. pass_in o z.1) (ap (λ i. get_elem? views i) same ∙ at)) ∙ there)).0 i)))
  | inr apart ↦ ap (λ o. pass_in o z.1) (set_else views id z.0 (alone p') apart) ∙ there
]

pub place_set : (views : List Passes) (id : ℕ) (p p' : Pass) (z : Place) (u : Pass) → get_elem? views id ≡ some (alone p) → pass_at (set views id (alone p')) z ≡ some u
    → ((z ≡ (id, 0)) × (p' ≡ u)) ⊎ ((z ≢ (id, 0)) × (pass_at views z ≡ some u))
place_set views id p p' z u at there = elim (cases_eq z.0 id) [
  | inl same ↦
      let one = at_alone p' u z.1 (sym (ap (λ o. pass_in o z.1) (ap (λ i. get_elem? (set views id (alone p')) i) same ∙ set_here views id (alone p') (at_length views id (alone p) at))) ∙ there) in
      inl ((λ i. (same i, one.0 i)), one.1)
  | inr apart ↦ inr ((λ q. apart (ap (λ (x : Place). x.0) q)), sym (ap (λ o. pass_in o z.1) (set_else views id z.0 (alone p') apart)) ∙ there)
]

pub place_longer : (views more : List Passes) (z : Place) (u : Pass) → pass_at views z ≡ some u → pass_at (views ++ more) z ≡ some u
place_longer views more z u there = let v = view_of (get_elem? views z.0) z.1 u there in ap (λ o. pass_in o z.1) (at_longer views more z.0 v.0 v.1) ∙ v.2

pub place_new : (views : List Passes) (p : Pass) (z : Place) (u : Pass) → pass_at (views ++ alone p ∷ []) z ≡ some u → (pass_at views z ≡ some u) ⊎ ((z ≡ (length views, 0)) × (p ≡ u))
place_new views p z u there = let v = view_of (get_elem? (views ++ alone p ∷ []) z.0) z.1 u there in elim (at_snoc views (alone p) v.0 z.0 v.1) [
  | inl before ↦ inl (ap (λ o. pass_in o z.1) before ∙ v.2)
  | inr last ↦
      let one = at_alone p u z.1 (ap (λ (y : Passes). get_elem? y.passes z.1) last.1 ∙ v.2) in
      inr ((λ i. (last.0 i, one.0 i)), one.1)
]
