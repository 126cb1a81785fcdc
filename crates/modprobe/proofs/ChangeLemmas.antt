-- Changes of the table, one after another.
use Rattle.std.proofs.Common.{◌≡◌, ℕ, ◌<◌, ◌+◌, List, ◌∷◌, length, drop, get_or, suc, sym, ap, ◌∙◌, add-one, Some, None}
use Rattle.std.proofs.Math.Seq.{drop-cons}
use Rattle.dep_index.specs.Table.{Table}
use Rattle.load_plan.specs.declared.items.Item.{Item}
use Rattle.modprobe.specs.Setup.{Setup}
use Rattle.modprobe.specs.Refusals.{Refusal}
use Rattle.modprobe.specs.Changes.{Change, ◌then◌}
use Rattle.modprobe.specs.Loads.{item_load, loads}

pub then_some : (c : Change) (f : Table → Change) (r : Refusal) → c.0 ≡ Some r → (c then f) ≡ (Some r, c.1)
then_some (None, t) f r is = absurd (cc)
then_some (Some q, t) f r is = ap (λ o. (o, t)) is

-- An item is refused.
pub loads_stop : (s : Setup) (items : List Item) (i : ℕ) (item : Item) (t : Table) (r : Refusal) → i < length items → item ≡ get_or items i item → (item_load s item t).0 ≡ Some r
    → loads s (drop i items) t ≡ (Some r, (item_load s item t).1)
loads_stop s items i item t r below is refused =
    let split : drop i items ≡ item ∷ drop (i + 1) items = rw (add-one) (drop-cons items i item below ∙ ap (λ x. x ∷ drop (suc i) items) (sym is)) in
    ap (λ l. loads s l t) split ∙ then_some (item_load s item t) (λ v. loads s (drop (i + 1) items) v) r refused
