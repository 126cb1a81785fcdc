-- A seat of a row, before and after a step on it.
use Rattle.std.proofs.Common.{◌≡◌, ℕ, ◌<◌, sym, ap, ◌∙◌, subst}
use Rattle.atomic_table.specs.Seated.{TableId}
use Rattle.root_row.specs.declared.view.World.{World}
use Rattle.root_row.specs.World.{slots}
use Rattle.root_row.specs.Seats.{RowIs, Seated, IsOf}

-- the seat steps on the row's table
pub own_table : (r row : RowIs) (s seat : Seated) → r ≡ row → s ≡ seat → IsOf row seat → s.row ≡ r.id
own_table r row s seat r_is s_is own = ap (λ (z : Seated). z.row) s_is ∙ own.0 ∙ sym (ap (λ (z : RowIs). z.id) r_is)

pub own_inside : (r row : RowIs) (slot : ℕ) → r ≡ row → slot < slots row.world → slot < slots r.world
own_inside r row slot r_is inside = subst (λ (w : World). slot < slots w) (sym (ap (λ (z : RowIs). z.world) r_is)) inside

-- it stays a seat of the row
pub own_kept : (row : RowIs) (s seat : Seated) (id : TableId) (world : World) → s ≡ seat → IsOf row seat → id ≡ s.row → world ≡ s.view.world → (id ≡ row.id) × (world ≡ row.world)
own_kept row s seat id world s_is own same_row same_world = (
  same_row ∙ ap (λ (z : Seated). z.row) s_is ∙ own.0,
  same_world ∙ ap (λ (z : Seated). z.view.world) s_is ∙ own.1,
)
