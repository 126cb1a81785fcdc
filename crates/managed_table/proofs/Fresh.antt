-- New leaves and a new book have seen nothing.
use Rattle.std.proofs.Common.{◌≡◌, ℕ, zero, suc, List, [], ◌∷◌, refl, sym, ap, subst, inl, inr, arith}
use Rattle.root_row.specs.Seats.{RowIs, Seated}
use Rattle.root_row.specs.Made.{AreNew, new_leaf, new_book}
use Rattle.root_row.proofs.Replay.{at_or_past}
use Rattle.managed_table.specs.Locks.{AreFresh}
use Rattle.managed_table.specs.Kept.{seen, shown, leaf_fits, book_fits}

pub fresh_leaves : (row : RowIs) (n : ℕ) (seats : List Seated) → AreNew (new_leaf row.id row.world) n seats → AreFresh leaf_fits shown row seats
fresh_leaves row n seats are lock lt = elim (at_or_past seats lock) [
  | inl at ↦
      let fresh = subst (λ (s : Seated). leaf_fits row lock s × (seen s ≡ [])) (are.1 lock at.0 at.1) (((refl, refl), refl, refl), refl) in
      (at.0, at.1, fresh.0, fresh.1)
  | inr past ↦ absurd (omega arith)
]

pub fresh_book : (row : RowIs) (book : Seated) → book ≡ new_book row.id row.world → AreFresh book_fits shown row (book ∷ [])
fresh_book row book is zero lt = (book, refl, subst (book_fits row 0) (sym is) ((refl, refl), refl), ap seen is)
fresh_book row book is (suc n) lt = absurd (omega arith)
