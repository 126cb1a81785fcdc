-- A table is kept by each call.
use Rattle.std.proofs.Common.{◌≡◌, ℕ, zero, suc, ◌<◌, true, false, leb, List, [], ◌∷◌, length, get_or, ◌≤◌, refl, sym, ap, subst, arith}
use Rattle.std.proofs.Math.ListN.{set, replicate}
use Rattle.std.proofs.lemmas.List.{length-replicate}
use Rattle.std.proofs.lemmas.Bool.{lt-leb}
use Rattle.std.specs.Global.{Vec}
use Rattle.dep_index.specs.declared.table.calls.Call.{Call}
use Rattle.dep_index.specs.declared.table.calls.Call.TheVariants.{Get}
use Rattle.dep_index.specs.Table.{Module, Table, is_live, state_of, count_of}
use Rattle.dep_index.specs.Calls.{next, effect, opening, IsInRange}
use Rattle.dep_index.specs.Laws.{IsShaped, IsLawful}
use Rattle.dep_index.proofs.RunLaws.{next_lawful, next_shaped, opening_lawful, opening_shaped}
use Rattle.seq_table.specs.Over.{IsKept}
use Rattle.seq_table.specs.Rows.{rows_of}

pub get_or-rows_of : (rows : List (Vec ℕ)) (w : ℕ) (d : Vec ℕ) → w < length rows → get_or (rows_of rows) w [] ≡ (get_or rows w d).items
get_or-rows_of [] w d h = absurd (omega arith)
get_or-rows_of (row ∷ rows) zero d h = refl
get_or-rows_of (row ∷ rows) (suc w) d h = get_or-rows_of rows w d (omega arith)

pub rows_of-set : (rows : List (Vec ℕ)) (w : ℕ) (row : Vec ℕ) → rows_of (set rows w row) ≡ set (rows_of rows) w row.items
rows_of-set [] w row = refl
rows_of-set (r ∷ rows) zero row = refl
rows_of-set (r ∷ rows) (suc w) row = ap (λ (rs : List (List ℕ)). r.items ∷ rs) (rows_of-set rows w row)

pub length-rows_of : (rows : List (Vec ℕ)) → length (rows_of rows) ≡ length rows
length-rows_of [] = refl
length-rows_of (r ∷ rows) = ap suc (length-rows_of rows)

-- the next table is kept
pub kept_after : (catalogue : List Module) (old new : Table) (call : Call)
    → IsKept catalogue old → IsInRange (length catalogue) (length old.rows) call → new ≡ next catalogue old call → IsKept catalogue new
kept_after catalogue old new call kept range is =
    let shape : IsShaped (length catalogue) (length old.rows) new = subst (λ (t : Table). IsShaped (length catalogue) (length old.rows) t) (sym is)
    (next_shaped (length catalogue) (length old.rows) catalogue old call kept.shape) in
    record {
      slots = kept.slots;
      workers = rw shape.rows kept.workers;
      shape = rw shape.rows shape;
      lawful = subst (λ (t : Table). IsLawful catalogue t) (sym is) (next_lawful catalogue (length old.rows) old call kept.shape kept.lawful range);
    }

-- a get that is done
pub get_becomes : (catalogue : List Module) (table : Table) (w m : ℕ) → is_live (state_of table.book m) ≡ true → count_of table w m < 65535
    → next catalogue table (Get w m) ≡ effect table (Get w m)
get_becomes catalogue table w m live few = let room : leb 65535 (count_of table w m) ≡ false = lt-leb _ _ few in rw (live, room) refl

-- the opening table is kept
pub opening_kept : (catalogue : List Module) (workers : ℕ) → length catalogue ≤ 65535 → workers ≤ 64 → IsKept catalogue (opening catalogue workers)
opening_kept catalogue workers few small =
    let len : length (opening catalogue workers).rows ≡ workers = length-replicate workers (replicate (length catalogue) 0) in
    record {
      slots = few;
      workers = rw len small;
      shape = rw len (opening_shaped catalogue workers);
      lawful = opening_lawful catalogue workers;
    }
