-- A table of holders is kept by each call, and by each change of its holders.
use Rattle.std.proofs.Common.{◌≡◌, ℕ, zero, suc, ◌+◌, ◌-◌, ◌<◌, ◌≤◌, false, leb, ◌||◌, List, [], ◌∷◌, ◌++◌, length, get_or, Option, None, is_some, if◌then◌else◌, refl, sym, ◌∙◌, ap, subst, arith, ◌⊎◌, inl, inr}
use Rattle.std.proofs.Math.ListN.{set, replicate}
use Rattle.std.proofs.Math.Seq.{get_or-append_seam}
use Rattle.std.proofs.lemmas.Bool.{cases_lt, cases_eq, lt-leb}
use Rattle.std.proofs.lemmas.List.{length-append, length-set, length-replicate, get_or_append_left, get_or-append-add, get_or-set_same, get_or-set_other, get_or_past}
use Rattle.std.specs.List.{swap_remove}
use Rattle.dep_index.specs.declared.table.calls.Call.{Call}
use Rattle.dep_index.specs.Table.{Module, Book, Table}
use Rattle.dep_index.specs.Calls.{next, IsInRange}
use Rattle.dep_index.specs.Laws.{IsShaped, IsLawful}
use Rattle.dep_index.proofs.RunLaws.{next_lawful, next_shaped, replicated}
use Rattle.held_table.specs.Names.{place_of}
use Rattle.held_table.specs.Held.{Held, IsKept, entered, with_holder, is_there_or_full}
use Rattle.held_table.proofs.HoldingLemmas.{swapped_row, length-swapped}

pub kept_after : (catalogue : List Module) (old new : Table) (names : List (List ℕ)) (slots : ℕ) (call : Call)
    → IsKept catalogue (record { table = old; names = names }) × (slots ≡ length catalogue)
    → IsInRange (length catalogue) (length old.rows) call → new ≡ next catalogue old call
    → IsKept catalogue (record { table = new; names = names }) × (slots ≡ length catalogue)
kept_after catalogue old new names slots call kept range is =
    let shape : IsShaped (length catalogue) (length old.rows) new = subst (λ (t : Table). IsShaped (length catalogue) (length old.rows) t) (sym is)
    (next_shaped (length catalogue) (length old.rows) catalogue old call kept.0.shape) in (
      record {
        slots = kept.0.slots;
        workers = rw shape.rows kept.0.workers;
        shape = rw shape.rows shape;
        lawful = subst (λ (t : Table). IsLawful catalogue t) (sym is) (next_lawful catalogue (length old.rows) old call kept.0.shape kept.0.lawful range);
        named = rw shape.rows kept.0.named;
      },
      kept.1,
    )

-- what is kept of rows and names is kept of the same ones
pub kept_from : (catalogue : List Module) (book : Book) (rows new : List (List ℕ)) (names left : List (List ℕ)) → new ≡ rows → left ≡ names
    → IsKept catalogue (record { table = record { book = book; rows = rows }; names = names })
    → IsKept catalogue (record { table = record { book = book; rows = new }; names = left })
kept_from catalogue book rows new names left same also kept =
    subst (λ (n : List (List ℕ)). IsKept catalogue (record { table = record { book = book; rows = new }; names = n })) (sym also)
    (subst (λ (r : List (List ℕ)). IsKept catalogue (record { table = record { book = book; rows = r }; names = names })) (sym same) kept)

-- if each count that is held was held by somebody, the laws stay
pub lawful_rows : (catalogue : List Module) (book : Book) (old new : List (List ℕ)) → IsLawful catalogue (record { book = book; rows = old })
    → ((w m : ℕ) → 0 < get_or (get_or new w []) m 0 → (j : ℕ) × (get_or (get_or new w []) m 0 ≡ get_or (get_or old j []) m 0))
    → IsLawful catalogue (record { book = book; rows = new })
lawful_rows catalogue book old new lawful from = record {
  order = lawful.order;
  pairs = λ w m held.
      let at = from w m held in
      let fact = lawful.pairs at.0 m (subst (λ n. 0 < n) at.1 held) in
      (fact.0, subst (λ n. n ≤ 65535) (sym at.1) fact.1);
  needs = lawful.needs;
}

behind : (rows : List (List ℕ)) (n w m : ℕ) → length rows ≤ w → get_or (get_or (rows ++ replicate n 0 ∷ []) w []) m 0 ≡ 0
behind rows n w m past = at (w - length rows) (omega (arith, past)) where
  at : (k : ℕ) → w ≡ length rows + k → get_or (get_or (rows ++ replicate n 0 ∷ []) w []) m 0 ≡ 0
  at zero is = ap (λ i. get_or (get_or (rows ++ replicate n 0 ∷ []) i []) m 0) is ∙ ap (λ (r : List ℕ). get_or r m 0) (get_or-append-add rows (replicate n 0 ∷ []) 0 []) ∙ replicated n m 0
  at (suc k) is = ap (λ i. get_or (get_or (rows ++ replicate n 0 ∷ []) i []) m 0) is ∙ ap (λ (r : List ℕ). get_or r m 0) (get_or-append-add rows (replicate n 0 ∷ []) (suc k) [])

pub kept_entered : (catalogue : List Module) (book : Book) (rows names : List (List ℕ)) (name : List ℕ)
    → IsKept catalogue (record { table = record { book = book; rows = rows }; names = names }) → length rows < 65536
    → IsKept catalogue (record { table = record { book = book; rows = rows ++ replicate (length catalogue) 0 ∷ [] }; names = names ++ name ∷ [] })
kept_entered catalogue book rows names name kept few = record {
  slots = kept.slots;
  workers = omega (arith, length-append rows (replicate (length catalogue) 0 ∷ []), few);
  shape = record { states = kept.shape.states; rows = refl; row = row };
  lawful = lawful_rows catalogue book rows (rows ++ replicate (length catalogue) 0 ∷ []) kept.lawful from;
  named = length-append names (name ∷ []) ∙ ap (λ n. n + 1) kept.named ∙ sym (length-append rows (replicate (length catalogue) 0 ∷ []));
} where
  row : (w : ℕ) → w < length (rows ++ replicate (length catalogue) 0 ∷ []) → length (get_or (rows ++ replicate (length catalogue) 0 ∷ []) w []) ≡ length catalogue
  row w below = at (cases_lt w (length rows)) where
    at : (w < length rows) ⊎ (length rows ≤ w) → length (get_or (rows ++ replicate (length catalogue) 0 ∷ []) w []) ≡ length catalogue
    at (inl h) = ap (λ (r : List ℕ). length r) (get_or_append_left rows (replicate (length catalogue) 0 ∷ []) [] w h) ∙ kept.shape.row w h
    at (inr h) =
        let last : length rows ≡ w = omega (arith, h, below, length-append rows (replicate (length catalogue) 0 ∷ [])) in
        subst (λ i. length (get_or (rows ++ replicate (length catalogue) 0 ∷ []) i []) ≡ length catalogue) last
        (ap (λ (r : List ℕ). length r) (get_or-append_seam rows (replicate (length catalogue) 0) [] []) ∙ length-replicate {A = ℕ} (length catalogue) 0)

  from : (w m : ℕ) → 0 < get_or (get_or (rows ++ replicate (length catalogue) 0 ∷ []) w []) m 0
      → (j : ℕ) × (get_or (get_or (rows ++ replicate (length catalogue) 0 ∷ []) w []) m 0 ≡ get_or (get_or rows j []) m 0)
  from w m held = at (cases_lt w (length rows)) where
    at : (w < length rows) ⊎ (length rows ≤ w) → (j : ℕ) × (get_or (get_or (rows ++ replicate (length catalogue) 0 ∷ []) w []) m 0 ≡ get_or (get_or rows j []) m 0)
    at (inl h) = (w, ap (λ (r : List ℕ). get_or r m 0) (get_or_append_left rows (replicate (length catalogue) 0 ∷ []) [] w h))
    at (inr h) = absurd (omega (arith, held, behind rows (length catalogue) w m h))

pub kept_released : (catalogue : List Module) (book : Book) (rows names : List (List ℕ)) (w : ℕ) → w < length rows
    → IsKept catalogue (record { table = record { book = book; rows = rows }; names = names })
    → IsKept catalogue (record { table = record { book = book; rows = set rows w (replicate (length catalogue) 0) }; names = names })
kept_released catalogue book rows names w within kept = record {
  slots = kept.slots;
  workers = omega (arith, length-set rows w (replicate (length catalogue) 0), kept.workers);
  shape = record { states = kept.shape.states; rows = refl; row = row };
  lawful = lawful_rows catalogue book rows (set rows w (replicate (length catalogue) 0)) kept.lawful from;
  named = kept.named ∙ sym (length-set rows w (replicate (length catalogue) 0));
} where
  row : (v : ℕ) → v < length (set rows w (replicate (length catalogue) 0)) → length (get_or (set rows w (replicate (length catalogue) 0)) v []) ≡ length catalogue
  row v below = at (cases_eq v w) where
    at : (v ≡ w) ⊎ (v ≡ w → ⊥) → length (get_or (set rows w (replicate (length catalogue) 0)) v []) ≡ length catalogue
    at (inl same) = subst (λ i. length (get_or (set rows w (replicate (length catalogue) 0)) i []) ≡ length catalogue) (sym same)
        (ap (λ (r : List ℕ). length r) (get_or-set_same rows w (replicate (length catalogue) 0) [] within) ∙ length-replicate {A = ℕ} (length catalogue) 0)
    at (inr other) = ap (λ (r : List ℕ). length r) (get_or-set_other rows w v (replicate (length catalogue) 0) [] other)
        ∙ kept.shape.row v (subst (λ n. v < n) (length-set rows w (replicate (length catalogue) 0)) below)

  from : (v m : ℕ) → 0 < get_or (get_or (set rows w (replicate (length catalogue) 0)) v []) m 0
      → (j : ℕ) × (get_or (get_or (set rows w (replicate (length catalogue) 0)) v []) m 0 ≡ get_or (get_or rows j []) m 0)
  from v m held = at (cases_eq v w) where
    at : (v ≡ w) ⊎ (v ≡ w → ⊥) → (j : ℕ) × (get_or (get_or (set rows w (replicate (length catalogue) 0)) v []) m 0 ≡ get_or (get_or rows j []) m 0)
    at (inl same) =
        let none : get_or (get_or (set rows w (replicate (length catalogue) 0)) v []) m 0 ≡ 0 =
        ap (λ i. get_or (get_or (set rows w (replicate (length catalogue) 0)) i []) m 0) same
        ∙ ap (λ (r : List ℕ). get_or r m 0) (get_or-set_same rows w (replicate (length catalogue) 0) [] within) ∙ replicated (length catalogue) m 0 in
        absurd (omega (arith, held, none))
    at (inr other) = (v, ap (λ (r : List ℕ). get_or r m 0) (get_or-set_other rows w v (replicate (length catalogue) 0) [] other))

pub kept_without : (catalogue : List Module) (book : Book) (rows names : List (List ℕ)) (w : ℕ) → w < length rows
    → IsKept catalogue (record { table = record { book = book; rows = rows }; names = names })
    → IsKept catalogue (record { table = record { book = book; rows = swap_remove rows w [] }; names = swap_remove names w [] })
kept_without catalogue book rows names w within kept = record {
  slots = kept.slots;
  workers = omega (arith, length-swapped rows w [], kept.workers);
  shape = record { states = kept.shape.states; rows = refl; row = row };
  lawful = lawful_rows catalogue book rows (swap_remove rows w []) kept.lawful from;
  named = length-swapped names w [] ∙ ap (λ n. n - 1) kept.named ∙ sym (length-swapped rows w []);
} where
  row : (v : ℕ) → v < length (swap_remove rows w []) → length (get_or (swap_remove rows w []) v []) ≡ length catalogue
  row v below =
      let at = swapped_row [] rows w [] within v below in
      ap (λ (r : List ℕ). length r) at.2 ∙ kept.shape.row at.0 at.1

  from : (v m : ℕ) → 0 < get_or (get_or (swap_remove rows w []) v []) m 0
      → (j : ℕ) × (get_or (get_or (swap_remove rows w []) v []) m 0 ≡ get_or (get_or rows j []) m 0)
  from v m held = at (cases_lt v (length (swap_remove rows w []))) where
    at : (v < length (swap_remove rows w [])) ⊎ (length (swap_remove rows w []) ≤ v) → (j : ℕ) × (get_or (get_or (swap_remove rows w []) v []) m 0 ≡ get_or (get_or rows j []) m 0)
    at (inl below) = (let there = swapped_row [] rows w [] within v below in (there.0, ap (λ (r : List ℕ). get_or r m 0) there.2))
    at (inr past) = absurd (omega (arith, held, ap (λ (r : List ℕ). get_or r m 0) (get_or_past (swap_remove rows w []) v [] past)))

-- what came in is what the definition says
pub entered_is : (h : Held) (name : List ℕ) (n : ℕ) (rows names : List (List ℕ)) → place_of h.names name ≡ None → length h.names < 65536
    → n ≡ length h.table.book.states → rows ≡ h.table.rows ++ replicate n 0 ∷ [] → names ≡ h.names ++ name ∷ []
    → record { table = record { book = h.table.book; rows = rows }; names = names } ≡ entered h name
entered_is h name n rows names absent few is added named =
    let room : leb 65536 (length h.names) ≡ false = lt-leb _ _ few in
    let out : is_there_or_full h.names name ≡ false = ap (λ (o : Option ℕ). is_some o || leb 65536 (length h.names)) absent ∙ room in
    let after : Held = record { table = record { book = h.table.book; rows = rows }; names = names } in
    let made : after ≡ with_holder h name = rw (added, named, is) refl in
    made ∙ sym (ap (λ b. if b then h else with_holder h name) out)
