-- The first seat, and the seats that are cut from it.
use Rattle.std.proofs.Common.{◌≡◌, ◌⊎◌, ℕ, zero, suc, ◌+◌, ◌-◌, ◌<◌, ◌≤◌, List, [], ◌∷◌, ◌++◌, map, length, get_or, replicate, All, refl, sym, ap, ◌∙◌, subst, inl, inr, ⊎_elim, arith, length-append}
use Rattle.std.proofs.lemmas.List.{get_or-replicate, length-replicate}
use mathlib.Core.Option.{some, some-ne-none, some-injective}
use lib.ListN.{get_elem?}
use Rattle.atomic_table.specs.Table as table
use Rattle.dep_index.specs.Table.{Module, holders}
use Rattle.dep_index.specs.Words.{word_in, closed}
use Rattle.dep_index.proofs.RunLaws.{opening_absent}
use Rattle.atomic_table.specs.Seated.{TableId}
use Rattle.root_row.specs.declared.view.World.{World}
use Rattle.root_row.specs.declared.rule.Setting.{Setting}
use Rattle.root_row.specs.declared.view.SeatName.TheVariants as name_is
use Rattle.root_row.specs.declared.view.Part.TheVariants as part_is
use Rattle.root_row.specs.declared.view.Member.{Member}
use Rattle.root_row.specs.declared.view.View.{View}
use Rattle.root_row.specs.World.{slots, opened, place_of, word_count}
use Rattle.root_row.specs.Views.{Part, name_of}
use Rattle.root_row.specs.Rule.{Agrees, Owner, FitsMember, Fits, HasAll}
use Rattle.root_row.specs.Setting.{world_of, leaf_parts, reader_parts, book_part, new_member, new_view, first_view}
use Rattle.root_row.specs.Seats.{Seated}
use Rattle.root_row.specs.Made.{AreNew}
use Rattle.root_row.specs.Seating.{first_member, other_members}
use Rattle.root_row.specs.declared.view.Trail.{Trail}
use Rattle.root_row.specs.Trails.{trail, TrailState, TrailRule, first_trail, other_trail}
use Rattle.root_row.proofs.Replay.{at_or_past, get_or_at, legal_none, callers_none}
use Rattle.root_row.proofs.Seating.{at_snoc}

pub at_replicate : {A : Type 0} (n : ℕ) (x : A) (i : ℕ) → i < n → get_elem? (replicate n x) i ≡ some x
at_replicate zero x i lt = absurd (omega arith)
at_replicate (suc n) x zero lt = refl
at_replicate (suc n) x (suc i) lt = at_replicate n x i (omega arith)

at_mapped : (l : List Part) (k : ℕ) (y : Member) → get_elem? (map new_member l) k ≡ some y → (x : Part) × (get_elem? l k ≡ some x) × (new_member x ≡ y)
at_mapped [] k y e = absurd (some-ne-none y (sym e))
at_mapped (x ∷ xs) zero y e = (x, refl, some-injective (new_member x) y e)
at_mapped (x ∷ xs) (suc k) y e = at_mapped xs k y e

leaf_at : (world : World) (n w : ℕ) (tail : List Part) (k : ℕ) (x : Part) → get_elem? (leaf_parts world n w ++ tail) k ≡ some x
    → ((k < n) × (part_is.Leaf (w + k) (replicate (slots world) 0) ≡ x)) ⊎ ((i : ℕ) × (k ≡ n + i) × (get_elem? tail i ≡ some x))
leaf_at world zero w tail k x e = inr (k, omega arith, e)
leaf_at world (suc n) w tail zero x e = inl (omega arith, ap (λ u. part_is.Leaf u (replicate (slots world) 0)) (let q : w + 0 ≡ w = omega arith in q) ∙ some-injective _ x e)
leaf_at world (suc n) w tail (suc k) x e = ⊎_elim
    (λ t. let a = t.0 in inl (omega arith, ap (λ u. part_is.Leaf u (replicate (slots world) 0)) (let q : w + suc k ≡ w + 1 + k = omega arith in q) ∙ t.1))
    (λ t. let a = t.1 in inr (t.0, omega arith, t.2))
    (leaf_at world n (w + 1) tail k x e)

reader_at : (n r : ℕ) (tail : List Part) (k : ℕ) (x : Part) → get_elem? (reader_parts n r ++ tail) k ≡ some x → ((k < n) × (part_is.Reader (r + k) ≡ x)) ⊎ ((i : ℕ) × (k ≡ n + i) × (get_elem? tail i ≡ some x))
reader_at zero r tail k x e = inr (k, omega arith, e)
reader_at (suc n) r tail zero x e = inl (omega arith, ap part_is.Reader (let q : r + 0 ≡ r = omega arith in q) ∙ some-injective _ x e)
reader_at (suc n) r tail (suc k) x e = ⊎_elim
    (λ t. let a = t.0 in inl (omega arith, ap part_is.Reader (let q : r + suc k ≡ r + 1 + k = omega arith in q) ∙ t.1))
    (λ t. let a = t.1 in inr (t.0, omega arith, t.2))
    (reader_at n (r + 1) tail k x e)

mapped_at : (l : List Part) (k : ℕ) (x : Part) → get_elem? l k ≡ some x → get_elem? (map new_member l) k ≡ some (new_member x)
mapped_at [] k x e = absurd (some-ne-none x (sym e))
mapped_at (y ∷ ys) zero x e = ap (λ (z : Part). some (new_member z)) (some-injective y x e)
mapped_at (y ∷ ys) (suc k) x e = mapped_at ys k x e

leaf_there : (world : World) (n w : ℕ) (tail : List Part) (k : ℕ) → k < n → get_elem? (leaf_parts world n w ++ tail) k ≡ some (part_is.Leaf (w + k) (replicate (slots world) 0))
leaf_there world zero w tail k lt = absurd (omega arith)
leaf_there world (suc n) w tail zero lt = ap (λ u. some (part_is.Leaf u (replicate (slots world) 0))) (let q : w ≡ w + 0 = omega arith in q)
leaf_there world (suc n) w tail (suc k) lt = leaf_there world n (w + 1) tail k (omega arith) ∙ ap (λ u. some (part_is.Leaf u (replicate (slots world) 0))) (let q : w + 1 + k ≡ w + suc k = omega arith in q)

past_leaves : (world : World) (n w : ℕ) (tail : List Part) (k : ℕ) → get_elem? (leaf_parts world n w ++ tail) (n + k) ≡ get_elem? tail k
past_leaves world zero w tail k = ap (λ i. get_elem? tail i) (let q : 0 + k ≡ k = omega arith in q)
past_leaves world (suc n) w tail k = ap (λ i. get_elem? (leaf_parts world (suc n) w ++ tail) i) (let q : suc n + k ≡ suc (n + k) = omega arith in q) ∙ past_leaves world n (w + 1) tail k

past_readers : (n r : ℕ) (tail : List Part) (k : ℕ) → get_elem? (reader_parts n r ++ tail) (n + k) ≡ get_elem? tail k
past_readers zero r tail k = ap (λ i. get_elem? tail i) (let q : 0 + k ≡ k = omega arith in q)
past_readers (suc n) r tail k = ap (λ i. get_elem? (reader_parts (suc n) r ++ tail) i) (let q : suc n + k ≡ suc (n + k) = omega arith in q) ∙ past_readers n (r + 1) tail k

module _ (setting : Setting) where
  abbrev world : World
  world = world_of setting

  owner : Owner
  owner (name_is.Leaf w) = (0, w)
  owner (name_is.Reader r) = (0, setting.workers + r)
  owner name_is.Book = (0, setting.workers + setting.readers)

  -- the part at a place is the table's, and its name stands there
  abbrev Stands : ℕ → Part → Type 0
  Stands k x = Agrees (opened (world_of setting)) x × (owner (name_of x) ≡ (0, k))

  book_stands : (i : ℕ) (x : Part) → get_elem? (book_part (world_of setting) ∷ []) i ≡ some x → Stands (setting.workers + (setting.readers + i)) x
  unfolding owner
  book_stands zero x e = subst (λ (y : Part). Stands (setting.workers + (setting.readers + 0)) y) (some-injective (book_part (world_of setting)) x e) (refl, ap (λ n. (0, n)) (let q : setting.workers + setting.readers ≡ setting.workers + (setting.readers + 0) = omega arith in q))
  book_stands (suc i) x e = absurd (some-ne-none x (sym e))

  stands : (k : ℕ) (x : Part) → get_elem? (leaf_parts (world_of setting) setting.workers 0 ++ (reader_parts setting.readers 0 ++ book_part (world_of setting) ∷ [])) k ≡ some x → Stands k x
  unfolding owner
  stands k x e = ⊎_elim
      (λ (t : (k < setting.workers) × (part_is.Leaf (0 + k) (replicate (slots (world_of setting)) 0) ≡ x)). subst (Stands k) t.1 (at_replicate setting.workers (replicate (slots (world_of setting)) 0) (0 + k) (let a = t.0 in omega arith), ap (λ n. (0, n)) (let q : 0 + k ≡ k = omega arith in q)))
      (λ (t : (i : ℕ) × (k ≡ setting.workers + i) × (get_elem? (reader_parts setting.readers 0 ++ book_part (world_of setting) ∷ []) i ≡ some x)). subst (λ n. Stands n x) (sym t.1) (⊎_elim
      (λ (u : (t.0 < setting.readers) × (part_is.Reader (0 + t.0) ≡ x)). subst (Stands (setting.workers + t.0)) u.1 (tt, ap (λ n. (0, n)) (let q : setting.workers + (0 + t.0) ≡ setting.workers + t.0 = omega arith in q)))
      (λ (u : (i : ℕ) × (t.0 ≡ setting.readers + i) × (get_elem? (book_part (world_of setting) ∷ []) i ≡ some x)). subst (λ n. Stands (setting.workers + n) x) (sym u.1) (book_stands u.0 x u.2))
      (reader_at setting.readers 0 (book_part (world_of setting) ∷ []) t.0 x t.2)))
      (leaf_at (world_of setting) setting.workers 0 (reader_parts setting.readers 0 ++ book_part (world_of setting) ∷ []) k x e)

  first_fits : Fits (world_of setting) [] owner 0 (first_view setting)
  first_fits k y e =
      let x = at_mapped (leaf_parts (world_of setting) setting.workers 0 ++ (reader_parts setting.readers 0 ++ book_part (world_of setting) ∷ [])) k y e in
      let st = stands k x.0 x.1 in
      subst (λ (z : Member). FitsMember (world_of setting) [] owner (first_view setting) 0 k z) x.2 (record { same_world = refl; begins = ([], refl); own = refl; agrees = st.0; one = st.1 })

  seats_fit : (j : ℕ) (v : View) → get_elem? (first_view setting ∷ []) j ≡ some v → Fits (world_of setting) [] owner j v
  seats_fit zero v e = subst (λ (u : View). Fits (world_of setting) [] owner 0 u) (some-injective (first_view setting) v e) first_fits
  seats_fit (suc j) v e = absurd (some-ne-none v (sym e))

  first_parts : List Part
  first_parts = leaf_parts (world_of setting) setting.workers 0 ++ (reader_parts setting.readers 0 ++ book_part (world_of setting) ∷ [])

  book_there : get_elem? first_parts (setting.workers + setting.readers) ≡ some (book_part (world_of setting))
  unfolding first_parts
  book_there =
      past_leaves (world_of setting) setting.workers 0 (reader_parts setting.readers 0 ++ book_part (world_of setting) ∷ []) setting.readers
      ∙ ap (λ i. get_elem? (reader_parts setting.readers 0 ++ book_part (world_of setting) ∷ []) i) (let q : setting.readers ≡ setting.readers + 0 = omega arith in q)
      ∙ past_readers setting.readers 0 (book_part (world_of setting) ∷ []) 0

  all_there : HasAll (world_of setting) (first_view setting ∷ []) owner
  unfolding owner first_parts book_there
  all_there (name_is.Leaf w) lt = (
    new_member (part_is.Leaf (0 + w) (replicate (slots (world_of setting)) 0)),
    (first_view setting, refl, mapped_at first_parts w (part_is.Leaf (0 + w) (replicate (slots (world_of setting)) 0)) (leaf_there (world_of setting) setting.workers 0 (reader_parts setting.readers 0 ++ book_part (world_of setting) ∷ []) w lt)),
    ap name_is.Leaf (let q : 0 + w ≡ w = omega arith in q),
  )
  all_there (name_is.Reader r) of = absurd of
  all_there name_is.Book of = (
    new_member (book_part (world_of setting)),
    (first_view setting, refl, mapped_at first_parts (setting.workers + setting.readers) (book_part (world_of setting)) book_there),
    refl,
  )

  pub opens : (words : List ℕ) → words ≡ replicate (word_count (world_of setting)) closed → setting.workers < closed → TrailRule (world_of setting) (table.opening words [] (trail (first_view setting) []))
  opens words is few = record {
    history = [];
    owner = owner;
    few = few;
    legal = legal_none (world_of setting);
    callers = callers_none;
    whole = inl refl;
    seats = seats_fit;
    there = all_there;
    wide = ap length is ∙ length-replicate (word_count (world_of setting)) closed;
    spare = ap (λ l. get_or l 0 0) is ∙ get_or-replicate (word_count (world_of setting)) 0 closed 0 (omega arith);
    words = λ m lt. ap (λ l. get_or l (place_of m) 0) is ∙ get_or-replicate (word_count (world_of setting)) (place_of m) closed 0 (omega arith) ∙ sym (ap (λ st. word_in st (holders (opened (world_of setting)).rows m)) (opening_absent setting.catalogue.value setting.workers m));
  }

-- one leaf is cut off
leaf_cut : (world : World) (n k i : ℕ) (tail : List Part) → n ≡ suc k
    → (first_member (new_view world (leaf_parts world n i ++ tail)) ≡ new_view world (part_is.Leaf i (replicate (slots world) 0) ∷ [])) × (other_members (new_view world (leaf_parts world n i ++ tail)) ≡ new_view world (leaf_parts world k (i + 1) ++ tail))
leaf_cut world n k i tail e = subst (λ m. (first_member (new_view world (leaf_parts world m i ++ tail)) ≡ new_view world (part_is.Leaf i (replicate (slots world) 0) ∷ [])) × (other_members (new_view world (leaf_parts world m i ++ tail)) ≡ new_view world (leaf_parts world k (i + 1) ++ tail))) (sym e) (refl, refl)

pub next_leaf : (world : World) (n i : ℕ) (tail : List Part) → i < n
    → (first_member (new_view world (leaf_parts world (n - i) i ++ tail)) ≡ new_view world (part_is.Leaf i (replicate (slots world) 0) ∷ [])) × (other_members (new_view world (leaf_parts world (n - i) i ++ tail)) ≡ new_view world (leaf_parts world (n - (i + 1)) (i + 1) ++ tail))
next_leaf world n i tail lt = leaf_cut world (n - i) (n - (i + 1)) i tail (omega arith)

reader_cut : (world : World) (n k i : ℕ) (tail : List Part) → n ≡ suc k
    → (first_member (new_view world (reader_parts n i ++ tail)) ≡ new_view world (part_is.Reader i ∷ [])) × (other_members (new_view world (reader_parts n i ++ tail)) ≡ new_view world (reader_parts k (i + 1) ++ tail))
reader_cut world n k i tail e = subst (λ m. (first_member (new_view world (reader_parts m i ++ tail)) ≡ new_view world (part_is.Reader i ∷ [])) × (other_members (new_view world (reader_parts m i ++ tail)) ≡ new_view world (reader_parts k (i + 1) ++ tail))) (sym e) (refl, refl)

pub next_reader : (world : World) (n i : ℕ) (tail : List Part) → i < n
    → (first_member (new_view world (reader_parts (n - i) i ++ tail)) ≡ new_view world (part_is.Reader i ∷ [])) × (other_members (new_view world (reader_parts (n - i) i ++ tail)) ≡ new_view world (reader_parts (n - (i + 1)) (i + 1) ++ tail))
next_reader world n i tail lt = reader_cut world (n - i) (n - (i + 1)) i tail (omega arith)

-- what is known of a cut, if the rest has the parts of the loop
pub cut_leaf : (world : World) (n i : ℕ) (tail : List Part) (me rest seat : TrailState) → i < n → me ≡ (trail (new_view world (leaf_parts world (n - i) i ++ tail)) [], [])
    → seat ≡ (first_trail me.0, []) → rest ≡ (other_trail me.0, me.1)
    → (seat ≡ (trail (new_view world (part_is.Leaf i (replicate (slots world) 0) ∷ [])) [], [])) × (rest ≡ (trail (new_view world (leaf_parts world (n - (i + 1)) (i + 1) ++ tail)) [], []))
cut_leaf world n i tail me rest seat lt is first other =
    let p = next_leaf world n i tail lt in
    (first ∙ ap (λ (m : TrailState). (first_trail m.0, [])) is ∙ ap (λ (v : View). (trail v [], [])) p.0, other ∙ ap (λ (m : TrailState). (other_trail m.0, m.1)) is ∙ ap (λ (v : View). (trail v [], [])) p.1)

pub cut_reader : (world : World) (n i : ℕ) (tail : List Part) (me rest seat : TrailState) → i < n → me ≡ (trail (new_view world (reader_parts (n - i) i ++ tail)) [], [])
    → seat ≡ (first_trail me.0, []) → rest ≡ (other_trail me.0, me.1)
    → (seat ≡ (trail (new_view world (part_is.Reader i ∷ [])) [], [])) × (rest ≡ (trail (new_view world (reader_parts (n - (i + 1)) (i + 1) ++ tail)) [], []))
cut_reader world n i tail me rest seat lt is first other =
    let p = next_reader world n i tail lt in
    (first ∙ ap (λ (m : TrailState). (first_trail m.0, [])) is ∙ ap (λ (v : View). (trail v [], [])) p.0, other ∙ ap (λ (m : TrailState). (other_trail m.0, m.1)) is ∙ ap (λ (v : View). (trail v [], [])) p.1)

-- one more new seat
pub one_more : (new : ℕ → Seated) (count : ℕ) (seats : List Seated) (x : Seated) → AreNew new count seats → new count ≡ x → AreNew new (count + 1) (seats ++ x ∷ [])
one_more new count seats x are is = (
  (let n = are.0 in omega (arith, length-append seats (x ∷ []))),
  λ k y e. ⊎_elim (λ (t : get_elem? seats k ≡ some y). are.1 k y t) (λ (t : (k ≡ length seats) × (x ≡ y)). ap new (t.0 ∙ are.0) ∙ is ∙ t.1) (at_snoc seats x y k e),
)

abbrev seat_at : TableId → Trail → Seated
seat_at row t = record { row = row; view = t.view; steps = t.steps }

pub is_seated : (id row : TableId) (t u : Trail) → row ≡ id → u ≡ t → seat_at id t ≡ seat_at row u
is_seated id row t u a b = λ i. seat_at (sym a i) (sym b i)

-- a line for each slot, and the spare line
pub room : (setting : Setting) (catalogue : List Module) (n : ℕ) → setting.catalogue.value ≡ catalogue → n ≡ length catalogue → n ≡ slots (world_of setting)
room setting catalogue n is len = len ∙ ap length (sym is)

-- a fact of each new seat
pub all_new : (new : ℕ → Seated) (count : ℕ) (seats : List Seated) (Q : Seated → Type 0) → AreNew new count seats → ((k : ℕ) → Q (new k)) → All Q seats
all_new new count seats Q are good k d lt = ⊎_elim
    (λ (t : (a : Seated) × (get_elem? seats k ≡ some a)). subst Q (are.1 k t.0 t.1 ∙ sym (get_or_at seats k t.0 d t.1)) (good k))
    (λ (past : length seats ≤ k). absurd (omega arith))
    (at_or_past seats k)
