-- Seats are cut, put together and told of each other under the rule.
use Rattle.std.proofs.Common.{◌≡◌, ◌≢◌, ◌⊎◌, ℕ, zero, suc, ◌+◌, ◌-◌, ◌<◌, cond, List, [], ◌∷◌, ◌++◌, length, get_or, set, ◌==◌, refl, sym, ap, ◌∙◌, subst, inl, inr, ⊎_elim, arith, append-nil, length-set, eq-eqb, ne_eqb}
use Rattle.std.proofs.lemmas.Bool.{cases_eq}
use mathlib.Core.Option.{some, some-ne-none, some-injective}
use lib.ListN.{get_elem?}
use Rattle.atomic_table.specs.Table.{keeps, stepped, Splits, Joins}
use Rattle.atomic_table.proofs.Lists.{at_set, set_here, set_else, at_longer, at_last}
use Rattle.root_row.specs.declared.view.World.{World}
use Rattle.root_row.specs.declared.view.Part.TheVariants as part_is
use Rattle.root_row.specs.declared.view.Member.{Member}
use Rattle.root_row.specs.declared.view.SeatAnswer.{SeatAnswer}
use Rattle.root_row.specs.declared.view.View.{View}
use Rattle.root_row.specs.Views.{Part, member, name_of, seen_in, seen_of, IsOne, IsLeaf, worker_of, counts_of}
use Rattle.root_row.specs.Rule.{Owner, FitsMember, Fits, IsAt, IsSeen, HasAll, RowRule}
use Rattle.root_row.specs.Seating.{first_of, rest_of, first_member, other_members, joined, spent, IsPair, IsTwo, Paired}
use Rattle.root_row.proofs.Replay.{at_length}
use Rattle.root_row.proofs.LeafSteps.{leaf_parts}
use Rattle.root_row.proofs.Moves as move

-- an element of a longer list is one of the list, or the new one
pub at_snoc : {A : Type 0} (l : List A) (a b : A) (j : ℕ) → get_elem? (l ++ a ∷ []) j ≡ some b → (get_elem? l j ≡ some b) ⊎ ((j ≡ length l) × (a ≡ b))
at_snoc [] a b zero e = inr (refl, some-injective a b e)
at_snoc [] a b (suc j) e = absurd (some-ne-none b (sym e))
at_snoc (x ∷ xs) a b zero e = inl e
at_snoc (x ∷ xs) a b (suc j) e = ⊎_elim (λ t. inl t) (λ t. let n = t.0 in inr (omega arith, t.1)) (at_snoc xs a b j e)

pub at_first : (l : List Member) (k : ℕ) (x : Member) → get_elem? (first_of l) k ≡ some x → (k ≡ 0) × (get_elem? l 0 ≡ some x)
at_first [] k x e = absurd (some-ne-none x (sym e))
at_first (y ∷ ys) zero x e = (refl, e)
at_first (y ∷ ys) (suc k) x e = absurd (some-ne-none x (sym e))

pub at_rest : (l : List Member) (k : ℕ) (x : Member) → get_elem? (rest_of l) k ≡ some x → get_elem? l (suc k) ≡ some x
at_rest [] k x e = absurd (some-ne-none x (sym e))
at_rest (y ∷ ys) k x e = e

first_there : (l : List Member) (x : Member) → get_elem? l 0 ≡ some x → get_elem? (first_of l) 0 ≡ some x
first_there [] x e = e
first_there (y ∷ ys) x e = e

rest_there : (k : ℕ) (l : List Member) (x : Member) → get_elem? l (suc k) ≡ some x → get_elem? (rest_of l) k ≡ some x
rest_there k [] x e = absurd (some-ne-none x (sym e))
rest_there k (y ∷ ys) x e = e

place_is : (p : ℕ × ℕ) (j : ℕ) → p.0 ≡ j → p ≡ (j, p.1)
place_is p j e = λ i. (e i, p.1)

-- what a part of a list shows, wherever it stands
at_append : {A : Type 0} (l m : List A) (k : ℕ) (x : A) → get_elem? (l ++ m) k ≡ some x → ((k < length l) × (get_elem? l k ≡ some x)) ⊎ ((i : ℕ) × (k ≡ length l + i) × (get_elem? m i ≡ some x))
at_append [] m k x e = inr (k, omega arith, e)
at_append (y ∷ ys) m zero x e = inl (omega arith, e)
at_append (y ∷ ys) m (suc k) x e = ⊎_elim (λ t. let a = t.0 in inl (omega arith, t.1)) (λ t. let a = t.1 in inr (t.0, omega arith, t.2)) (at_append ys m k x e)

at_append_left : {A : Type 0} (l m : List A) (k : ℕ) (x : A) → get_elem? l k ≡ some x → get_elem? (l ++ m) k ≡ some x
at_append_left l m k x e = at_longer l m k x e

at_append_right : {A : Type 0} (l m : List A) (k : ℕ) → get_elem? (l ++ m) (length l + k) ≡ get_elem? m k
at_append_right [] m k = ap (λ i. get_elem? m i) (let e : 0 + k ≡ k = omega arith in e)
at_append_right (x ∷ xs) m k = ap (λ i. get_elem? (x ∷ (xs ++ m)) i) (let e : suc (length xs) + k ≡ suc (length xs + k) = omega arith in e) ∙ at_append_right xs m k

-- a member's facts do not depend on where it stands, but for its place
moved : (world : World) (log : List SeatAnswer) (owner owner' : Owner) (v u : View) (j k i l : ℕ) (x : Member) → FitsMember world log owner v j k x → u.world ≡ v.world → owner' (name_of x.part) ≡ (i, l) → FitsMember world log owner' u i l x
moved world log owner owner' v u j k i l x fit same one = record {
  same_world = same ∙ fit.same_world;
  begins = fit.begins;
  own = fit.own;
  agrees = fit.agrees;
  one = one;
}

module _ (world : World) (s : move.St) (kept : RowRule world s) (id : ℕ) (v : View) (at : get_elem? s.views id ≡ some v) where
  abbrev count : ℕ
  count = length s.views

  -- the first member of the seat goes to the new seat, and the others move up
  abbrev cut : ℕ × ℕ → ℕ × ℕ
  cut p = cond (p.0 == id) (cond (p.1 == 0) (length s.views, 0) (id, p.1 - 1)) p

  cut_first : (p : ℕ × ℕ) → p ≡ (id, 0) → cut p ≡ (length s.views, 0)
  cut_first p e = ap cut e ∙ ap (λ b. cond b (length s.views, 0) (id, 0)) (eq-eqb id id refl)

  cut_rest : (k : ℕ) (p : ℕ × ℕ) → p ≡ (id, suc k) → cut p ≡ (id, k)
  cut_rest k p e = ap cut e ∙ ap (λ b. cond b (cond (suc k == 0) (length s.views, 0) (id, suc k - 1)) (id, suc k)) (eq-eqb id id refl) ∙ ap (λ b. cond b (length s.views, 0) (id, suc k - 1)) (ne_eqb (suc k) 0 (λ q. omega arith)) ∙ ap (λ n. (id, n)) (let q : suc k - 1 ≡ k = omega arith in q)

  cut_other : (j k : ℕ) (p : ℕ × ℕ) → p ≡ (j, k) → j ≢ id → cut p ≡ (j, k)
  cut_other j k p e ne = ap cut e ∙ ap (λ b. cond b (cond (k == 0) (length s.views, 0) (id, k - 1)) (j, k)) (ne_eqb j id ne)

  abbrev cut_views : List View
  cut_views = set s.views id (other_members v) ++ first_member v ∷ []

  cut_fits : (j : ℕ) (u : View) → get_elem? cut_views j ≡ some u → Fits world kept.history (λ n. cut (kept.owner n)) j u
  cut_fits j u is = ⊎_elim
      (λ (old : get_elem? (set s.views id (other_members v)) j ≡ some u). ⊎_elim
      (λ (z : (j ≡ id) × (other_members v ≡ u)). subst (λ (y : ℕ × View). Fits world kept.history (λ n. cut (kept.owner n)) y.0 y.1) (λ i. (sym z.0 i, z.1 i)) rest_fits)
      (λ (z : (j ≢ id) × (get_elem? s.views j ≡ some u)). λ k x there. let fit = kept.seats j u z.1 k x there in moved world kept.history kept.owner (λ n. cut (kept.owner n)) u u j k j k x fit refl (cut_other j k (kept.owner (name_of x.part)) fit.one z.0))
      (at_set s.views id j (other_members v) u old))
      (λ (new : (j ≡ length (set s.views id (other_members v))) × (first_member v ≡ u)). subst (λ (y : ℕ × View). Fits world kept.history (λ n. cut (kept.owner n)) y.0 y.1) (λ i. (sym (new.0 ∙ length-set s.views id (other_members v)) i, new.1 i)) first_fits)
      (at_snoc (set s.views id (other_members v)) (first_member v) u j is)
    where
      rest_fits : Fits world kept.history (λ n. cut (kept.owner n)) id (other_members v)
      rest_fits k x there = let fit = kept.seats id v at (suc k) x (at_rest v.members k x there) in moved world kept.history kept.owner (λ n. cut (kept.owner n)) v (other_members v) id (suc k) id k x fit refl (cut_rest k (kept.owner (name_of x.part)) fit.one)

      first_fits : Fits world kept.history (λ n. cut (kept.owner n)) (length s.views) (first_member v)
      first_fits k x there =
          let p = at_first v.members k x there in
          let fit = kept.seats id v at 0 x p.1 in
          moved world kept.history kept.owner (λ n. cut (kept.owner n)) v (first_member v) id 0 (length s.views) k x fit refl (cut_first (kept.owner (name_of x.part)) fit.one ∙ ap (λ n. (length s.views, n)) (sym p.0))

  -- a member goes where its place is cut to
  cut_at : (p : ℕ × ℕ) (x : Member) → IsAt s.views p x → IsAt cut_views (cut p) x
  cut_at p x t = ⊎_elim
      (λ (same : p.0 ≡ id). mine p.1 (place_is p id same) (ap (λ (u : View). get_elem? u.members p.1) (some-injective v t.0 (sym at ∙ ap (λ i. get_elem? s.views i) (sym same) ∙ t.1)) ∙ t.2))
      (λ (far : p.0 ≡ id → ⊥). subst (λ q. IsAt cut_views q x) (sym (cut_other p.0 p.1 p refl far)) (t.0, at_longer (set s.views id (other_members v)) (first_member v ∷ []) p.0 t.0 (set_else s.views id p.0 (other_members v) far ∙ t.1), t.2))
      (cases_eq p.0 id)
    where
      mine : (k : ℕ) → p ≡ (id, k) → get_elem? v.members k ≡ some x → IsAt cut_views (cut p) x
      mine zero e there = subst (λ q. IsAt cut_views q x) (sym (cut_first p e)) (first_member v, at_last (set s.views id (other_members v)) (first_member v) (length s.views) (length-set s.views id (other_members v)), first_there v.members x there)
      mine (suc k) e there = subst (λ q. IsAt cut_views q x) (sym (cut_rest k p e)) (other_members v, at_longer (set s.views id (other_members v)) (first_member v ∷ []) id (other_members v) (set_here s.views id (other_members v) (at_length s.views id v at)), rest_there k v.members x there)

  cut_seen : IsSeen kept.history s.views → IsSeen kept.history cut_views
  cut_seen t = (cut t.0, t.1, cut_at t.0 t.1 t.2, t.3)

  cut_there : HasAll world cut_views (λ n. cut (kept.owner n))
  cut_there n of = let t = kept.there n of in (t.0, cut_at (kept.owner n) t.0 t.1, t.2)

  pub splits_at : RowRule world (record { words = s.words; homes = s.homes; views = set s.views id (other_members v) ++ first_member v ∷ [] })
  splits_at = record {
    history = kept.history;
    owner = λ n. cut (kept.owner n);
    few = kept.few;
    legal = kept.legal;
    callers = kept.callers;
    whole = ⊎_elim (λ (none_yet : kept.history ≡ []). inl none_yet) (λ (w : IsSeen kept.history s.views). inr (cut_seen w)) kept.whole;
    seats = cut_fits;
    there = cut_there;
    wide = kept.wide;
    spare = kept.spare;
    words = kept.words;
  }

pub splits : (world : World) (id : ℕ) (v : View) → Splits (RowRule world) id v (other_members v) (first_member v)
splits world id v s kept at = splits_at world s kept id v at

module _ (world : World) (s : move.St) (kept : RowRule world s) (id : ℕ) (v : View) (at : get_elem? s.views id ≡ some v) (known : v.world ≡ world) (other : ℕ) (w : View) (apart : other ≢ id) (there : get_elem? s.views other ≡ some w) where
  abbrev glue : ℕ × ℕ → ℕ × ℕ
  glue p = cond (p.0 == other) (id, length v.members + p.1) p

  glue_same : (j k : ℕ) (p : ℕ × ℕ) → p ≡ (j, k) → j ≢ other → glue p ≡ (j, k)
  glue_same j k p e ne = ap glue e ∙ ap (λ b. cond b (id, length v.members + k) (j, k)) (ne_eqb j other ne)

  glue_other : (k : ℕ) (p : ℕ × ℕ) → p ≡ (other, k) → glue p ≡ (id, length v.members + k)
  glue_other k p e = ap glue e ∙ ap (λ b. cond b (id, length v.members + k) (other, k)) (eq-eqb other other refl)

  abbrev glued_views : List View
  glued_views = set (set s.views id (joined v w)) other spent

  abbrev glued_owner : Owner
  glued_owner n = glue (kept.owner n)

  joined_fits : Fits world kept.history glued_owner id (joined v w)
  joined_fits k x is = ⊎_elim
      (λ (l : (k < length v.members) × (get_elem? v.members k ≡ some x)). let fit = kept.seats id v at k x l.1 in moved world kept.history kept.owner glued_owner v (joined v w) id k id k x fit refl (glue_same id k (kept.owner (name_of x.part)) fit.one (λ q. apart (sym q))))
      (λ (r : (i : ℕ) × (k ≡ length v.members + i) × (get_elem? w.members i ≡ some x)).
      let fit = kept.seats other w there r.0 x r.2 in
      moved world kept.history kept.owner glued_owner w (joined v w) other r.0 id k x fit (known ∙ sym fit.same_world) (glue_other r.0 (kept.owner (name_of x.part)) fit.one ∙ ap (λ n. (id, n)) (sym r.1)))
      (at_append v.members w.members k x is)

  glued_fits : (j : ℕ) (u : View) → get_elem? glued_views j ≡ some u → Fits world kept.history glued_owner j u
  glued_fits j u is = ⊎_elim
      (λ (z : (j ≡ other) × (spent ≡ u)). subst (λ (y : View). Fits world kept.history glued_owner j y) z.1 (λ k x e. absurd (some-ne-none x (sym e))))
      (λ (z : (j ≢ other) × (get_elem? (set s.views id (joined v w)) j ≡ some u)). ⊎_elim
      (λ (y : (j ≡ id) × (joined v w ≡ u)). subst (λ (q : ℕ × View). Fits world kept.history glued_owner q.0 q.1) (λ i. (sym y.0 i, y.1 i)) joined_fits)
      (λ (y : (j ≢ id) × (get_elem? s.views j ≡ some u)). λ k x e. let fit = kept.seats j u y.1 k x e in moved world kept.history kept.owner glued_owner u u j k j k x fit refl (glue_same j k (kept.owner (name_of x.part)) fit.one z.0))
      (at_set s.views id j (joined v w) u z.1))
      (at_set (set s.views id (joined v w)) other j spent u is)

  at_joined : get_elem? glued_views id ≡ some (joined v w)
  at_joined = set_else (set s.views id (joined v w)) other id spent (λ q. apart (sym q)) ∙ set_here s.views id (joined v w) (at_length s.views id v at)

  -- a member goes where its place is glued to
  glue_at : (p : ℕ × ℕ) (x : Member) → IsAt s.views p x → IsAt glued_views (glue p) x
  glue_at p x t = ⊎_elim mine (λ (ne : p.0 ≡ id → ⊥). ⊎_elim theirs (others ne) (cases_eq p.0 other)) (cases_eq p.0 id)
    where
      mine : p.0 ≡ id → IsAt glued_views (glue p) x
      mine same =
          let own = some-injective v t.0 (sym at ∙ ap (λ i. get_elem? s.views i) (sym same) ∙ t.1) in
          let there' = ap (λ (u : View). get_elem? u.members p.1) own ∙ t.2 in
          subst (λ q. IsAt glued_views q x) (sym (glue_same id p.1 p (place_is p id same) (λ q. apart (sym q)))) (joined v w, at_joined, at_append_left v.members w.members p.1 x there')

      theirs : p.0 ≡ other → IsAt glued_views (glue p) x
      theirs same =
          let own = some-injective w t.0 (sym there ∙ ap (λ i. get_elem? s.views i) (sym same) ∙ t.1) in
          let there' = ap (λ (u : View). get_elem? u.members p.1) own ∙ t.2 in
          subst (λ q. IsAt glued_views q x) (sym (glue_other p.1 p (place_is p other same))) (joined v w, at_joined, at_append_right v.members w.members p.1 ∙ there')

      others : (p.0 ≡ id → ⊥) → (p.0 ≡ other → ⊥) → IsAt glued_views (glue p) x
      others ne far = subst (λ q. IsAt glued_views q x) (sym (glue_same p.0 p.1 p refl far)) (t.0, set_else (set s.views id (joined v w)) other p.0 spent far ∙ set_else s.views id p.0 (joined v w) ne ∙ t.1, t.2)

  glued_seen : IsSeen kept.history s.views → IsSeen kept.history glued_views
  glued_seen t = (glue t.0, t.1, glue_at t.0 t.1 t.2, t.3)

  glued_there : HasAll world glued_views glued_owner
  glued_there n of = let t = kept.there n of in (t.0, glue_at (kept.owner n) t.0 t.1, t.2)

  pub joins_at : RowRule world (record { words = s.words; homes = s.homes; views = set (set s.views id (joined v w)) other spent })
  joins_at = record {
    history = kept.history;
    owner = glued_owner;
    few = kept.few;
    legal = kept.legal;
    callers = kept.callers;
    whole = ⊎_elim (λ (none_yet : kept.history ≡ []). inl none_yet) (λ (t : IsSeen kept.history s.views). inr (glued_seen t)) kept.whole;
    seats = glued_fits;
    there = glued_there;
    wide = kept.wide;
    spare = kept.spare;
    words = kept.words;
  }

-- a seat of one member takes another in
pub joins : (world : World) (id other : ℕ) (v w : View) (x : Part) → IsOne v x → Joins (RowRule world) id v other w (joined v w) spent
joins world id other v w x single s kept at apart there =
    joins_at world s kept id v at (move.fits_one world s kept id v x single at).same_world other w apart (sym (set_else s.views id other (joined v w) apart) ∙ there)

-- all members of a view have seen the whole history
abbrev pub caught_up : List SeatAnswer → List Member → List Member
caught_up log [] = []
caught_up log (x ∷ xs) = member x.part log ∷ caught_up log xs

at_caught_up : (log : List SeatAnswer) (l : List Member) (k : ℕ) (y : Member) → get_elem? (caught_up log l) k ≡ some y → (x : Member) × (get_elem? l k ≡ some x) × (member x.part log ≡ y)
at_caught_up log [] k y e = absurd (some-ne-none y (sym e))
at_caught_up log (x ∷ xs) zero y e = (x, refl, some-injective (member x.part log) y e)
at_caught_up log (x ∷ xs) (suc k) y e = at_caught_up log xs k y e

caught_up_at : (log : List SeatAnswer) (l : List Member) (k : ℕ) (x : Member) → get_elem? l k ≡ some x → get_elem? (caught_up log l) k ≡ some (member x.part log)
caught_up_at log [] k x e = absurd (some-ne-none x (sym e))
caught_up_at log (y ∷ ys) zero x e = ap (λ (z : Member). some (member z.part log)) (some-injective y x e)
caught_up_at log (y ∷ ys) (suc k) x e = caught_up_at log ys k x e

module _ (world : World) (s : move.St) (kept : RowRule world s) (id : ℕ) (v : View) (at : get_elem? s.views id ≡ some v) where
  abbrev pub now : View
  now = record { world = v.world; members = caught_up kept.history v.members }

  now_fits : Fits world kept.history kept.owner id now
  now_fits k y e =
      let x = at_caught_up kept.history v.members k y e in
      let fit = kept.seats id v at k x.0 x.1 in
      subst (λ (z : Member). FitsMember world kept.history kept.owner now id k z) x.2 (record {
        same_world = fit.same_world;
        begins = ([], sym (append-nil kept.history));
        own = refl;
        agrees = fit.agrees;
        one = fit.one;
      })

  -- each member stands where it stood, and has seen no less
  now_at : (p : ℕ × ℕ) (x : Member) → IsAt s.views p x → (y : Member) × IsAt (set s.views id now) p y × (y.part ≡ x.part) × (x.seen ≡ kept.history → y.seen ≡ kept.history)
  now_at p x t = ⊎_elim
      (λ (same : p.0 ≡ id).
      let own = some-injective v t.0 (sym at ∙ ap (λ i. get_elem? s.views i) (sym same) ∙ t.1) in (
        member x.part kept.history,
        (now, ap (λ i. get_elem? (set s.views id now) i) same ∙ set_here s.views id now (at_length s.views id v at), caught_up_at kept.history v.members p.1 x (ap (λ (u : View). get_elem? u.members p.1) own ∙ t.2)),
        refl,
        λ _. refl,
      ))
      (λ (ne : p.0 ≡ id → ⊥). (x, (t.0, set_else s.views id p.0 now ne ∙ t.1, t.2), refl, λ e. e))
      (cases_eq p.0 id)

  now_seen : IsSeen kept.history s.views → IsSeen kept.history (set s.views id now)
  now_seen t = let y = now_at t.0 t.1 t.2 in (t.0, y.0, y.1, y.3 t.3)

  now_there : HasAll world (set s.views id now) kept.owner
  now_there n of = let t = kept.there n of in let y = now_at (kept.owner n) t.0 t.1 in (y.0, y.1, ap name_of y.2 ∙ t.2)

  pub hears : (i : ℕ) (c : List (ℕ × Unit {0})) → RowRule world (stepped s i (get_or s.words i 0) id c now keeps)
  hears i c = subst (λ (l : List ℕ). RowRule world (record { words = l; homes = s.homes; views = set s.views id now })) (sym (move.same_words s.words i)) (record {
    history = kept.history;
    owner = kept.owner;
    few = kept.few;
    legal = kept.legal;
    callers = kept.callers;
    whole = ⊎_elim (λ (none_yet : kept.history ≡ []). inl none_yet) (λ (t : IsSeen kept.history s.views). inr (now_seen t)) kept.whole;
    seats = λ j u is. ⊎_elim
        (λ (z : (j ≡ id) × (now ≡ u)). subst (λ (q : ℕ × View). Fits world kept.history kept.owner q.0 q.1) (λ i. (sym z.0 i, z.1 i)) now_fits)
        (λ (z : (j ≢ id) × (get_elem? s.views j ≡ some u)). kept.seats j u z.1)
        (at_set s.views id j now u is);
    there = now_there;
    wide = kept.wide;
    spare = kept.spare;
    words = kept.words;
  })

pub pair_of : (v w : View) → IsLeaf v → IsLeaf w → IsPair (joined v w) (worker_of v) (counts_of v) (seen_of v) (worker_of w) (counts_of w) (seen_of w)
pair_of v w one two = λ i. one i ++ two i

pub paired_two : (v w u : View) → Paired v w u → IsTwo u
paired_two v w u p = (worker_of v, counts_of v, p.0, worker_of w, counts_of w, p.0, p.1)

pub first_leaf : (v : View) → IsTwo v → IsLeaf (first_member v)
first_leaf v t = leaf_parts (first_member v) t.0 t.1 (let P : List Member → Type 0 = λ ms. first_of ms ≡ member (part_is.Leaf t.0 t.1) (seen_in (first_of ms)) ∷ [] in subst P (sym t.6) refl)

pub second_leaf : (v : View) → IsTwo v → IsLeaf (other_members v)
second_leaf v t = leaf_parts (other_members v) t.3 t.4 (let P : List Member → Type 0 = λ ms. rest_of ms ≡ member (part_is.Leaf t.3 t.4) (seen_in (rest_of ms)) ∷ [] in subst P (sym t.6) refl)
