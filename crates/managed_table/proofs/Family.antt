-- Where passes come from: before and after their places change, and where a further one comes.
use Rattle.std.proofs.Common.{◌≡◌, ◌≢◌, ◌⊎◌, ℕ, ◌+◌, ◌-◌, ◌<◌, ◌≤◌, Bool, true, false, List, [], ◌∷◌, ◌++◌, length, set, refl, sym, ap, ◌∙◌, subst, inl, inr, arith, length-set}
use Rattle.std.proofs.lemmas.Bool.{false≢true, cases_eq}
use mathlib.Core.Option.{some, some-ne-none, some-injective}
use lib.ListN.{get_elem?}
use Rattle.atomic_table.proofs.Lists.{set_here, set_else, at_last}
use Rattle.root_row.proofs.Replay.{at_length}
use Rattle.managed_table.specs.declared.view.Pass.{Pass}
use Rattle.managed_table.specs.declared.view.Passes.{Passes}
use Rattle.managed_table.specs.Locks.{Place, pass_in, pass_at, Stands, IsListed, AreOneFamily}
use Rattle.managed_table.specs.Turns.{PassName, alone, with_further, without_further, further_of}
use Rattle.managed_table.proofs.Places.{same_place, at_alone, place_here, place_else, place_set, place_longer, place_new}

abbrev is_empty : PassName → Bool
is_empty [] = true
is_empty (k ∷ name) = false

not_empty : (k : ℕ) (name : PassName) → [] ≡ k ∷ name → ⊥
not_empty k name e = false≢true (sym (ap is_empty e))

-- a pass that is known by the same name, and lists as many
pub record SameKin (p q : Pass) : Type 0 where
  pub name : q.name ≡ p.name
  pub further : q.further ≡ p.further

-- a pass is still there, and lists no fewer
pub record StillStands (views' : List Passes) (p : Pass) : Type 0 where
  pub place : Place
  pub pass : Pass
  pub at : pass_at views' place ≡ some pass
  pub name : pass.name ≡ p.name
  pub further : p.further ≤ pass.further

module _ (views views' : List Passes) (there : (y : Place) (p : Pass) → pass_at views y ≡ some p → StillStands views' p) where
  pub still_stands : (name : PassName) → Stands views name → Stands views' name
  still_stands name s = let t = there s.place s.pass s.at in record { place = t.place; pass = t.pass; at = t.at; is = t.name ∙ s.is }

  pub still_listed : (name : PassName) → IsListed views name → IsListed views' name
  still_listed [] listed = tt
  still_listed (k ∷ name) listed =
      let s = listed.0 in
      let t = there s.place s.pass s.at in
      (record { place = t.place; pass = t.pass; at = t.at; is = t.name ∙ s.is }, (let a = listed.1 in let b = t.further in omega arith))

-- passes move to other places, and nothing else changes
module _ (views views' : List Passes) (f : Place → Place)
    (back : (z : Place) (q : Pass) → pass_at views' z ≡ some q → (y : Place) × (p : Pass) × (f y ≡ z) × (pass_at views y ≡ some p) × SameKin p q)
    (there : (y : Place) (p : Pass) → pass_at views y ≡ some p → StillStands views' p)
    (family : AreOneFamily views) where
  pub moved_family : AreOneFamily views'
  moved_family = record {
    first = still_stands views views' there [] family.first;
    listed = λ z q at. let b = back z q at in subst (IsListed views') (sym b.4.name) (still_listed views views' there b.1.name (family.listed b.0 b.1 b.3));
    stand = λ z q k at lt. let b = back z q at in
        subst (λ (n : PassName). Stands views' (k ∷ n)) (sym b.4.name)
        (still_stands views views' there (k ∷ b.1.name) (family.stand b.0 b.1 k b.3 (subst (λ n. k < n) b.4.further lt)));
    once = λ z y p q at at' same. let a = back z p at in let b = back y q at' in
        sym a.2 ∙ ap f (family.once a.0 b.0 a.1 b.1 a.3 b.3 (sym a.4.name ∙ same ∙ b.4.name)) ∙ b.2;
  }

-- one pass changes, and keeps its name and what it lists
module _ (views : List Passes) (id : ℕ) (v v' : Pass) (at : get_elem? views id ≡ some (alone v)) (kin : SameKin v v') where
  set_back : (z : Place) (q : Pass) → pass_at (set views id (alone v')) z ≡ some q → (y : Place) × (p : Pass) × (y ≡ z) × (pass_at views y ≡ some p) × SameKin p q
  set_back z q there = elim (place_set views id v v' z q at there) [
    | inl here ↦ ((id, 0), v, sym here.0, ap (λ o. pass_in o 0) at, subst (SameKin v) here.1 kin)
    | inr away ↦ (z, q, refl, away.1, record { name = refl; further = refl })
  ]

  set_there : (y : Place) (p : Pass) → pass_at views y ≡ some p → StillStands (set views id (alone v')) p
  set_there y p there = elim (same_place y (id, 0)) [
    | inl here ↦ (
        let is : v ≡ p = some-injective v p (sym (ap (λ o. pass_in o 0) at) ∙ ap (pass_at views) (sym here) ∙ there) in
        subst (StillStands (set views id (alone v'))) is
        (record { place = (id, 0); pass = v'; at = place_here views id v v' at; name = kin.name; further = let e = kin.further in omega arith }))
    | inr away ↦ record { place = y; pass = p; at = place_else views id v v' y p at away there; name = refl; further = omega arith }
  ]

  pub set_family : AreOneFamily views → AreOneFamily (set views id (alone v'))
  set_family family = moved_family views (set views id (alone v')) (λ z. z) set_back set_there family

-- a further pass comes from one, which lists it
module _ (views : List Passes) (id : ℕ) (v : Pass) (at : get_elem? views id ≡ some (alone v)) where
  abbrev pub grown : List Passes
  grown = set views id (alone (with_further v)) ++ alone (further_of v) ∷ []

  abbrev pub last_place : Place
  last_place = (length views, 0)

  at_id : pass_at views (id, 0) ≡ some v
  at_id = ap (λ o. pass_in o 0) at

  -- the parent is now at its place, and so is each other pass that was there
  pub grown_here : pass_at grown (id, 0) ≡ some (with_further v)
  grown_here = place_longer (set views id (alone (with_further v))) (alone (further_of v) ∷ []) (id, 0) (with_further v) (place_here views id v (with_further v) at)

  pub grown_else : (z : Place) (p : Pass) → z ≢ (id, 0) → pass_at views z ≡ some p → pass_at grown z ≡ some p
  grown_else z p away there = place_longer (set views id (alone (with_further v))) (alone (further_of v) ∷ []) z p (place_else views id v (with_further v) z p at away there)

  grown_last : pass_at grown last_place ≡ some (further_of v)
  grown_last = ap (λ o. pass_in o 0) (at_last (set views id (alone (with_further v))) (alone (further_of v)) (length views) (length-set views id (alone (with_further v))))

  -- a pass is the parent, or one that was there, or the further one
  pub grown_back : (z : Place) (q : Pass) → pass_at grown z ≡ some q → ((z ≡ (id, 0)) × (with_further v ≡ q)) ⊎ ((z ≢ (id, 0)) × (pass_at views z ≡ some q)) ⊎ ((z ≡ last_place) × (further_of v ≡ q))
  grown_back z q there = elim (place_new (set views id (alone (with_further v))) (further_of v) z q there) [
    | inl before ↦ (elim (place_set views id v (with_further v) z q at before) [
      | inl here ↦ inl here
      | inr away ↦ inr (inl away)
    ])
    | inr last ↦ inr (inr (last.0 ∙ ap (λ n. (n, 0)) (length-set views id (alone (with_further v))), last.1))
  ]

  -- a pass was there by its name, or it is the further one
  known_back : (z : Place) (q : Pass) → pass_at grown z ≡ some q → ((p : Pass) × (pass_at views z ≡ some p) × (q.name ≡ p.name)) ⊎ ((z ≡ last_place) × (further_of v ≡ q))
  known_back z q there = elim (grown_back z q there) [
    | inl here ↦ inl (v, ap (pass_at views) here.0 ∙ at_id, ap (λ (p : Pass). p.name) (sym here.1))
    | inr other ↦ (elim other [
      | inl away ↦ inl (q, away.1, refl)
      | inr last ↦ inr last
    ])
  ]

  grown_there : (y : Place) (p : Pass) → pass_at views y ≡ some p → StillStands grown p
  grown_there y p there = elim (same_place y (id, 0)) [
    | inl here ↦ (
        let is : v ≡ p = some-injective v p (sym at_id ∙ ap (pass_at views) (sym here) ∙ there) in
        subst (StillStands grown) is (record { place = (id, 0); pass = with_further v; at = grown_here; name = refl; further = omega arith }))
    | inr away ↦ record { place = y; pass = p; at = grown_else y p away there; name = refl; further = omega arith }
  ]

  module _ (family : AreOneFamily views) where
    -- no pass had the further one's name
    unheard : (y : Place) (p : Pass) → pass_at views y ≡ some p → p.name ≡ v.further ∷ v.name → ⊥
    unheard y p there same =
        let listed : IsListed views (v.further ∷ v.name) = subst (IsListed views) same (family.listed y p there) in
        let place : listed.0.place ≡ (id, 0) = family.once listed.0.place (id, 0) listed.0.pass v listed.0.at at_id listed.0.is in
        let is : listed.0.pass ≡ v = some-injective listed.0.pass v (sym listed.0.at ∙ ap (pass_at views) place ∙ at_id) in
        let as_many : listed.0.pass.further ≡ v.further = ap (λ (q : Pass). q.further) is in
        let less : v.further < listed.0.pass.further = listed.1 in
        absurd (omega arith)

    grown_listed : (z : Place) (q : Pass) → pass_at grown z ≡ some q → IsListed grown q.name
    grown_listed z q there = elim (known_back z q there) [
      | inl old ↦ subst (IsListed grown) (sym old.2) (still_listed views grown grown_there old.0.name (family.listed z old.0 old.1))
      | inr last ↦ subst (λ (p : Pass). IsListed grown p.name) last.1 (record { place = (id, 0); pass = with_further v; at = grown_here; is = refl }, omega arith)
    ]

    stands_for : (k : ℕ) → k < v.further + 1 → Stands grown (k ∷ v.name)
    stands_for k lt = elim (cases_eq k v.further) [
      | inl new ↦ record { place = last_place; pass = further_of v; at = grown_last; is = ap (λ n. n ∷ v.name) (sym new) }
      | inr old ↦ still_stands views grown grown_there (k ∷ v.name) (family.stand (id, 0) v k at_id (omega arith))
    ]

    grown_stand : (z : Place) (q : Pass) (k : ℕ) → pass_at grown z ≡ some q → k < q.further → Stands grown (k ∷ q.name)
    grown_stand z q k there lt = elim (grown_back z q there) [
      | inl here ↦ subst (λ (p : Pass). k < p.further → Stands grown (k ∷ p.name)) here.1 (stands_for k) lt
      | inr other ↦ (elim other [
        | inl away ↦ still_stands views grown grown_there (k ∷ q.name) (family.stand z q k away.1 lt)
        | inr last ↦ (let none : k < 0 = subst (λ (p : Pass). k < p.further) (sym last.1) lt in absurd (omega arith))
      ])
    ]

    grown_once : (z y : Place) (p q : Pass) → pass_at grown z ≡ some p → pass_at grown y ≡ some q → p.name ≡ q.name → z ≡ y
    grown_once z y p q there there' same = elim (known_back z p there) [
      | inl old ↦ (elim (known_back y q there') [
        | inl old' ↦ family.once z y old.0 old'.0 old.1 old'.1 (sym old.2 ∙ same ∙ old'.2)
        | inr last ↦ absurd (unheard z old.0 old.1 (sym old.2 ∙ same ∙ ap (λ (u : Pass). u.name) (sym last.1)))
      ])
      | inr last ↦ (elim (known_back y q there') [
        | inl old' ↦ absurd (unheard y old'.0 old'.1 (sym old'.2 ∙ sym same ∙ ap (λ (u : Pass). u.name) (sym last.1)))
        | inr last' ↦ last.0 ∙ sym last'.0
      ])
    ]

    pub grown_family : AreOneFamily grown
    grown_family = record {
      first = still_stands views grown grown_there [] family.first;
      listed = grown_listed;
      stand = grown_stand;
      once = grown_once;
    }

pub gone_back : (p : Pass) → without_further (with_further p) ≡ p
gone_back p = let one : p.further + 1 - 1 ≡ p.further = omega arith in ap (λ (n : ℕ). record { row = p.row; name = p.name; further = n; taken = p.taken; turns = p.turns; missed = p.missed }) one

-- the last further pass goes back to the one that it came from
module _ (views : List Passes) (id other : ℕ) (v : Pass) (apart : other ≢ id) (at : get_elem? views id ≡ some (alone (with_further v))) (there : get_elem? views other ≡ some (alone (further_of v))) where
  abbrev pub shrunk : List Passes
  shrunk = set (set views id (alone v)) other (record { passes = [] })

  at_parent : pass_at views (id, 0) ≡ some (with_further v)
  at_parent = ap (λ o. pass_in o 0) at

  at_child : pass_at views (other, 0) ≡ some (further_of v)
  at_child = ap (λ o. pass_in o 0) there

  pub shrunk_here : pass_at shrunk (id, 0) ≡ some v
  shrunk_here = ap (λ o. pass_in o 0) (set_else (set views id (alone v)) other id (record { passes = [] }) (λ e. apart (sym e))) ∙ place_here views id (with_further v) v at

  pub shrunk_else : (z : Place) (p : Pass) → z ≢ (id, 0) → z.0 ≢ other → pass_at views z ≡ some p → pass_at shrunk z ≡ some p
  shrunk_else z p away far is = ap (λ o. pass_in o z.1) (set_else (set views id (alone v)) other z.0 (record { passes = [] }) far) ∙ place_else views id (with_further v) v z p at away is

  -- each pass is the parent, or one that was there and is not the further one
  pub shrunk_back : (z : Place) (q : Pass) → pass_at shrunk z ≡ some q → (z.0 ≢ other) × (((z ≡ (id, 0)) × (v ≡ q)) ⊎ ((z ≢ (id, 0)) × (pass_at views z ≡ some q)))
  shrunk_back z q is = elim (cases_eq z.0 other) [
    | inl same ↦ absurd (some-ne-none q (sym (sym (ap (λ o. pass_in o z.1) (ap (get_elem? shrunk) same ∙ set_here (set views id (alone v)) other (record { passes = [] }) (subst (λ n. other < n) (sym (length-set views id (alone v))) (at_length views other (alone (further_of v)) there)))) ∙ is)))
    | inr far ↦ (far, place_set views id (with_further v) v z q at (sym (ap (λ o. pass_in o z.1) (set_else (set views id (alone v)) other z.0 (record { passes = [] }) far)) ∙ is))
  ]

  -- a pass was there by its name, listing no fewer
  shrunk_known : (z : Place) (q : Pass) → pass_at shrunk z ≡ some q → (p : Pass) × (pass_at views z ≡ some p) × (q.name ≡ p.name)
  shrunk_known z q is = elim (shrunk_back z q is).1 [
    | inl here ↦ (with_further v, ap (pass_at views) here.0 ∙ at_parent, ap (λ (p : Pass). p.name) (sym here.1))
    | inr away ↦ (q, away.1, refl)
  ]

  -- a pass in the further one's seat is that one
  pub is_child : (z : Place) (p : Pass) → z.0 ≡ other → pass_at views z ≡ some p → further_of v ≡ p
  is_child z p same is = (at_alone (further_of v) p z.1 (sym (ap (λ o. pass_in o z.1) (ap (get_elem? views) same ∙ there)) ∙ is)).1

  module _ (family : AreOneFamily views) where
    -- what stood there still does, but the further one
    still_there : (name : PassName) → (name ≡ v.further ∷ v.name → ⊥) → Stands views name → Stands shrunk name
    still_there name other_name s = elim (cases_eq s.place.0 other) [
      | inl same ↦ absurd (other_name (sym s.is ∙ ap (λ (p : Pass). p.name) (sym (is_child s.place s.pass same s.at))))
      | inr far ↦ (elim (same_place s.place (id, 0)) [
        | inl here ↦ (
            let is : with_further v ≡ s.pass = some-injective (with_further v) s.pass (sym at_parent ∙ ap (pass_at views) (sym here) ∙ s.at) in
            record { place = (id, 0); pass = v; at = shrunk_here; is = ap (λ (p : Pass). p.name) is ∙ s.is })
        | inr away ↦ record { place = s.place; pass = s.pass; at = shrunk_else s.place s.pass away far s.at; is = s.is }
      ])
    ]

    -- a pass that is left is not the further one
    not_child : (z : Place) (q : Pass) → pass_at shrunk z ≡ some q → q.name ≡ v.further ∷ v.name → ⊥
    not_child z q is same =
        let k = shrunk_known z q is in
        (shrunk_back z q is).0 (ap (λ (x : Place). x.0) (family.once z (other, 0) k.0 (further_of v) k.1 at_child (sym k.2 ∙ same)))

    listed_by : (name : PassName) → (name ≡ v.further ∷ v.name → ⊥) → IsListed views name → IsListed shrunk name
    listed_by [] other_name listed = tt
    listed_by (k ∷ name) other_name listed =
        let s = listed.0 in
        elim (cases_eq s.place.0 other) [
          | inl same ↦ (let none : k < 0 = subst (λ (p : Pass). k < p.further) (sym (is_child s.place s.pass same s.at)) listed.1 in absurd (omega arith))
          | inr far ↦ (elim (same_place s.place (id, 0)) [
            | inl here ↦ (
                let is : with_further v ≡ s.pass = some-injective (with_further v) s.pass (sym at_parent ∙ ap (pass_at views) (sym here) ∙ s.at) in
                let named : v.name ≡ name = ap (λ (p : Pass). p.name) is ∙ s.is in
                let below : k < v.further + 1 = subst (λ (p : Pass). k < p.further) (sym is) listed.1 in
                elim (cases_eq k v.further) [
                  | inl last ↦ absurd (other_name (ap (λ n. n ∷ name) last ∙ ap (λ (l : PassName). v.further ∷ l) (sym named)))
                  | inr less ↦ (record { place = (id, 0); pass = v; at = shrunk_here; is = named }, omega arith)
                ])
            | inr away ↦ (record { place = s.place; pass = s.pass; at = shrunk_else s.place s.pass away far s.at; is = s.is }, listed.1)
          ])
        ]

    abbrev head_of : ℕ → PassName → ℕ
    head_of d [] = d
    head_of d (k ∷ name) = k

    abbrev rest_of : PassName → PassName
    rest_of [] = []
    rest_of (k ∷ name) = name

    shrunk_stand : (z : Place) (q : Pass) (k : ℕ) → pass_at shrunk z ≡ some q → k < q.further → Stands shrunk (k ∷ q.name)
    shrunk_stand z q k is lt = elim (shrunk_back z q is).1 [
      | inl here ↦
          let less : k < v.further = subst (λ (p : Pass). k < p.further) (sym here.1) lt in
          subst (λ (p : Pass). Stands shrunk (k ∷ p.name)) here.1
          (still_there (k ∷ v.name) (λ e. let same : k ≡ v.further = ap (head_of 0) e in absurd (omega arith)) (family.stand (id, 0) (with_further v) k at_parent (omega arith)))
      | inr away ↦ still_there (k ∷ q.name) (λ e. away.0 (family.once z (id, 0) q (with_further v) away.1 at_parent (ap rest_of e))) (family.stand z q k away.1 lt)
    ]

    pub shrunk_family : AreOneFamily shrunk
    shrunk_family = record {
      first = still_there [] (λ e. not_empty v.further v.name e) family.first;
      listed = λ z q is. let k = shrunk_known z q is in
          subst (IsListed shrunk) (sym k.2) (listed_by k.0.name (λ e. not_child z q is (k.2 ∙ e)) (family.listed z k.0 k.1));
      stand = shrunk_stand;
      once = λ z y p q at_p at_q same. let k = shrunk_known z p at_p in let l = shrunk_known y q at_q in
          family.once z y k.0 l.0 k.1 l.1 (sym k.2 ∙ same ∙ l.2);
    }
