-- What a graph is read to: all that its module reaches.
use Rattle.std.proofs.Common.{◌≡◌, ℕ, zero, suc, ◌+◌, ◌<◌, ◌⊎◌, Bool, true, false, ◌&&◌, ◌||◌, List, [], ◌∷◌, ◌++◌, length, drop, get_or, set, length-set, replicate, inl, inr, refl, sym, ◌∙◌, ap, arith}
use Rattle.std.specs.List.{list_all, sum_by}
use Rattle.std.proofs.lemmas.Bool.Decides.{eqb_tells}
use Rattle.std.proofs.lemmas.List.{at_drop_more, get_or-set_same, get_or-set_other, length-append, length-replicate}
use Rattle.std.proofs.lemmas.List.Sums.{sum_by-set}
use Rattle.load_plan.specs.declared.graph.Target.{Target}
use Rattle.load_plan.specs.declared.graph.Target.TheVariants.{Slot, Missing}
use Rattle.load_plan.specs.Graph.{Node, node_at, no_node, names_within, is_bounded}
use Rattle.load_plan.specs.Walk.{has}
use Rattle.load_plan.specs.Parts.{is_target_in, names_in, IsPart, known_at, unknown, cost, AreClosed, Adds}
use Rattle.load_plan.proofs.Lists.{and_true, and_makes, has-append, has-last_same, has-last_other}

pub adds-none : (known : List Bool) (left : List ℕ) → Adds known left known left
adds-none known left = record {
  long = refl;
  grows = λ m h. h;
  stays = λ m h. h;
  comes = λ m h. inl h;
  among = λ m h. inl h;
  ends = omega arith;
}

pub adds-both : {known more most : List Bool} {left behind last : List ℕ} → Adds known left more behind → Adds more behind most last → Adds known left most last
adds-both {known} {more} {most} {left} {behind} {last} a b = record {
  long = b.long ∙ a.long;
  grows = λ m h. b.grows m (a.grows m h);
  stays = λ m h. b.stays m (a.stays m h);
  comes = λ m h. elim (b.comes m h) [
    | inl k ↦ elim (a.comes m k) [ inl j ↦ inl j | inr j ↦ inr (b.stays m j) ]
    | inr k ↦ inr k
  ];
  among = λ m h. elim (b.among m h) [
    | inl k ↦ elim (a.among m k) [ inl j ↦ inl j | inr j ↦ inr (b.grows m j) ]
    | inr k ↦ inr k
  ];
  ends = omega (arith, a.ends, b.ends);
}

known-same : (known : List Bool) (slot : ℕ) → slot < length known → known_at (set known slot true) slot ≡ true
known-same known slot within = get_or-set_same known slot true false within

known-other : (known : List Bool) (slot m : ℕ) → (m ≡ slot → ⊥) → known_at (set known slot true) m ≡ known_at known m
known-other known slot m other = get_or-set_other known slot m true false other

-- a module more is known, and left
pub adds-one : (known : List Bool) (left : List ℕ) (slot : ℕ) → slot < length known → known_at known slot ≡ false → Adds known left (set known slot true) (left ++ slot ∷ [])
adds-one known left slot within new = record {
  long = length-set known slot true;
  grows = λ m h. elim (eqb_tells m slot) [
    | inl t ↦ ap (known_at (set known slot true)) t.1 ∙ known-same known slot within
    | inr t ↦ known-other known slot m t.1 ∙ h
  ];
  stays = λ m h. has-append left (slot ∷ []) m ∙ ap (λ b. b || has (slot ∷ []) m) h;
  comes = λ m h. elim (eqb_tells m slot) [
    | inl t ↦ inr (has-last_same left slot m t.1)
    | inr t ↦ inl (sym (known-other known slot m t.1) ∙ h)
  ];
  among = λ m h. elim (eqb_tells m slot) [
    | inl t ↦ inr (ap (known_at (set known slot true)) t.1 ∙ known-same known slot within)
    | inr t ↦ inl (sym (has-last_other left slot m t.0) ∙ h)
  ];
  ends =
      let sums : sum_by unknown (set known slot true) + unknown (known_at known slot) ≡ sum_by unknown known + 0 = sum_by-set unknown known slot true false within in
      let one : unknown (known_at known slot) ≡ 1 = ap unknown new in
      let longer : length (left ++ slot ∷ []) ≡ length left + 1 = length-append left (slot ∷ []) in
      omega (arith, sums, one, longer);
}

-- targets that are known stay so
pub targets_grow : (p q : ℕ → Bool) → ((m : ℕ) → p m ≡ true → q m ≡ true) → (ts : List Target) → list_all (is_target_in p) ts ≡ true → list_all (is_target_in q) ts ≡ true
targets_grow p q grows [] h = refl
targets_grow p q grows (Slot m ∷ ts) h =
    let both : (p m ≡ true) × (list_all (is_target_in p) ts ≡ true) = and_true (p m) (list_all (is_target_in p) ts) h in
    and_makes (q m) (list_all (is_target_in q) ts) (grows m both.0) (targets_grow p q grows ts both.1)
targets_grow p q grows (Missing name ∷ ts) h = targets_grow p q grows ts h

-- the target at a place is known, as those after it are
pub targets-from : (known more : List Bool) (ts : List Target) (i : ℕ) (t : Target) → i < length ts → t ≡ get_or ts i t → ((m : ℕ) → known_at known m ≡ true → known_at more m ≡ true) → is_target_in (known_at more) t ≡ true → list_all (is_target_in (known_at known)) (drop (i + 1) ts) ≡ true → list_all (is_target_in (known_at more)) (drop i ts) ≡ true
targets-from known more ts i t within at grows here after =
    at_drop_more (list_all (is_target_in (known_at more))) ts i t within
    ∙ and_makes (is_target_in (known_at more) (get_or ts i t)) (list_all (is_target_in (known_at more)) (drop (i + 1) ts)) (ap (is_target_in (known_at more)) (sym at) ∙ here) (targets_grow (known_at known) (known_at more) grows (drop (i + 1) ts) after)

pub names_grow : (p q : ℕ → Bool) → ((m : ℕ) → p m ≡ true → q m ≡ true) → (node : Node) → names_in p node ≡ true → names_in q node ≡ true
names_grow p q grows node h =
    let two : ((list_all (is_target_in p) node.hard && list_all (is_target_in p) node.pre) ≡ true) × (list_all (is_target_in p) node.post ≡ true) = and_true (list_all (is_target_in p) node.hard && list_all (is_target_in p) node.pre) (list_all (is_target_in p) node.post) h in
    let one : (list_all (is_target_in p) node.hard ≡ true) × (list_all (is_target_in p) node.pre ≡ true) = and_true (list_all (is_target_in p) node.hard) (list_all (is_target_in p) node.pre) two.0 in
    and_makes (list_all (is_target_in q) node.hard && list_all (is_target_in q) node.pre) (list_all (is_target_in q) node.post)
    (and_makes (list_all (is_target_in q) node.hard) (list_all (is_target_in q) node.pre) (targets_grow p q grows node.hard one.0) (targets_grow p q grows node.pre one.1))
    (targets_grow p q grows node.post two.1)

-- What the loop keeps: a module that is known is left, or its node was read, and all that it names is known.
pub record Reaching (w : List Node) (nodes : List Node) (known : List Bool) (left : List ℕ) : Type 0 where
  pub long : length nodes ≡ length w
  pub known_long : length known ≡ length w
  pub among : (m : ℕ) → has left m ≡ true → known_at known m ≡ true
  pub settled : (m : ℕ) → known_at known m ≡ true → (has left m ≡ true) ⊎ ((node_at nodes m ≡ node_at w m) × (names_in (known_at known) (node_at w m) ≡ true))
  pub bounded : list_all (names_within (length w)) nodes ≡ true

-- who is known is a module of the graph
pub known_within : (known : List Bool) (m : ℕ) → known_at known m ≡ true → m < length known
known_within [] m h = absurd (cc)
known_within (b ∷ bs) zero h = omega arith
known_within (b ∷ bs) (suc m) h = let k : m < length bs = known_within bs m h in omega arith

-- what a flag says of a module
pub known_from : (known : List Bool) (m : ℕ) (flag : Bool) → m < length known → flag ≡ get_or known m flag → flag ≡ true → known_at known m ≡ true
known_from [] m flag within is h = absurd (omega arith)
known_from (b ∷ bs) zero flag within is h = sym is ∙ h
known_from (b ∷ bs) (suc m) flag within is h = known_from bs m flag (omega arith) is h

pub none_known : (n m : ℕ) → known_at (replicate n false) m ≡ false
none_known zero m = refl
none_known (suc n) zero = refl
none_known (suc n) (suc m) = none_known n m

empty_within : (n k : ℕ) → list_all (names_within n) (replicate k no_node) ≡ true
empty_within n zero = refl
empty_within n (suc k) = empty_within n k

pub Reaching-begin : (w : List Node) (n : ℕ) (nodes : List Node) (more : List Bool) (behind : List ℕ) → n ≡ length w → nodes ≡ replicate n no_node → Adds (replicate n false) [] more behind → Reaching w nodes more behind
Reaching-begin w n nodes more behind all empty adds = record {
  long = ap length empty ∙ length-replicate n no_node ∙ all;
  known_long = adds.long ∙ length-replicate n false ∙ all;
  among = λ m h. elim (adds.among m h) [ inl k ↦ absurd (cc) | inr k ↦ k ];
  settled = λ m h. elim (adds.comes m h) [
    | inl k ↦ (let no : known_at (replicate n false) m ≡ false = none_known n m in absurd (cc))
    | inr k ↦ inl k
  ];
  bounded = ap (list_all (names_within (length w))) empty ∙ empty_within (length w) n;
}

-- what is left is known
pub Reaching-slot : {w : List Node} {nodes : List Node} {known : List Bool} (left : List ℕ) (slot : ℕ) → Reaching w nodes known (left ++ slot ∷ []) → slot < length w
Reaching-slot {w} {nodes} {known} left slot r =
    let k : slot < length known = known_within known slot (r.among slot (has-last_same left slot slot refl)) in
    omega (arith, k, r.known_long)

all-set : (p : Node → Bool) (nodes : List Node) (m : ℕ) (node : Node) → list_all p nodes ≡ true → p node ≡ true → list_all p (set nodes m node) ≡ true
all-set p [] m node h k = refl
all-set p (x ∷ xs) zero node h k = and_makes (p node) (list_all p xs) k (and_true (p x) (list_all p xs) h).1
all-set p (x ∷ xs) (suc m) node h k = and_makes (p x) (list_all p (set xs m node)) (and_true (p x) (list_all p xs) h).0 (all-set p xs m node (and_true (p x) (list_all p xs) h).1 k)

-- the last module that is left is read
pub Reaching-read : {w : List Node} {nodes : List Node} {known more : List Bool} {behind : List ℕ} (left : List ℕ) (slot : ℕ) (node : Node) → Reaching w nodes known (left ++ slot ∷ []) → node ≡ node_at w slot → names_within (length w) node ≡ true → Adds known left more behind → names_in (known_at more) node ≡ true → Reaching w (set nodes slot node) more behind
Reaching-read {w} {nodes} {known} {more} {behind} left slot node r is within adds all = record {
  long = length-set nodes slot node ∙ r.long;
  known_long = adds.long ∙ r.known_long;
  among = λ m h. elim (adds.among m h) [
    | inl k ↦ adds.grows m (r.among m (has-append left (slot ∷ []) m ∙ ap (λ b. b || has (slot ∷ []) m) k))
    | inr k ↦ k
  ];
  settled = λ m h. elim (adds.comes m h) [ inl k ↦ of_known m k | inr k ↦ inl k ];
  bounded = all-set (names_within (length w)) nodes slot node r.bounded within;
}
  where
    inside : slot < length nodes
    inside = let k : slot < length w = Reaching-slot left slot r in omega (arith, k, r.long)

    of_known : (m : ℕ) → known_at known m ≡ true → (has behind m ≡ true) ⊎ ((node_at (set nodes slot node) m ≡ node_at w m) × (names_in (known_at more) (node_at w m) ≡ true))
    of_known m k = elim (eqb_tells m slot) [
      | inl t ↦ inr (ap (node_at (set nodes slot node)) t.1 ∙ get_or-set_same nodes slot node no_node inside ∙ is ∙ ap (node_at w) (sym t.1), ap (λ x. names_in (known_at more) (node_at w x)) t.1 ∙ ap (names_in (known_at more)) (sym is) ∙ all)
      | inr t ↦ elim (r.settled m k) [
        | inl j ↦ inl (adds.stays m (sym (has-last_other left slot m t.0) ∙ j))
        | inr j ↦ inr (get_or-set_other nodes slot m node no_node t.1 ∙ j.0, names_grow (known_at known) (known_at more) adds.grows (node_at w m) j.1)
      ]
    ]

-- nothing is left
pub Reaching-part : {w : List Node} {nodes : List Node} {known : List Bool} → Reaching w nodes known [] → IsPart w nodes (known_at known)
Reaching-part {w} {nodes} {known} r = record {
  long = r.long;
  same = λ m h. elim (r.settled m h) [ inl k ↦ absurd (cc) | inr k ↦ k.0 ];
  closed = λ m h. elim (r.settled m h) [ inl k ↦ absurd (cc) | inr k ↦ k.1 ];
}

pub Reaching-bounded : {w : List Node} {nodes : List Node} {known : List Bool} {left : List ℕ} → Reaching w nodes known left → is_bounded nodes ≡ true
Reaching-bounded {w} {nodes} {known} {left} r = ap (λ n. list_all (names_within n) nodes) r.long ∙ r.bounded

-- the last module that is left is taken, and others are added
pub cost-falls : {known more : List Bool} {behind : List ℕ} (left : List ℕ) (slot : ℕ) → Adds known left more behind → cost more behind < cost known (left ++ slot ∷ [])
cost-falls {known} {more} {behind} left slot adds =
    let longer : length (left ++ slot ∷ []) ≡ length left + 1 = length-append left (slot ∷ []) in
    omega (arith, adds.ends, longer)

-- What the search for a closed part keeps: a module that is known is left, or it is settled and all that it names is known.
pub record Closing (w : List Node) (settled known : List Bool) (left : List ℕ) : Type 0 where
  pub long : length known ≡ length w
  pub among : (m : ℕ) → has left m ≡ true → known_at known m ≡ true
  pub each : (m : ℕ) → known_at known m ≡ true → (has left m ≡ true) ⊎ ((known_at settled m ≡ true) × (names_in (known_at known) (node_at w m) ≡ true))

pub Closing-begin : {w : List Node} {settled closed more : List Bool} {left behind : List ℕ} → left ≡ [] → AreClosed w settled closed → Adds closed left more behind → Closing w settled more behind
Closing-begin {w} {settled} {closed} {more} {left} {behind} nothing a adds = record {
  long = adds.long ∙ a.long;
  among = λ m h. elim (adds.among m h) [ inl k ↦ (let no : has left m ≡ false = ap (λ l. has l m) nothing in absurd (cc)) | inr k ↦ k ];
  each = λ m h. elim (adds.comes m h) [
    | inl k ↦ inr (a.settled m k, names_grow (known_at closed) (known_at more) adds.grows (node_at w m) (a.names m k))
    | inr k ↦ inl k
  ];
}

pub Closing-slot : {w : List Node} {settled known : List Bool} (left : List ℕ) (slot : ℕ) → Closing w settled known (left ++ slot ∷ []) → slot < length w
Closing-slot {w} {settled} {known} left slot c =
    let k : slot < length known = known_within known slot (c.among slot (has-last_same left slot slot refl)) in
    omega (arith, k, c.long)

-- the last module that is left is settled, and all that it names is known
pub Closing-read : {w : List Node} {settled known more : List Bool} {behind : List ℕ} (left : List ℕ) (slot : ℕ) → Closing w settled known (left ++ slot ∷ []) → known_at settled slot ≡ true → Adds known left more behind → names_in (known_at more) (node_at w slot) ≡ true → Closing w settled more behind
Closing-read {w} {settled} {known} {more} {behind} left slot c own adds all = record {
  long = adds.long ∙ c.long;
  among = λ m h. elim (adds.among m h) [
    | inl k ↦ adds.grows m (c.among m (has-append left (slot ∷ []) m ∙ ap (λ b. b || has (slot ∷ []) m) k))
    | inr k ↦ k
  ];
  each = λ m h. elim (adds.comes m h) [ inl k ↦ of_known m k | inr k ↦ inl k ];
}
  where
    of_known : (m : ℕ) → known_at known m ≡ true → (has behind m ≡ true) ⊎ ((known_at settled m ≡ true) × (names_in (known_at more) (node_at w m) ≡ true))
    of_known m k = elim (eqb_tells m slot) [
      | inl t ↦ inr (ap (known_at settled) t.1 ∙ own, ap (λ x. names_in (known_at more) (node_at w x)) t.1 ∙ all)
      | inr t ↦ elim (c.each m k) [
        | inl j ↦ inl (adds.stays m (sym (has-last_other left slot m t.0) ∙ j))
        | inr j ↦ inr (j.0, names_grow (known_at known) (known_at more) adds.grows (node_at w m) j.1)
      ]
    ]

-- nothing is left
pub Closing-end : {w : List Node} {settled known : List Bool} → Closing w settled known [] → AreClosed w settled known
Closing-end {w} {settled} {known} c = record {
  long = c.long;
  settled = λ m h. elim (c.each m h) [ inl k ↦ absurd (cc) | inr k ↦ k.0 ];
  names = λ m h. elim (c.each m h) [ inl k ↦ absurd (cc) | inr k ↦ k.1 ];
}

-- nothing is closed
pub none_closed : (w : List Node) (settled : List Bool) (n : ℕ) → n ≡ length w → AreClosed w settled (replicate n false)
none_closed w settled n all = record {
  long = length-replicate n false ∙ all;
  settled = λ m h. (let no : known_at (replicate n false) m ≡ false = none_known n m in absurd (cc));
  names = λ m h. (let no : known_at (replicate n false) m ≡ false = none_known n m in absurd (cc));
}

-- one module more is settled
pub closed-settle : {w : List Node} {settled closed : List Bool} (slot : ℕ) → AreClosed w settled closed → AreClosed w (set settled slot true) closed
closed-settle {w} {settled} {closed} slot a = record {
  long = a.long;
  settled = λ m h. elim (eqb_tells m slot) [
    | inl t ↦ ap (known_at (set settled slot true)) t.1 ∙ known-same settled slot (omega (arith, known_within settled m (a.settled m h), t.1))
    | inr t ↦ known-other settled slot m t.1 ∙ a.settled m h
  ];
  names = a.names;
}

-- targets that a module names in each phase
pub named_in : (p q r : ℕ → Bool) (node : Node) → ((m : ℕ) → p m ≡ true → q m ≡ true) → ((m : ℕ) → q m ≡ true → r m ≡ true) → list_all (is_target_in p) node.hard ≡ true → list_all (is_target_in q) node.pre ≡ true → list_all (is_target_in r) node.post ≡ true → names_in r node ≡ true
named_in p q r node one two hard pre post =
    and_makes (list_all (is_target_in r) node.hard && list_all (is_target_in r) node.pre) (list_all (is_target_in r) node.post)
    (and_makes (list_all (is_target_in r) node.hard) (list_all (is_target_in r) node.pre) (targets_grow p r (λ m h. two m (one m h)) node.hard hard) (targets_grow q r two node.pre pre))
    post
