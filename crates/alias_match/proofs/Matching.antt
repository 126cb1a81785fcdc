-- The laws by which a walk with one place to return to decides whether a pattern matches.
use Rattle.std.proofs.Common.{◌≡◌, ℕ, suc, ◌≤◌, ◌⊎◌, inl, inr, Bool, true, false, nat_eq, drop, Option, Some, None, List, [], ◌∷◌, ◌++◌, length, refl, sym, ◌∙◌, ap, subst, arith, eqb-true, eq-eqb}
use Rattle.alias_match.specs.ForProofs.{count_before, next_end}
use Rattle.alias_match.specs.Pattern.{Piece, byte, any_byte, run, one_of, Matches, holds}

-- u is an end of s
pub data IsEnd : List ℕ → List ℕ → Type 0 where
  whole : {s : List ℕ} → IsEnd s s
  later : {u s : List ℕ} {b : ℕ} → IsEnd u s → IsEnd u (b ∷ s)

pub IsEnd-trans : {u s t : List ℕ} → IsEnd u s → IsEnd s t → IsEnd u t
IsEnd-trans e whole = e
IsEnd-trans e (later f) = later (IsEnd-trans e f)

pub IsEnd-tail : {u s : List ℕ} {b : ℕ} → IsEnd (b ∷ u) s → IsEnd u s
IsEnd-tail whole = later whole
IsEnd-tail (later f) = later (IsEnd-tail f)

pub IsEnd-tails : {u s : List ℕ} {b c : ℕ} → IsEnd (b ∷ u) (c ∷ s) → IsEnd u s
IsEnd-tails whole = whole
IsEnd-tails (later f) = IsEnd-tail f

-- the front before an end
pub IsEnd-split : {u s : List ℕ} → IsEnd u s → (front : List ℕ) × (s ≡ front ++ u)
IsEnd-split {u} whole = ([], refl)
IsEnd-split (later {u} {s} {b} e) = let split : (front : List ℕ) × (s ≡ front ++ u) = IsEnd-split e in (b ∷ split.0, ap (λ l. b ∷ l) split.1)

pub IsEnd-append : (front u : List ℕ) → IsEnd u (front ++ u)
IsEnd-append [] u = whole
IsEnd-append (b ∷ front) u = later (IsEnd-append front u)

-- a run and what follows it
pub Matches-run : (ps : List Piece) (s : List ℕ) → Matches (run ∷ ps) s → (u : List ℕ) × IsEnd u s × Matches ps u
Matches-run ps s (front, rest, split, here, behind) = (rest, subst (λ t. IsEnd rest t) (sym split) (IsEnd-append front rest), behind)

same_number : (n : ℕ) → nat_eq n n ≡ true
same_number n = eq-eqb n n refl

numbers_same : (m n : ℕ) → nat_eq m n ≡ true → m ≡ n
numbers_same m n e = eqb-true m n e

pub run-Matches : (ps : List Piece) (s u : List ℕ) → IsEnd u s → Matches ps u → Matches (run ∷ ps) s
run-Matches ps s u e m = let split : (front : List ℕ) × (s ≡ front ++ u) = IsEnd-split e in (split.0, u, split.1, tt, m)

-- the piece is no run
abbrev pub IsShort : Piece → Type 0
IsShort run = ⊥
IsShort _ = Unit {0}

-- a short piece takes the first byte, if it holds it, and no other text
pub Matches-short : (p : Piece) (ps : List Piece) (s : List ℕ) → IsShort p → Matches (p ∷ ps) s → (b : ℕ) × (u : List ℕ) × (s ≡ b ∷ u) × (holds p b ≡ true) × Matches ps u
Matches-short (byte own) ps s short (front, rest, split, here, behind) =
    (own, rest, split ∙ ap (λ l. l ++ rest) here, same_number own, behind)
Matches-short any_byte ps s short (front, rest, split, here, behind) =
    (here.0, rest, split ∙ ap (λ l. l ++ rest) here.1, refl, behind)
Matches-short run ps s short m = absurd short
Matches-short (one_of negated members) ps s short (front, rest, split, here, behind) =
    (here.0, rest, split ∙ ap (λ l. l ++ rest) here.1, here.2, behind)

pub short-Matches : (p : Piece) (ps : List Piece) (b : ℕ) (s : List ℕ) → holds p b ≡ true → Matches ps s → Matches (p ∷ ps) (b ∷ s)
short-Matches (byte own) ps b s h m = (b ∷ [], s, refl, ap (λ n. n ∷ []) (sym (numbers_same own b h)), m)
short-Matches any_byte ps b s h m = (b ∷ [], s, refl, (b, refl), m)
short-Matches run ps b s h m = absurd (cc)
short-Matches (one_of negated members) ps b s h m = (b ∷ [], s, refl, (b, refl, h), m)

pub holds-short : (p : Piece) (b : ℕ) → holds p b ≡ true → IsShort p
holds-short (byte own) b h = tt
holds-short any_byte b h = tt
holds-short run b h = absurd (cc)
holds-short (one_of negated members) b h = tt

-- The pieces ps and the rest s are what a and t become when short pieces take their bytes.
pub data Along (a : List Piece) (t : List ℕ) : List Piece → List ℕ → Type 0 where
  here : Along a t a t
  step : {p : Piece} {ps : List Piece} {b : ℕ} {s : List ℕ} → IsShort p → Along a t (p ∷ ps) (b ∷ s) → Along a t ps s

pub Along-IsEnd : {a : List Piece} {t : List ℕ} {ps : List Piece} {s : List ℕ} → Along a t ps s → IsEnd s t
Along-IsEnd here = whole
Along-IsEnd (step short w) = IsEnd-tail (Along-IsEnd w)

-- What a matches at an end of t, ps matches at an end of s: short pieces take as many bytes there as here.
pub Along-Matches : {a : List Piece} {t : List ℕ} {ps : List Piece} {s : List ℕ} → Along a t ps s → (u : List ℕ) → IsEnd u t → Matches a u → (v : List ℕ) × IsEnd v s × Matches ps v
Along-Matches here u e m = (u, e, m)
Along-Matches (step {p} {ps} {b} {s} short w) u e m =
    let before : (v : List ℕ) × IsEnd v (b ∷ s) × Matches (p ∷ ps) v = Along-Matches w u e m in
    let first : (c : ℕ) × (v : List ℕ) × (before.0 ≡ c ∷ v) × (holds p c ≡ true) × Matches ps v = Matches-short p ps before.0 short before.2 in
    (first.1, IsEnd-tails (subst (λ x. IsEnd x (b ∷ s)) first.2 before.1), first.4)

-- a place to return to: what stands behind the last run, and where it was tried last
abbrev pub Place : Type 0
Place = List Piece × List ℕ

-- the pieces behind the last run match at a later end than the one that was tried
abbrev pub Later : Option Place → Type 0
Later None = ⊥
Later (Some (a, [])) = ⊥
Later (Some (a, b ∷ t)) = (u : List ℕ) × IsEnd u t × Matches a u

abbrev pub IsOnWay : Option Place → List Piece → List ℕ → Type 0
IsOnWay None ps s = Unit {0}
IsOnWay (Some (a, t)) ps s = Along a t ps s

abbrev pub pieces_again : Option Place → List Piece
pieces_again None = []
pieces_again (Some (a, t)) = a

-- how many ends are left to try
abbrev pub left_again : Option Place → List ℕ → ℕ
left_again None text = length text
left_again (Some (a, t)) text = length t

-- What the walk keeps.
pub record Keeps (all : List Piece) (text : List ℕ) (back : Option Place) (ps : List Piece) (s : List ℕ) : Type 0 where
  pub onward : Matches all text → Matches ps s ⊎ Later back
  pub here : Matches ps s → Matches all text
  pub again : Later back → Matches all text
  pub way : IsOnWay back ps s
  pub few : length ps ≤ length all
  pub few_again : length (pieces_again back) ≤ length all
  pub left : length s ≤ left_again back text

pub Keeps-start : (all : List Piece) (text : List ℕ) → Keeps all text None all text
Keeps-start all text = record { onward = λ m. inl m; here = λ m. m; again = λ l. absurd l; way = tt; few = omega arith; few_again = omega arith; left = omega arith }

-- a later match behind an old run is one behind the new run
Later-run : (back : Option Place) (ps : List Piece) (s : List ℕ) → IsOnWay back (run ∷ ps) s → Later back → (u : List ℕ) × IsEnd u s × Matches ps u
Later-run None ps s way l = absurd l
Later-run (Some (a, [])) ps s way l = absurd l
Later-run (Some (a, b ∷ t)) ps s way (u, e, m) =
    let there : (v : List ℕ) × IsEnd v s × Matches (run ∷ ps) v = Along-Matches way u (later e) m in
    let behind : (v : List ℕ) × IsEnd v there.0 × Matches ps v = Matches-run ps there.0 there.2 in
    (behind.0, IsEnd-trans behind.1 there.1, behind.2)

-- an end is the whole or a later one
end_cases : (ps : List Piece) (s u : List ℕ) → IsEnd u s → Matches ps u → Matches ps s ⊎ Later (Some (ps, s))
end_cases ps s u whole m = inl m
end_cases ps (b ∷ s) u (later e) m = inr (u, e, m)

Later-end : (ps : List Piece) (s : List ℕ) → Later (Some (ps, s)) → (u : List ℕ) × IsEnd u s × Matches ps u
Later-end ps [] l = absurd l
Later-end ps (b ∷ s) (u, e, m) = (u, later e, m)

pub Keeps-run : {all : List Piece} {text : List ℕ} {back : Option Place} {ps : List Piece} {s : List ℕ} → Keeps all text back (run ∷ ps) s → Keeps all text (Some (ps, s)) ps s
Keeps-run {all} {text} {back} {ps} {s} k = record {
  onward = λ m. elim (k.onward m) [
    | inl now ↦ (let behind : (u : List ℕ) × IsEnd u s × Matches ps u = Matches-run ps s now in end_cases ps s behind.0 behind.1 behind.2)
    | inr old ↦ (let behind : (u : List ℕ) × IsEnd u s × Matches ps u = Later-run back ps s k.way old in end_cases ps s behind.0 behind.1 behind.2)
  ];
  here = λ m. k.here (run-Matches ps s s whole m);
  again = λ l. let behind : (u : List ℕ) × IsEnd u s × Matches ps u = Later-end ps s l in k.here (run-Matches ps s behind.0 behind.1 behind.2);
  way = here;
  few = omega (arith, k.few);
  few_again = omega (arith, k.few);
  left = omega arith;
}

-- a short piece takes no byte of another kind
no_match : (p : Piece) (ps : List Piece) (b : ℕ) (s : List ℕ) → IsShort p → holds p b ≡ false → Matches (p ∷ ps) (b ∷ s) → ⊥
no_match p ps b s short h m =
    let first : (c : ℕ) × (v : List ℕ) × (b ∷ s ≡ c ∷ v) × (holds p c ≡ true) × Matches ps v = Matches-short p ps (b ∷ s) short m in
    let e : b ≡ first.0 = cc in
    let held : holds p b ≡ true = subst (λ x. holds p x ≡ true) (sym e) first.3 in cc

same_way : (back : Option Place) (p : Piece) (ps : List Piece) (b : ℕ) (s : List ℕ) → IsShort p → IsOnWay back (p ∷ ps) (b ∷ s) → IsOnWay back ps s
same_way None p ps b s short w = tt
same_way (Some (a, t)) p ps b s short w = step short w

pub Keeps-step : {all : List Piece} {text : List ℕ} {back : Option Place} {p : Piece} {ps : List Piece} {b : ℕ} {s : List ℕ} → Keeps all text back (p ∷ ps) (b ∷ s) → holds p b ≡ true → Keeps all text back ps s
Keeps-step {all} {text} {back} {p} {ps} {b} {s} k h = record {
  onward = λ m. elim (k.onward m) [
    | inl now ↦ (let first : (c : ℕ) × (v : List ℕ) × (b ∷ s ≡ c ∷ v) × (holds p c ≡ true) × Matches ps v = Matches-short p ps (b ∷ s) (holds-short p b h) now in
        let e : s ≡ first.1 = cc in inl (subst (λ x. Matches ps x) (sym e) first.4))
    | inr old ↦ inr old
  ];
  here = λ m. k.here (short-Matches p ps b s h m);
  again = k.again;
  way = same_way back p ps b s (holds-short p b h) k.way;
  few = omega (arith, k.few);
  few_again = k.few_again;
  left = omega (arith, k.left);
}

-- the pieces do not match here, so the walk returns and tries the next end
abbrev pub IsStuck : List Piece → List ℕ → Type 0
IsStuck ps s = Matches ps s → ⊥

pub Keeps-back : {all : List Piece} {text : List ℕ} {a ps : List Piece} {b : ℕ} {t s : List ℕ} → Keeps all text (Some (a, b ∷ t)) ps s → IsStuck ps s → Keeps all text (Some (a, t)) a t
Keeps-back {all} {text} {a} {ps} {b} {t} {s} k stuck = record {
  onward = λ m. elim (k.onward m) [ inl now ↦ absurd (stuck now) | inr (u, e, old) ↦ end_cases a t u e old ];
  here = λ m. k.again (t, whole, m);
  again = λ l. let behind : (u : List ℕ) × IsEnd u t × Matches a u = Later-end a t l in k.again behind;
  way = here;
  few = k.few_again;
  few_again = k.few_again;
  left = omega arith;
}

pub Keeps-taken : {all : List Piece} {text : List ℕ} {back : Option Place} {qs ps : List Piece} {r s : List ℕ} → Keeps all text back qs r → (p : Piece) (b : ℕ) → qs ≡ p ∷ ps → r ≡ b ∷ s → holds p b ≡ true → Keeps all text back ps s
Keeps-taken {all} {text} {back} {qs} {ps} {r} {s} k p b these those h =
    let k1 : Keeps all text back (p ∷ ps) r = subst (λ x. Keeps all text back x r) these k in
    let k2 : Keeps all text back (p ∷ ps) (b ∷ s) = subst (λ x. Keeps all text back (p ∷ ps) x) those k1 in
    Keeps-step k2 h

IsEnd-none : {v : List ℕ} → IsEnd v [] → v ≡ []
IsEnd-none whole = refl

-- if the text is over and pieces are left, no return helps
Later-none : (back : Option Place) (ps : List Piece) → IsOnWay back ps [] → IsStuck ps [] → Later back → ⊥
Later-none None ps way stuck l = l
Later-none (Some (a, [])) ps way stuck l = l
Later-none (Some (a, b ∷ t)) ps way stuck (u, e, m) =
    let there : (v : List ℕ) × IsEnd v [] × Matches ps v = Along-Matches way u (later e) m in
    stuck (subst (λ x. Matches ps x) (IsEnd-none there.1) there.2)

pub Keeps-over : {all : List Piece} {text : List ℕ} {back : Option Place} {ps : List Piece} {s : List ℕ} → Keeps all text back ps s → s ≡ [] → IsStuck ps [] → Matches all text → ⊥
Keeps-over {all} {text} {back} {ps} {s} k over stuck m =
    let k1 : Keeps all text back ps [] = subst (λ x. Keeps all text back ps x) over k in
    elim (k1.onward m) [ inl now ↦ stuck now | inr old ↦ Later-none back ps k1.way stuck old ]

told : (b : Bool) → (b ≡ true) ⊎ (b ≡ false)
told true = inl refl
told false = inr refl

none_before : (own b : ℕ) (s : List ℕ) → nat_eq own b ≡ true → count_before own (b ∷ s) ≡ 0
none_before own b s t = rw t refl

one_before : (own b : ℕ) (s : List ℕ) → nat_eq own b ≡ false → count_before own (b ∷ s) ≡ suc (count_before own s)
one_before own b s f = rw f (omega arith)

-- if the pieces begin with a byte, no end is a match before the first that begins with it
Keeps-skip : {all : List Piece} {text : List ℕ} (own : ℕ) (ps : List Piece) (s : List ℕ) → Keeps all text (Some (byte own ∷ ps, s)) (byte own ∷ ps) s → Keeps all text (Some (byte own ∷ ps, drop (count_before own s) s)) (byte own ∷ ps) (drop (count_before own s) s)
Keeps-skip own ps [] k = k
Keeps-skip {all} {text} own ps (b ∷ s) k = elim (told (nat_eq own b)) [
  | inl t ↦ subst (λ n. Keeps all text (Some (byte own ∷ ps, drop n (b ∷ s))) (byte own ∷ ps) (drop n (b ∷ s))) (sym (none_before own b s t)) k
  | inr f ↦
      subst (λ n. Keeps all text (Some (byte own ∷ ps, drop n (b ∷ s))) (byte own ∷ ps) (drop n (b ∷ s))) (sym (one_before own b s f))
      (Keeps-skip own ps s (Keeps-back k (no_match (byte own) ps b s tt f)))
]

Keeps-next : {all : List Piece} {text : List ℕ} (ps : List Piece) (s : List ℕ) → Keeps all text (Some (ps, s)) ps s → Keeps all text (Some (ps, next_end ps s)) ps (next_end ps s)
Keeps-next [] s k = k
Keeps-next (byte own ∷ ps) s k = Keeps-skip own ps s k
Keeps-next (any_byte ∷ ps) s k = k
Keeps-next (run ∷ ps) s k = k
Keeps-next (one_of negated members ∷ ps) s k = k

pub Keeps-behind : {all : List Piece} {text : List ℕ} {back : Option Place} {ps qs : List Piece} {s t : List ℕ} → Keeps all text back (run ∷ ps) s → t ≡ next_end ps s → qs ≡ ps → Keeps all text (Some (ps, t)) qs t
Keeps-behind {all} {text} {back} {ps} {qs} {s} {t} k is same =
    rw (is, same) (Keeps-next ps s (Keeps-run k))

pub Keeps-again : {all : List Piece} {text : List ℕ} {back : Option Place} {a c ps : List Piece} {t u s v : List ℕ} → Keeps all text back ps s → (b : ℕ) → back ≡ Some (a, t) → t ≡ b ∷ u → c ≡ a → v ≡ next_end a u → IsStuck ps s → Keeps all text (Some (c, v)) c v
Keeps-again {all} {text} {back} {a} {c} {ps} {t} {u} {s} {v} k b place split same is stuck =
    let e : back ≡ Some (a, b ∷ u) = cc in
    let k1 : Keeps all text (Some (a, b ∷ u)) ps s = subst (λ x. Keeps all text x ps s) e k in
    rw (same, is) (Keeps-next a u (Keeps-back k1 stuck))
