-- Places, parts and steps below a root.
use Rattle.std.proofs.Common.{◌≡◌, ℕ, suc, zero, ◌+◌, ◌-◌, ◌<◌, ◌≤◌, Bool, true, false, cond, ◌&&◌, ◌||◌, not, List, [], ◌∷◌, ◌++◌, length, take, drop, Option, Some, refl, sym, ◌∙◌, ap, subst, arith, ltb, ◌⊎◌, inl, inr, append_assoc, take-append-drop}
use Rattle.std.specs.Prelude.{codes, nat_eq}
use Rattle.std.specs.List.{list_all, list_any, onto_first, slice_split, starts_with}
use Rattle.std.proofs.lemmas.Bool.{ltb-false, ltb-true}
use Rattle.std.proofs.lemmas.Grind.{common_steps}
use Rattle.std.proofs.lemmas.List.{length-take-le, take-append-le, take_all}
use Rattle.std.proofs.lemmas.List.Folds.{list_all-append}
use Rattle.modprobe_files.specs.Rooted.{Entries, IsInside, IsReached, Step, Stop, above, folder, is_name, is_part, is_slash, Resolved, gone_on, parts_of, resolved_from, start_of, step_by, stepped, too_many_links, walk}
use Rattle.modprobe_files.specs.Places.{IsStopped, stop_of}
use Rattle.modprobe_files.specs.declared.walk.Stop.{Stop as CodeStop}

-- ---- tests

and-first : (a b : Bool) → (a && b) ≡ true → a ≡ true
and-first true b h = refl
and-first false b h = h

and-second : (a b : Bool) → (a && b) ≡ true → b ≡ true
and-second true b h = h
and-second false true h = refl
and-second false false h = h

both : (a b : Bool) → a ≡ true → b ≡ true → (a && b) ≡ true
both true b h k = k
both false b h k = h

pub head-part : (part : List ℕ) (parts : List (List ℕ)) → list_all is_part (part ∷ parts) ≡ true → is_part part ≡ true
head-part part parts = and-first (is_part part) (list_all is_part parts)

pub later-parts : (part : List ℕ) (parts : List (List ℕ)) → list_all is_part (part ∷ parts) ≡ true → list_all is_part parts ≡ true
later-parts part parts = and-second (is_part part) (list_all is_part parts)

pub more-parts : (parts later : List (List ℕ)) → list_all is_part parts ≡ true → list_all is_part later ≡ true → list_all is_part (parts ++ later) ≡ true
more-parts parts later h k = list_all-append is_part parts later ∙ both (list_all is_part parts) (list_all is_part later) h k

-- ---- parts

-- the parts of what is left of a path, behind what is read of one
abbrev pub parts_from : List ℕ → List ℕ → List (List ℕ)
parts_from part [] = part ∷ []
parts_from part (byte ∷ rest) = cond (is_slash byte) (part ∷ parts_from [] rest) (parts_from (part ++ byte ∷ []) rest)

abbrev behind : List ℕ → List (List ℕ) → List (List ℕ)
behind part [] = part ∷ []
behind part (first ∷ more) = (part ++ first) ∷ more

behind-one : (part : List ℕ) (byte : ℕ) (parts : List (List ℕ)) → behind (part ++ byte ∷ []) parts ≡ behind part (onto_first byte parts)
behind-one part byte [] = refl
behind-one part byte (first ∷ more) = ap (λ p. p ∷ more) (append_assoc part (byte ∷ []) first)

behind-none : (path : List ℕ) → behind [] (slice_split is_slash path) ≡ slice_split is_slash path
behind-none [] = refl
behind-none (byte ∷ path) = at (is_slash byte) (slice_split is_slash path)
  where
    at : (b : Bool) (parts : List (List ℕ)) → behind [] (cond b ([] ∷ parts) (onto_first byte parts)) ≡ cond b ([] ∷ parts) (onto_first byte parts)
    at true parts = refl
    at false [] = refl
    at false (first ∷ more) = refl

pub parts_from-split : (part path : List ℕ) → parts_from part path ≡ behind part (slice_split is_slash path)
parts_from-split part [] = grind (arith, common_steps)
parts_from-split part (byte ∷ path) = at (is_slash byte) (parts_from-split [] path) (parts_from-split (part ++ byte ∷ []) path)
  where
    at : (b : Bool)
        → parts_from [] path ≡ behind [] (slice_split is_slash path)
        → parts_from (part ++ byte ∷ []) path ≡ behind (part ++ byte ∷ []) (slice_split is_slash path)
        → cond b (part ∷ parts_from [] path) (parts_from (part ++ byte ∷ []) path)
        ≡ behind part (cond b ([] ∷ slice_split is_slash path) (onto_first byte (slice_split is_slash path)))
    at true new more =
        let ends : part ++ [] ≡ part = grind (arith, common_steps) in
        ap (λ ps. part ∷ ps) (new ∙ behind-none path) ∙ ap (λ p. p ∷ slice_split is_slash path) (sym ends)
    at false new more = more ∙ behind-one part byte (slice_split is_slash path)

pub parts_from-whole : (path : List ℕ) → parts_from [] path ≡ parts_of path
parts_from-whole path = parts_from-split [] path ∙ behind-none path

-- no part has a slash
pub are-parts : (path : List ℕ) → list_all is_part (parts_of path) ≡ true
are-parts [] = refl
are-parts (byte ∷ path) = at (is_slash byte) (slice_split is_slash path) refl (are-parts path)
  where
    at : (b : Bool) (parts : List (List ℕ)) → is_slash byte ≡ b → list_all is_part parts ≡ true → list_all is_part (cond b ([] ∷ parts) (onto_first byte parts)) ≡ true
    at true parts is h = h
    at false [] is h = ap (λ b. not (b || false) && true) is
    at false (first ∷ more) is h = ap (λ b. not (b || list_any is_slash first) && list_all is_part more) is ∙ h

-- ---- places

take-take : (place : List (List ℕ)) (k m : ℕ) → k ≤ m → m ≤ length place → take k (take m place) ≡ take k place
take-take place k m h l =
    let long : length (take m place) ≡ m = length-take-le m place l in
    let fits : k ≤ length (take m place) = omega arith in
    sym (take-append-le k (take m place) (drop m place) fits) ∙ ap (take k) (take-append-drop m place)

pub reached-inside : (told : Option Entries) (place : List (List ℕ)) → IsReached told place → IsInside told place
reached-inside told place r = record { names = r.names; way = λ entries t k z l. r.way entries t k z (omega arith) }

-- what leads to a place is a folder
pub inside-above : (told : Option Entries) (place : List (List ℕ)) → IsInside told place → IsReached told (above place)
inside-above told place i =
    let m : ℕ = length place - 1 in
    let less : m ≤ length place = omega arith in
    let long : length (take m place) ≡ m = length-take-le m place less in
    record {
      names =
          and-first (list_all is_name (take m place)) (list_all is_name (drop m place))
          (sym (list_all-append is_name (take m place) (drop m place)) ∙ ap (list_all is_name) (take-append-drop m place) ∙ i.names);
      way = λ entries t k z l.
          let near : k ≤ m = omega arith in
          let short : k < length place = omega arith in
          ap entries (take-take place k m near less) ∙ i.way entries t k z short;
    }

pub reached-above : (told : Option Entries) (place other : List (List ℕ)) → IsReached told place → other ≡ above place → IsReached told other
reached-above told place other r is =
    let P : List (List ℕ) → Type 0 = λ it. IsReached told it in
    subst P (sym is) (inside-above told place (reached-inside told place r))

-- a name more, behind a folder
pub reached-push : (told : Option Entries) (place : List (List ℕ)) (part : List ℕ) → IsReached told place → is_name part ≡ true → IsInside told (place ++ part ∷ [])
reached-push told place part r h =
    let long : length (place ++ part ∷ []) ≡ suc (length place) = grind (arith, common_steps) in
    record {
      names = list_all-append is_name place (part ∷ []) ∙ both (list_all is_name place) (is_name part && true) r.names (both (is_name part) true h refl);
      way = λ entries t k z l.
          let near : k ≤ length place = omega arith in
          ap entries (take-append-le k place (part ∷ []) near) ∙ r.way entries t k z (omega arith);
    }

-- a place that is a folder is reached
pub inside-folder : (told : Option Entries) (place : List (List ℕ)) → IsInside told place
    → ((entries : Entries) → told ≡ Some entries → entries place ≡ folder) → IsReached told place
inside-folder told place i f =
    record {
      names = i.names;
      way = λ entries t k z l. elim (split k (length place) l) [
        | inl near ↦ i.way entries t k z near
        | inr same ↦ ap entries (ap (λ n. take n place) same ∙ take_all (length place) place (omega arith)) ∙ f entries t
      ];
    }
  where
    split : (k n : ℕ) → k < suc n → (k < n) ⊎ (k ≡ n)
    split k n l = elim (ltb k n) as (λ b. (ltb k n ≡ b) → (k < n) ⊎ (k ≡ n)) [ true ↦ λ t. inl (ltb-true k n t) | false ↦ λ t. let far : n ≤ k = ltb-false k n t in inr (omega arith) ] refl

-- the root is reached
pub root-reached : (told : Option Entries) → IsReached told []
root-reached told = record { names = refl; way = λ entries t k z l. absurd (none k z l) }
  where
    none : (k : ℕ) → 0 < k → k < suc zero → ⊥
    none k z l = omega arith

-- the place from which a link leads on is reached
pub started : (told : Option Entries) (place : List (List ℕ)) (target : List ℕ) (other : List (List ℕ)) → IsInside told place → other ≡ start_of target place → IsReached told other
started told place target other i = at (starts_with nat_eq target (codes "/"))
  where
    at : (b : Bool) → other ≡ cond b [] (above place) → IsReached told other
    at true is = let Q : List (List ℕ) → Type 0 = λ it. IsReached told it in subst Q (sym is) (root-reached told)
    at false is = let Q : List (List ℕ) → Type 0 = λ it. IsReached told it in subst Q (sym is) (inside-above told place i)

-- ---- steps

pub walk-step : (entries : Entries) (place : List (List ℕ)) (part : List ℕ) (rest : List (List ℕ)) (step : Step)
    → step_by entries place part ≡ step
    → walk entries place (part ∷ rest) ≡ stepped step.entry step.place rest (walk entries step.place rest)
walk-step entries place part rest step is = ap (λ s. stepped s.entry s.place rest (walk entries s.place rest)) is

-- ---- walks

resolved-step : (entries : Entries) (walks : ℕ) (place parts : List (List ℕ))
    → resolved_from entries (suc walks) place parts ≡ gone_on (walk entries place parts) (resolved_from entries walks)
unfolding resolved_from
resolved-step entries walks place parts = refl

pub resolved-none : (entries : Entries) (place parts : List (List ℕ)) → resolved_from entries 0 place parts ≡ too_many_links
unfolding resolved_from
resolved-none entries place parts = refl

-- a walk more, of 41
pub resolved-more : (entries : Entries) (i : ℕ) (place parts : List (List ℕ)) (stop : Stop) (end : Resolved)
    → i < 41 → stop ≡ walk entries place parts → resolved_from entries (41 - i) place parts ≡ end
    → gone_on stop (resolved_from entries (41 - (i + 1))) ≡ end
resolved-more entries i place parts stop end less is all =
    let left : 41 - i ≡ suc (41 - (i + 1)) = omega arith in
    ap (λ s. gone_on s (resolved_from entries (41 - (i + 1)))) is
    ∙ sym (resolved-step entries (41 - (i + 1)) place parts)
    ∙ ap (λ n. resolved_from entries n place parts) (sym left)
    ∙ all

-- a stop that is known to be this one
pub stop-is : (stop other : CodeStop) (place : List (List ℕ)) (end : Stop) → stop ≡ other → stop_of stop place ≡ end → stop_of other place ≡ end
stop-is stop other place end is h = ap (λ s. stop_of s place) (sym is) ∙ h

pub stopped-is : (told : Option Entries) (stop other : CodeStop) (place : List (List ℕ)) → stop ≡ other → IsStopped told stop place → IsStopped told other place
stopped-is told stop other place is h = let P : CodeStop → Type 0 = λ s. IsStopped told s place in subst P is h
