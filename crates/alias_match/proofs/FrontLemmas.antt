-- A text that a pattern matches begins as the pattern's front says, and by this no alias that matches is passed over.
use Rattle.std.proofs.Common.{◌≡◌, ◌≢◌, ℕ, suc, ◌+◌, ◌<◌, ◌≤◌, true, false, List, [], ◌∷◌, ◌++◌, length, min, take, slice_get, get_or, nat_eq, eqb-true, eq-eqb, Some, sym, ◌∙◌, ap, subst, arith, inl, inr}
use Rattle.std.specs.Prelude.{slice_index}
use Rattle.std.proofs.Math.ListN.{set}
use Rattle.std.proofs.Math.Seq.{take-suc}
use Rattle.std.proofs.lemmas.List.{get_or-set_other, get_or-set_same, take-append-le, take_all}
use Rattle.std.proofs.lemmas.Option.{slice_get-get_or, slice_get_cases}
use Rattle.alias_match.specs.declared.alias.Alias.{Alias}
use Rattle.alias_match.specs.declared.front.Front.{Front}
use Rattle.alias_match.specs.Pattern.{Piece, Matches, is_match}
use Rattle.alias_match.specs.Marks.{mark, with_digit}
use Rattle.alias_match.specs.Front.{IsFrontOf}
use Rattle.alias_match.specs.ForProofs.{AreNumbers, HaveFronts, is_match_at, is_some_match}
use Rattle.alias_match.proofs.Deciding.{match_yes}
use Rattle.alias_match.proofs.Digits.{folded}
use Rattle.alias_match.proofs.MarkLemmas.{folded_behind}
use Rattle.alias_match.proofs.Members.{told}
use Rattle.alias_match.proofs.Plain.{bytes_of, matches_front}

-- the first bytes of a pattern that stand for themselves are those of each text that it matches
pub front_of_bytes : (all ps : List Piece) (bytes : List ℕ) (front : Front) → all ≡ bytes_of bytes ++ ps → front.count ≡ min 8 (length bytes) → front.number ≡ mark (take front.count bytes) → IsFrontOf front all
front_of_bytes all ps bytes front pieces count number = record { few = omega (arith, count); begins = begins }
  where
    begins : (s : List ℕ) → Matches all s → mark (take front.count s) ≡ front.number
    begins s m =
        let own : (rest : List ℕ) × (s ≡ bytes ++ rest) × Matches ps rest = matches_front bytes ps s (subst (λ l. Matches l s) pieces m) in
        let within : front.count ≤ length bytes = omega (arith, count) in
        ap mark (ap (take front.count) own.1 ∙ take-append-le front.count bytes own.0 within) ∙ sym number

-- a text that begins otherwise is not matched
unmatched : (front : Front) (ps : List Piece) (text : List ℕ) → IsFrontOf front ps → mark (take front.count text) ≢ front.number → is_match ps text ≡ false
unmatched front ps text has apart = elim (told (is_match ps text)) [
  | inl t ↦ absurd (apart (has.begins text (match_yes ps text t)))
  | inr f ↦ f
]

-- the front at a place is that of an alias
front_at : (fronts : List Front) (aliases : List Alias) (place : ℕ) (other : Front) → HaveFronts fronts aliases → place < length aliases → (alias : Alias) × (slice_get aliases place ≡ Some alias) × IsFrontOf (get_or fronts place other) alias.pattern
front_at fronts aliases place other have within = elim (slice_get_cases aliases place).1 [
  | inl some ↦ (some.0, some.2, have.each place (get_or fronts place other) some.0 (slice_get-get_or fronts place other (omega (arith, have.as_many))) some.2)
  | inr none ↦ absurd (omega arith)
]

pub front_few : (fronts : List Front) (aliases : List Alias) (place : ℕ) (other : Front) → HaveFronts fronts aliases → place < length aliases → (get_or fronts place other).count ≤ 8
front_few fronts aliases place other have within =
    let own : (alias : Alias) × (slice_get aliases place ≡ Some alias) × IsFrontOf (get_or fronts place other) alias.pattern = front_at fronts aliases place other have within in
    own.2.few

-- an alias is passed over only if the text begins otherwise than its pattern
pub passed_over : (fronts : List Front) (aliases : List Alias) (text : List ℕ) (place : ℕ) (other : Front) → HaveFronts fronts aliases → place < length aliases → mark (take (get_or fronts place other).count text) ≢ (get_or fronts place other).number → is_match_at aliases text place ≡ false
passed_over fronts aliases text place other have within apart =
    let own : (alias : Alias) × (slice_get aliases place ≡ Some alias) × IsFrontOf (get_or fronts place other) alias.pattern = front_at fronts aliases place other have within in
    ap (λ o. is_some_match o text) own.1 ∙ unmatched (get_or fronts place other) own.0.pattern text own.2 apart

-- one byte more of a text is one digit more
pub next_digit : (text : List ℕ) (count own number : ℕ) → count < length text → own ≡ slice_index text count → number ≡ mark (take count text) → with_digit number own ≡ mark (take (count + 1) text)
next_digit text count own number within here is =
    let one : count + 1 ≡ suc count = omega arith in
    ap (λ n. with_digit n own) is ∙ folded_behind (take count text) (own ∷ []) ∙ folded (take count text ++ own ∷ [])
    ∙ ap mark (ap (λ b. take count text ++ b ∷ []) here ∙ sym (take-suc text count 0 within) ∙ ap (λ n. take n text) (sym one))

-- behind the end there is none
pub no_digit : (text : List ℕ) (count number : ℕ) → length text ≤ count → number ≡ mark (take count text) → number ≡ mark (take (count + 1) text)
no_digit text count number past is = is ∙ ap mark (take_all count text past ∙ sym (take_all (count + 1) text (omega arith)))

-- a number more is kept
pub numbers_more : (numbers : List ℕ) (count number : ℕ) (text : List ℕ) → AreNumbers numbers count text → count + 1 < length numbers → number ≡ mark (take (count + 1) text) → AreNumbers (set numbers (count + 1) number) (count + 1) text
numbers_more numbers count number text are within is n le = elim (told (nat_eq n (count + 1))) [
  | inl t ↦
      (let here : n ≡ count + 1 = eqb-true n (count + 1) t in
      subst (λ k. slice_index (set numbers (count + 1) number) k ≡ mark (take k text)) (sym here) (get_or-set_same numbers (count + 1) number 0 within ∙ is))
  | inr f ↦
      (let apart : n ≢ count + 1 = λ e. let same : nat_eq n (count + 1) ≡ true = eq-eqb n (count + 1) e in absurd (cc) in
      get_or-set_other numbers (count + 1) n number 0 apart ∙ are n (omega (arith, apart)))
]
