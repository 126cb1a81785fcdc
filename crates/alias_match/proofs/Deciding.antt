-- The test for a match says what the relation says.
use Rattle.std.proofs.Common.{◌≡◌, ℕ, Bool, true, false, ◌&&◌, ◌||◌, ◌⊎◌, inl, inr, List, [], ◌∷◌, ◌↔◌, refl, sym, ◌∙◌, ap}
use Rattle.alias_match.specs.Pattern.{Piece, byte, any_byte, run, one_of, Matches, holds, any_end, takes_byte, is_end, is_match}
use Rattle.alias_match.proofs.Matching.{IsEnd, whole, later, IsShort, Matches-run, run-Matches, Matches-short, short-Matches}

or_true : (a b : Bool) → (a || b) ≡ true → (a ≡ true) ⊎ (b ≡ true)
or_true true b h = inl refl
or_true false b h = inr h

and_true : (a b : Bool) → (a && b) ≡ true → (a ≡ true) × (b ≡ true)
and_true true b h = (refl, h)
and_true false b h = absurd (cc)

or_comes : (a b : Bool) → b ≡ true → (a || b) ≡ true
or_comes true b h = refl
or_comes false b h = h

found_end : (test : List ℕ → Bool) (s : List ℕ) → any_end test s ≡ true → (u : List ℕ) × IsEnd u s × (test u ≡ true)
found_end test [] h = ([], whole, h)
found_end test (b ∷ s) h = elim (or_true (test (b ∷ s)) (any_end test s) h) [
  | inl t ↦ (b ∷ s, whole, t)
  | inr t ↦ (let e : (u : List ℕ) × IsEnd u s × (test u ≡ true) = found_end test s t in (e.0, later e.1, e.2))
]

first_end : (test : List ℕ → Bool) (s : List ℕ) → test s ≡ true → any_end test s ≡ true
first_end test [] h = h
first_end test (b ∷ s) h = ap (λ x. x || any_end test s) h

end_found : (test : List ℕ → Bool) (u s : List ℕ) → IsEnd u s → test u ≡ true → any_end test s ≡ true
end_found test u s whole h = first_end test u h
end_found test u (b ∷ s) (later e) h = or_comes (test (b ∷ s)) (any_end test s) (end_found test u s e h)

-- for a short piece
short_yes : (p : Piece) (ps : List Piece) (s : List ℕ) → ((u : List ℕ) → is_match ps u ≡ true → Matches ps u) → takes_byte p (is_match ps) s ≡ true → Matches (p ∷ ps) s
short_yes p ps [] ih h = absurd (cc)
short_yes p ps (b ∷ s) ih h = let u : (holds p b ≡ true) × (is_match ps s ≡ true) = and_true (holds p b) (is_match ps s) h in short-Matches p ps b s u.0 (ih s u.1)

short_no : (p : Piece) (ps : List Piece) (s : List ℕ) → IsShort p → ((u : List ℕ) → Matches ps u → is_match ps u ≡ true) → Matches (p ∷ ps) s → takes_byte p (is_match ps) s ≡ true
short_no p ps s short ih m =
    let first : (b : ℕ) × (u : List ℕ) × (s ≡ b ∷ u) × (holds p b ≡ true) × Matches ps u = Matches-short p ps s short m in
    ap (takes_byte p (is_match ps)) first.2 ∙ ap (λ x. x && is_match ps first.1) first.3 ∙ ih first.1 first.4

pub match_yes : (ps : List Piece) (s : List ℕ) → is_match ps s ≡ true → Matches ps s
match_yes [] [] h = refl
match_yes [] (b ∷ s) h = absurd (cc)
match_yes (run ∷ ps) s h = let e : (u : List ℕ) × IsEnd u s × (is_match ps u ≡ true) = found_end (is_match ps) s h in run-Matches ps s e.0 e.1 (match_yes ps e.0 e.2)
match_yes (byte own ∷ ps) s h = short_yes (byte own) ps s (match_yes ps) h
match_yes (any_byte ∷ ps) s h = short_yes any_byte ps s (match_yes ps) h
match_yes (one_of negated members ∷ ps) s h = short_yes (one_of negated members) ps s (match_yes ps) h

pub yes_match : (ps : List Piece) (s : List ℕ) → Matches ps s → is_match ps s ≡ true
yes_match [] s m = ap is_end m
yes_match (run ∷ ps) s m = let e : (u : List ℕ) × IsEnd u s × Matches ps u = Matches-run ps s m in end_found (is_match ps) e.0 s e.1 (yes_match ps e.0 e.2)
yes_match (byte own ∷ ps) s m = short_no (byte own) ps s tt (yes_match ps) m
yes_match (any_byte ∷ ps) s m = short_no any_byte ps s tt (yes_match ps) m
yes_match (one_of negated members ∷ ps) s m = short_no (one_of negated members) ps s tt (yes_match ps) m

-- the answer of a match is the test's
pub decided : (b : Bool) (ps : List Piece) (s : List ℕ) → (b ≡ true) ↔ Matches ps s → b ≡ is_match ps s
decided true ps s h = sym (yes_match ps s (h.0 refl))
decided false ps s h = elim (either_way (is_match ps s)) [ inl t ↦ (let found : false ≡ true = h.1 (match_yes ps s t) in absurd (cc)) | inr t ↦ sym t ]
  where
    either_way : (b : Bool) → (b ≡ true) ⊎ (b ≡ false)
    either_way true = inl refl
    either_way false = inr refl
