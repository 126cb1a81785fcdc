-- What writes and cuts make of bytes.
use Rattle.std.proofs.Common.{◌≡◌, ℕ, zero, suc, ◌+◌, ◌≤◌, List, [], ◌∷◌, ◌++◌, length, take, drop, refl, sym, ◌∙◌, ap, arith, append_assoc, length-append, take-append-drop}
use Rattle.std.proofs.lemmas.List.{append-nil, take_at, take_all, drop_at, drop_all, drop-drop}
use Rattle.line_journal.specs.Device.{overwritten, Torn, Shortened}

-- at the end
pub overwritten_end : (file bytes : List ℕ) (place : ℕ) → place ≡ length file → overwritten file place bytes ≡ file ++ bytes
overwritten_end file bytes place is =
    ap (λ (l : List ℕ). l ++ (bytes ++ drop (place + length bytes) file)) (take_all place file (omega (arith, is)))
    ∙ ap (λ (l : List ℕ). file ++ (bytes ++ l)) (drop_all (place + length bytes) file (omega (arith, is)))
    ∙ ap (λ (l : List ℕ). file ++ l) (append-nil bytes)

pub torn_end : (file left : List ℕ) (place count : ℕ) → place ≡ length file → Torn place count file left → (more : List ℕ) × (length more ≤ count) × (left ≡ file ++ more)
torn_end file left place count is torn = (
  torn.middle,
  torn.within,
  torn.is
      ∙ ap (λ (l : List ℕ). l ++ (torn.middle ++ drop (place + count) file)) (take_all place file (omega (arith, is)))
      ∙ ap (λ (l : List ℕ). file ++ (torn.middle ++ l)) (drop_all (place + count) file (omega (arith, is)))
      ∙ ap (λ (l : List ℕ). file ++ l) (append-nil torn.middle),
)

-- a write that has not begun
pub torn_not : (file : List ℕ) (place count : ℕ) → Torn place count file file
torn_not file place count = record {
  middle = take count (drop place file);
  is =
      sym (take-append-drop place file)
      ∙ ap (λ (l : List ℕ). take place file ++ l) (sym (take-append-drop count (drop place file)) ∙ ap (λ (l : List ℕ). take count (drop place file) ++ l) (drop-drop count place file));
  within = length-take-most count (drop place file);
  no_shorter = omega arith;
}
  where
    length-take-most : (n : ℕ) (l : List ℕ) → length (take n l) ≤ n
    length-take-most zero l = omega arith
    length-take-most (suc n) [] = omega arith
    length-take-most (suc n) (x ∷ l) = omega (arith, length-take-most n l)

-- over one byte
module _ (front : List ℕ) (old : ℕ) (rest : List ℕ) (place : ℕ) (is : length front ≡ place) where
  rest_is : drop (place + 1) (front ++ old ∷ rest) ≡ rest
  rest_is =
      ap (λ (l : List ℕ). drop (place + 1) l) (sym (append_assoc front (old ∷ []) rest))
      ∙ drop_at (front ++ old ∷ []) rest (place + 1) (omega (arith, is, length-append front (old ∷ [])))

  around : (middle : List ℕ) → take place (front ++ old ∷ rest) ++ (middle ++ drop (place + 1) (front ++ old ∷ rest)) ≡ front ++ (middle ++ rest)
  around middle =
      ap (λ (l : List ℕ). l ++ (middle ++ drop (place + 1) (front ++ old ∷ rest))) (take_at front (old ∷ rest) place is)
      ∙ ap (λ (l : List ℕ). front ++ (middle ++ l)) rest_is

  pub overwritten_byte : (new : ℕ) → overwritten (front ++ old ∷ rest) place (new ∷ []) ≡ front ++ new ∷ rest
  overwritten_byte new = around (new ∷ [])

  one : (middle : List ℕ) → length middle ≤ 1 → 1 ≤ length middle → (byte : ℕ) × (middle ≡ byte ∷ [])
  one [] most least = absurd (omega arith)
  one (byte ∷ []) most least = (byte, refl)
  one (byte ∷ other ∷ more) most least = absurd (omega arith)

  pub torn_byte : (left : List ℕ) → Torn place 1 (front ++ old ∷ rest) left → (new : ℕ) × (left ≡ front ++ new ∷ rest)
  torn_byte left torn =
      let whole = torn.is ∙ around torn.middle in
      let least : 1 ≤ length torn.middle = omega (arith, torn.no_shorter, ap length whole, length-append front (old ∷ rest), length-append front (torn.middle ++ rest), length-append torn.middle rest) in
      let byte = one torn.middle torn.within least in
      (byte.0, whole ∙ ap (λ (l : List ℕ). front ++ (l ++ rest)) byte.1)

-- a cut that has not begun
pub shortened_not : (file : List ℕ) (least : ℕ) → least ≤ length file → Shortened least file file
shortened_not file least le = record { size = length file; no_less = le; is = sym (take_all (length file) file (omega arith)) }

pub take_past : {A : Type 0} (front rest : List A) (size n : ℕ) → size ≡ length front + n → take size (front ++ rest) ≡ front ++ take n rest
take_past {A} [] rest size n is = ap (λ (k : ℕ). take k rest) (omega (arith, is))
take_past {A} (first ∷ front) rest zero n is = absurd (omega arith)
take_past {A} (first ∷ front) rest (suc size) n is = ap (λ (l : List A). first ∷ l) (take_past front rest size n (omega arith))
