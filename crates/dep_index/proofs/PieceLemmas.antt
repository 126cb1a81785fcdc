-- One more piece behind others.
use Rattle.std.proofs.Common.{◌≡◌, ℕ, ◌+◌, ◌≤◌, List, [], ◌∷◌, ◌++◌, length, take, drop, refl, sym, ap, ◌∙◌, arith}
use Rattle.std.proofs.lemmas.List.{take-append-le, drop-append-le, length-drop}
use Rattle.std.proofs.Math.Seq.{take-length}
use Rattle.dep_index.specs.Catalogue.Pieces.{pieces, total}

length_zero : (bytes : List ℕ) → 0 ≡ length bytes → bytes ≡ []
length_zero [] h = refl
length_zero (x ∷ xs) h = absurd (cc)

-- a text behind the bytes of the pieces is one piece more
pub pieces_more : (ns : List ℕ) (bytes : List ℕ) (text : List ℕ) → total ns ≡ length bytes
    → pieces (ns ++ length text ∷ []) (bytes ++ text) ≡ pieces ns bytes ++ text ∷ []
pieces_more [] bytes text h =
    ap (λ b. take (length text) (b ++ text) ∷ []) (length_zero bytes h) ∙ ap (λ t. t ∷ []) (take-length text)
pieces_more (n ∷ ns) bytes text h =
    let within : n ≤ length bytes = omega (arith, h) in
    let left : total ns ≡ length (drop n bytes) = omega (arith, h, length-drop n bytes) in
    ap (λ t. t ∷ pieces (ns ++ length text ∷ []) (drop n (bytes ++ text))) (take-append-le n bytes text within)
    ∙ ap (λ b. take n bytes ∷ pieces (ns ++ length text ∷ []) b) (drop-append-le n bytes text within)
    ∙ ap (λ p. take n bytes ∷ p) (pieces_more ns (drop n bytes) text left)

-- the lengths of one piece more
pub total_more : (ns : List ℕ) (n m : ℕ) → total ns ≡ m → total (ns ++ n ∷ []) ≡ m + n
total_more [] n m h = omega (arith, h)
total_more (k ∷ ns) n m h = omega (arith, h, total_more ns n (total ns) refl)
