-- An escaped text has no mark of XML.
use Rattle.std.proofs.Common.{◌≡◌, ℕ, ◌==◌, nat_le, ◌&&◌, Bool, true, false, List, [], ◌∷◌, ◌++◌, refl, if◌then◌else◌, codes}
use Rattle.std.specs.List.{list_all}
use Rattle.timeline_drive.specs.Escapes.{unknown, shown, escaped, is_text, EscapesMarks}

shown_text : (byte : ℕ) → list_all is_text (shown byte) ≡ true
shown_text byte =
    at (byte == 38) (byte == 60) (byte == 62) (byte == 34) (byte == 39) (nat_le 32 byte && nat_le byte 126) refl refl refl refl where
      at : (a b c d e p : Bool) → (byte == 60) ≡ b → (byte == 62) ≡ c → (byte == 34) ≡ d → (byte == 39) ≡ e
          → list_all is_text
          (if a then codes "&amp;" else (if b then codes "&lt;" else (if c then codes "&gt;" else (if d then codes "&quot;" else (if e then codes "&#39;"
          else (if p then byte ∷ [] else unknown)))))) ≡ true
      at true b c d e p lt gt double single = refl
      at false true c d e p lt gt double single = refl
      at false false true d e p lt gt double single = refl
      at false false false true e p lt gt double single = refl
      at false false false false true p lt gt double single = refl
      at false false false false false true lt gt double single = rw (lt, gt, double, single) refl
      at false false false false false false lt gt double single = refl

all_both : (xs ys : List ℕ) → list_all is_text xs ≡ true → list_all is_text ys ≡ true → list_all is_text (xs ++ ys) ≡ true
all_both [] ys front back = back
all_both (x ∷ xs) ys front back = at (is_text x) (λ (rest : list_all is_text xs ≡ true). all_both xs ys rest back) front where
  at : (b : Bool) → (list_all is_text xs ≡ true → list_all is_text (xs ++ ys) ≡ true) → (b && list_all is_text xs) ≡ true → (b && list_all is_text (xs ++ ys)) ≡ true
  at true later rest = later rest
  at false later rest = rest

-- no byte of an escaped text is a mark
pub escaped_text : EscapesMarks
escaped_text [] = refl
escaped_text (byte ∷ bytes) = all_both (shown byte) (escaped bytes) (shown_text byte) (escaped_text bytes)
