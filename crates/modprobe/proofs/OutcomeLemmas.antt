-- The name in the line of a refusal.
use Rattle.std.proofs.Common.{arith, ◌≡◌, ℕ, ◌+◌, ◌-◌, ◌≤◌, List, [], ◌∷◌, ◌++◌, length, length-append, take, drop, ap, ◌∙◌, subst}
use Rattle.std.specs.Prelude.{codes, slice_range}
use Rattle.std.proofs.lemmas.List.{append_assoc, drop-append-le, drop_all, take-append-le, take_all}
use Rattle.modprobe.specs.declared.refusal.Code.{Code}
use Rattle.modprobe.specs.Refusals.{code_text, error_line}
use Rattle.modprobe.specs.Outcomes.{name_in}

after_front : (front rest : List ℕ) → drop (length front) (front ++ rest) ≡ rest
after_front front rest = drop-append-le (length front) front rest (omega arith) ∙ ap (λ l. l ++ rest) (drop_all (length front) front (omega arith))

-- what stands between a front and a last byte
between : (front name : List ℕ) (byte end : ℕ) → end ≡ length front + length name → slice_range (front ++ name ++ byte ∷ []) (length front) end ≡ name
between front name byte end is =
    let rest : drop (length front) (front ++ name ++ byte ∷ []) ≡ name ++ byte ∷ [] = ap (drop (length front)) (append_assoc front name (byte ∷ [])) ∙ after_front front (name ++ byte ∷ []) in
    let count : end - length front ≡ length name = omega (arith, is) in
    ap (λ n. take n (drop (length front) (front ++ name ++ byte ∷ []))) count ∙ ap (take (length name)) rest
    ∙ take-append-le (length name) name (byte ∷ []) (omega arith) ∙ take_all (length name) name (omega arith)

front_long : (code : Code) → length (codes "error " ++ code_text code ++ codes " ") ≡ 7 + length (code_text code)
front_long code = omega (arith, length-append (codes "error " ++ code_text code) (codes " "), length-append (codes "error ") (code_text code))

long_line : (code : Code) (name : List ℕ) → length (error_line code name) ≡ 8 + length (code_text code) + length name
unfolding error_line
long_line code name =
    let front = codes "error " ++ code_text code ++ codes " " in
    omega (arith, front_long code, length-append (front ++ name) (10 ∷ []), length-append front name)

-- a line of a code has room for what stands before and after its name
pub line_fits : (code : Code) (line : List ℕ) → line ≡ error_line code (name_in code line) → 8 + length (code_text code) ≤ length line
line_fits code line is = omega (arith, ap length is, long_line code (name_in code line))

pub name_in_line : (code : Code) (name : List ℕ) → name_in code (error_line code name) ≡ name
unfolding error_line
name_in_line code name =
    let front = codes "error " ++ code_text code ++ codes " " in
    let long = front_long code in
    let whole : length (error_line code name) - 1 ≡ length front + length name = omega (arith, long, long_line code name) in
    subst (λ n. slice_range (error_line code name) n (length (error_line code name) - 1) ≡ name) long (between front name 10 (length (error_line code name) - 1) whole)
