-- A line for each element, one after another.
use Rattle.std.proofs.Common.{◌≡◌, ℕ, ◌+◌, ◌<◌, ◌≤◌, List, ◌++◌, length, drop, get_or, sym, ap, ◌∙◌}
use Rattle.std.proofs.lemmas.List.{append_assoc, append-nil, drop_more, drop_all}
use Rattle.held_lines.specs.Listings.{each_line}

-- The line of one more element was added.
pub each_more : {A B : Type 0} (line : ℕ → A → List B) (xs : List A) (i : ℕ) (d : A) (text more whole : List B) → i < length xs → more ≡ text ++ line i (get_or xs i d)
    → text ++ each_line line i (drop i xs) ≡ whole → more ++ each_line line (i + 1) (drop (i + 1) xs) ≡ whole
each_more line xs i d text more whole below is left =
    let x = get_or xs i d in
    let rest = each_line line (i + 1) (drop (i + 1) xs) in
    ap (λ t. t ++ rest) is ∙ append_assoc text (line i x) rest
    ∙ ap (λ l. text ++ each_line line i l) (sym (drop_more xs i d below)) ∙ left

-- No element is left.
pub each_all : {A B : Type 0} (line : ℕ → A → List B) (xs : List A) (i : ℕ) (text whole : List B) → length xs ≤ i → text ++ each_line line i (drop i xs) ≡ whole → text ≡ whole
each_all line xs i text whole all left =
    sym (append-nil text) ∙ ap (λ l. text ++ each_line line i l) (sym (drop_all i xs all)) ∙ left
