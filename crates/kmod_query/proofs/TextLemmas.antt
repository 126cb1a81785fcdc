-- Folds over references, and texts that are added one after another.
use Rattle.std.proofs.Common.{◌≡◌, ◌≤◌, ℕ, zero, suc, List, [], ◌∷◌, ◌++◌, fold, length, map, take, refl, ◌∙◌, ap, arith, Result, Ok, Err, IfOk}
use Rattle.std.specs.List.{flat_map}

taken_all : {X : Type 0} (k : ℕ) (xs : List X) → length xs ≤ k → take k xs ≡ xs
taken_all zero [] h = refl
taken_all zero (x ∷ xs) h = absurd (omega (arith, h))
taken_all (suc k) [] h = refl
taken_all (suc k) (x ∷ xs) h = ap (λ l. x ∷ l) (taken_all k xs (omega (arith, h)))

fused : {X Y Z : Type 0} (g : X → Y) (f : Y → Z) (xs : List X) → map (λ x. f (g x)) xs ≡ map f (map g xs)
fused g f [] = refl
fused g f (x ∷ xs) = ap (λ l. f (g x) ∷ l) (fused g f xs)

pub map-both : {X Y Z : Type 0} (g : X → Y) (f : Y → Z) (k : ℕ) (xs : List X) → length xs ≤ k → map (λ x. f (g x)) (take k xs) ≡ map f (map g xs)
map-both g f k xs h = ap (map (λ x. f (g x))) (taken_all k xs h) ∙ fused g f xs

pub map-all : {W X Y Z : Type 0} (h : W → X) (g : X → Y) (f : Y → Z) (k : ℕ) (ws : List W) → length ws ≤ k → map (λ w. f (g (h w))) (take k ws) ≡ map f (map g (map h ws))
map-all h g f k ws over = map-both h (λ x. f (g x)) k ws over ∙ fused g f (map h ws)

fold-map : {B X Y Z : Type 0} (g : X → Y) (f : Y → Z) (h : B → Z → B) (a : B) (xs : List X) → fold (λ b x. h b (f (g x))) a xs ≡ fold h a (map f (map g xs))
fold-map g f h a [] = refl
fold-map g f h a (x ∷ xs) = fold-map g f h (h a (f (g x))) xs

pub fold-all : {B X Y Z : Type 0} (g : X → Y) (f : Y → Z) (h : B → Z → B) (a : B) (k : ℕ) (xs : List X) → length xs ≤ k → fold (λ b x. h b (f (g x))) a (take k xs) ≡ fold h a (map f (map g xs))
fold-all g f h a k xs over = ap (fold (λ b x. h b (f (g x))) a) (taken_all k xs over) ∙ fold-map g f h a xs

flat_map-map : {X Y Z : Type 0} (g : X → Y) (f : Y → List Z) (xs : List X) → flat_map (λ x. f (g x)) xs ≡ flat_map f (map g xs)
flat_map-map g f [] = refl
flat_map-map g f (x ∷ xs) = ap (λ l. f (g x) ++ l) (flat_map-map g f xs)

pub flat_map-all : {X Y Z : Type 0} (g : X → Y) (f : Y → List Z) (k : ℕ) (xs : List X) → length xs ≤ k → flat_map (λ x. f (g x)) (take k xs) ≡ flat_map f (map g xs)
flat_map-all g f k xs h = ap (flat_map (λ x. f (g x))) (taken_all k xs h) ∙ flat_map-map g f xs

pub IfOk-map : {T E : Type 0} {P Q : T → Type 0} (r : Result T E) → ((x : T) → P x → Q x) → IfOk r P → IfOk r Q
IfOk-map (Ok x) f h = f x h
IfOk-map (Err e) f h = tt
