-- What one element more adds to what a list gives.
use Rattle.std.proofs.Common.{◌≡◌, ◌∙◌, ℕ, ◌+◌, ◌<◌, List, [], ◌∷◌, ◌++◌, Option, Some, None, length, get_or, take, refl, sym, ap, append_assoc}
use Rattle.std.proofs.lemmas.List.{flat_map_more, take_more}
use Rattle.std.proofs.lemmas.List.Elements.{filter_map-append}
use Rattle.std.specs.List.{cons_option, filter_map, flat_map}
use Rattle.std.specs.Option.{option_to_list}

option-last : {X : Type 0} (x : Option X) → option_to_list x ≡ cons_option x []
option-last None = refl
option-last (Some x) = refl

pub item_more : {X Y : Type 0} (f : X → Option Y) (front : List Y) (xs : List X) (x : X)
    → (front ++ filter_map f xs) ++ option_to_list (f x) ≡ front ++ filter_map f (xs ++ x ∷ [])
item_more f front xs x =
    append_assoc front (filter_map f xs) (option_to_list (f x))
    ∙ ap (λ rest. front ++ rest) (ap (λ last. filter_map f xs ++ last) (option-last (f x)) ∙ sym (filter_map-append f xs (x ∷ [])))

-- the front of a list with the element after it
one_more : {X : Type 0} (xs : List X) (i : ℕ) (x : X) → i < length xs → x ≡ get_or xs i x → take (i + 1) xs ≡ take i xs ++ x ∷ []
one_more xs i x within is = take_more xs i x within ∙ ap (λ own. take i xs ++ own ∷ []) (sym is)

-- a step of a loop that adds what an element gives, if it gives something
pub filter_more : {X Y : Type 0} (f : X → Option Y) (before front after : List Y) (xs : List X) (i : ℕ) (x : X) (found : Option Y)
    → i < length xs → x ≡ get_or xs i x → front ≡ before ++ filter_map f (take i xs) → found ≡ f x → after ≡ front ++ option_to_list found
    → after ≡ before ++ filter_map f (take (i + 1) xs)
filter_more f before front after xs i x found within is had gives grows =
    grows ∙ ap (λ own. own ++ option_to_list found) had
    ∙ ap (λ own. (before ++ filter_map f (take i xs)) ++ option_to_list own) gives
    ∙ item_more f before (take i xs) x
    ∙ ap (λ own. before ++ filter_map f own) (sym (one_more xs i x within is))

-- a step of a loop that adds all that an element gives
pub flat_more : {X Y : Type 0} (f : X → List Y) (front after : List Y) (xs : List X) (i : ℕ) (x : X)
    → i < length xs → x ≡ get_or xs i x → front ≡ flat_map f (take i xs) → after ≡ front ++ f x
    → after ≡ flat_map f (take (i + 1) xs)
flat_more f front after xs i x within is had grows =
    grows ∙ ap (λ own. own ++ f x) had ∙ flat_map_more f [] (take i xs) x ∙ ap (flat_map f) (sym (one_more xs i x within is))
