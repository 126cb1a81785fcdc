-- The slots that a bounded graph names.
use Rattle.std.proofs.Common.{◌≡◌, ℕ, zero, suc, ◌<◌, nat_lt, ltb-true, true, ◌&&◌, List, [], ◌∷◌, length, refl}
use Rattle.std.specs.List.{list_all}
use Rattle.load_plan.specs.Graph.{Node, node_at, is_within, names_within, is_bounded}
use Rattle.load_plan.proofs.Lists.{and_true}

pub lt-true : (a b : ℕ) → nat_lt a b ≡ true → a < b
lt-true a b h = ltb-true a b h

-- a slot that a module of the graph names is one of the graph
pub named_within : (w : List Node) (m : ℕ) → is_bounded w ≡ true → (list_all (is_within (length w)) (node_at w m).hard ≡ true) × (list_all (is_within (length w)) (node_at w m).pre ≡ true) × (list_all (is_within (length w)) (node_at w m).post ≡ true)
named_within w m bounded = within_at (length w) w m bounded
  where
    within_at : (n : ℕ) (ns : List Node) (m : ℕ) → list_all (names_within n) ns ≡ true → (list_all (is_within n) (node_at ns m).hard ≡ true) × (list_all (is_within n) (node_at ns m).pre ≡ true) × (list_all (is_within n) (node_at ns m).post ≡ true)
    within_at n [] zero h = (refl, refl, refl)
    within_at n [] (suc m) h = (refl, refl, refl)
    within_at n (x ∷ xs) zero h =
        let a : (names_within n x ≡ true) × (list_all (names_within n) xs ≡ true) = and_true (names_within n x) (list_all (names_within n) xs) h in
        let b : ((list_all (is_within n) x.hard && list_all (is_within n) x.pre) ≡ true) × (list_all (is_within n) x.post ≡ true) = and_true (list_all (is_within n) x.hard && list_all (is_within n) x.pre) (list_all (is_within n) x.post) a.0 in
        let c : (list_all (is_within n) x.hard ≡ true) × (list_all (is_within n) x.pre ≡ true) = and_true (list_all (is_within n) x.hard) (list_all (is_within n) x.pre) b.0 in
        (c.0, c.1, b.1)
    within_at n (x ∷ xs) (suc m) h = within_at n xs m (and_true (names_within n x) (list_all (names_within n) xs) h).1
