-- A function, changed at one number.
use Rattle.std.proofs.Common.{◌≡◌, ◌≢◌, ℕ, cond, ◌==◌, refl, sym, subst, eq-eqb, ne_eqb}

abbrev pub put : {A : Type 0} → (ℕ → A) → ℕ → A → ℕ → A
put f w a u = cond (u == w) a (f u)

pub put_here : {A : Type 0} (f : ℕ → A) (w : ℕ) (a : A) → put f w a w ≡ a
put_here f w a = subst (λ b. cond b a (f w) ≡ a) (sym (eq-eqb w w refl)) refl

pub put_else : {A : Type 0} (f : ℕ → A) (w : ℕ) (a : A) (u : ℕ) → u ≢ w → put f w a u ≡ f u
put_else f w a u ne = subst (λ b. cond b a (f u) ≡ f u) (sym (ne_eqb u w ne)) refl
