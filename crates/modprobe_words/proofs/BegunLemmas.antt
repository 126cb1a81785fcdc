-- What is written of a text, write by write.
use Rattle.std.proofs.Common.{◌≡◌, ◌∙◌, ℕ, ◌+◌, ◌-◌, ◌≤◌, List, length, take, drop, Option, ap, sym, arith, length-drop}
use Rattle.std.proofs.KnownBytes.{Appends-trans}
use Rattle.std.proofs.Math.Seq.{take-add, take-length}
use Rattle.std.specs.Io.KnownBytes.{Appends}

-- what is left of a text
rest_of : (text : List ℕ) (done : ℕ) → take (length text - done) (drop done text) ≡ drop done text
rest_of text done = ap (λ n. take n (drop done text)) (sym (length-drop done text)) ∙ take-length (drop done text)

-- more of a text was written, and no more than it has
pub record IsMore (a c : Option (List ℕ)) (text : List ℕ) (done : ℕ) : Type 0 where
  pub within : done ≤ length text
  pub begun : Appends a c (take done text)

-- one more write
pub more-begun : (a b c : Option (List ℕ)) (text : List ℕ) (done count : ℕ) → done ≤ length text → count ≤ length (take (length text - done) (drop done text))
    → Appends a b (take done text) → Appends b c (take count (take (length text - done) (drop done text))) → IsMore a c text (done + count)
more-begun a b c text done count within more first second = record {
  within = let few : count ≤ length (drop done text) = rw (rest_of text done) at more in omega (arith, length-drop done text);
  begun = rw (take-add done count text) (Appends-trans a b c _ _ first (rw (rest_of text done) at second));
}
