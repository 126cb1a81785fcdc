-- What the first place of a mark says of the names behind it.
use Rattle.std.proofs.Common.{◌≡◌, ℕ, zero, suc, ◌+◌, ◌<◌, ◌≤◌, true, false, List, [], ◌∷◌, nat_eq, length, take, drop, None, refl, sym, ◌∙◌, ap, arith, length-drop}
use Rattle.std.specs.List.{starts_with}
use Rattle.std.proofs.lemmas.Bool.{false_from_ne_true}
use Rattle.std.proofs.lemmas.Bool.Decides.{Decides-eqb}
use Rattle.std.proofs.lemmas.List.{drop_all}
use Rattle.std.proofs.lemmas.List.Prefix.{front_fits}
use Rattle.std.proofs.lemmas.Slice.Eq.{bytes_eq-Decides, starts_is}
use Rattle.memchr.specs.Find.{FindsNeedle, NoneBefore, Nowhere, OccursAt}
use Rattle.memchr.proofs.lemmas.MatchLemmas.{OccursAt-from_part, OccursAt-part}
use Rattle.module_info.specs.Parameters.{leading_name, names_behind}

starts_at : (mark text : List ℕ) (k : ℕ) → OccursAt text mark k → starts_with nat_eq (drop k text) mark ≡ true
starts_at mark text k is = (bytes_eq-Decides mark (take (length mark) (drop k text))).1 (sym (OccursAt-part text mark k is))

starts_not : (mark text : List ℕ) → ¬ OccursAt text mark 0 → starts_with nat_eq text mark ≡ false
starts_not mark text other = false_from_ne_true (starts_with nat_eq text mark) (λ is.
    let whole = (starts_is Decides-eqb text mark (starts_with nat_eq text mark) refl).0 is in
    let fits : 0 + length mark ≤ length text = omega (arith, front_fits text mark (drop (length mark) text) whole) in
    other (OccursAt-from_part text mark 0 fits (sym ((bytes_eq-Decides mark (take (length mark) text)).0 is))))

later : (mark rest : List ℕ) (byte : ℕ) (k : ℕ) → OccursAt rest mark k → OccursAt (byte ∷ rest) mark (suc k)
later mark rest byte k is =
    let fits = is.fits in
    OccursAt-from_part (byte ∷ rest) mark (suc k) (omega arith) (OccursAt-part rest mark k is)

-- the names behind a mark that stands nowhere before a place
from_place : (mark text : List ℕ) (k : ℕ) → Nowhere (OccursAt text mark) 0 k → names_behind mark text ≡ names_behind mark (drop k text)
from_place mark text zero none = refl
from_place mark [] (suc k) none = refl
from_place mark (byte ∷ rest) (suc k) none =
    let here : starts_with nat_eq (byte ∷ rest) mark ≡ false = starts_not mark (byte ∷ rest) (none 0 (omega arith) (omega arith)) in
    rw here (from_place mark rest k (λ j low high is. none (suc j) (omega arith) (omega arith) (later mark rest byte j is)))

-- the names behind a mark that a text begins with
from_start : (mark text : List ℕ) → 0 < length text → starts_with nat_eq text mark ≡ true → names_behind mark text ≡ leading_name (drop (length mark) text) ∷ names_behind mark (drop 1 text)
from_start mark [] filled is = absurd (omega arith)
from_start mark (byte ∷ rest) filled is = rw is refl

pub none_behind : (mark text : List ℕ) → FindsNeedle text mark 0 None → names_behind mark text ≡ []
none_behind mark text none =
    from_place mark text (length text) (λ j low high. none j low (omega arith)) ∙ ap (names_behind mark) (drop_all (length text) text (omega arith))

pub first_behind : (mark text : List ℕ) (k : ℕ) → 0 < length mark → NoneBefore (OccursAt text mark) 0 (length text + 1) k → OccursAt text mark k → names_behind mark text ≡ leading_name (drop (length mark) (drop k text)) ∷ names_behind mark (drop 1 (drop k text))
first_behind mark text k filled first is =
    let fits = is.fits in
    from_place mark text k first.before ∙ from_start mark (drop k text) (omega (arith, length-drop k text)) (starts_at mark text k is)
