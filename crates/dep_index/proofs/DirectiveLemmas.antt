-- The names of a line of soft needs.
use Rattle.std.proofs.Common.{◌≡◌, ℕ, List, [], ◌∷◌, Bool, true, false, cond, map, Some, None, length, Bor, refl, ap, ◌∙◌}
use Rattle.std.specs.Prelude.{◌&&◌, ◌==◌}
use Rattle.std.specs.List.{list_all}
use Rattle.text_parts.specs.Text.{texts_of, is_name, normal_form}
use Rattle.dep_index.specs.Catalogue.{some_names, softneeds}

list_all-texts : (p : List ℕ → Bool) (ws : List (Bor (List ℕ))) → list_all p (texts_of ws) ≡ list_all (λ w. p w.now) ws
list_all-texts p [] = refl
list_all-texts p (w ∷ ws) = ap (λ t. p w.now && t) (list_all-texts p ws)

pub bad_names : (ws : List (Bor (List ℕ))) → list_all (λ w. is_name w.now) ws ≡ false → some_names (texts_of ws) ≡ None
bad_names [] isnt = refl
bad_names (w ∷ ws) isnt = ap (λ t. cond t (Some (softneeds (map normal_form (texts_of (w ∷ ws))))) None) (list_all-texts is_name (w ∷ ws) ∙ isnt)

pub good_names : (ws : List (Bor (List ℕ))) → (length ws == 0) ≡ false → list_all (λ w. is_name w.now) ws ≡ true → some_names (texts_of ws) ≡ Some (softneeds (map normal_form (texts_of ws)))
good_names [] some is = absurd (cc)
good_names (w ∷ ws) some is = ap (λ t. cond t (Some (softneeds (map normal_form (texts_of (w ∷ ws))))) None) (list_all-texts is_name (w ∷ ws) ∙ is)
