-- The slots of targets and of words, one after another.
use Rattle.std.proofs.Common.{◌≡◌, ◌≢◌, ℕ, ◌+◌, ◌<◌, ◌≤◌, List, [], ◌∷◌, length, drop, get_or, Option, Some, None, Ok, Err, refl, sym, ap, ◌∙◌}
use Rattle.std.specs.Borrow.{Bor}
use Rattle.std.proofs.lemmas.List.{drop_more, drop_all}
use Rattle.text_parts.specs.Text.{texts_of}
use Rattle.dep_index.specs.Catalogue.{slot_named}
use Rattle.modprobe.specs.Setup.{Setup}
use Rattle.held_lines.specs.declared.found.FoundError.{FoundError}
use Rattle.held_lines.specs.declared.found.FoundError.TheVariants.{Unknown, Memory}
use Rattle.held_lines.specs.Found.{Found, ◌>>=◌, with_slot, add_slot, add_targets, add_found, add_word, add_words, FailsAs}

next_of : {A : Type 0} (xs : List A) (i : ℕ) (x : A) → i < length xs → x ≡ get_or xs i x → drop i xs ≡ x ∷ drop (i + 1) xs
next_of xs i x below is = drop_more xs i x below ∙ ap (λ y. y ∷ drop (i + 1) xs) (sym is)

-- The next target was added.
pub targets_more : (s : Setup) (targets : List (List ℕ)) (i : ℕ) (target slots : List ℕ) (slot : ℕ) (more : List ℕ) (whole : Found) → i < length targets → target ≡ get_or targets i target
    → slot_named s.catalogue target ≡ Some slot → more ≡ with_slot slots slot → add_targets s slots (drop i targets) ≡ whole → add_targets s more (drop (i + 1) targets) ≡ whole
targets_more s targets i target slots slot more whole below is found same left =
    let rest = drop (i + 1) targets in
    ap (λ (l : List ℕ). add_targets s l rest) same ∙ sym (ap (λ (o : Option ℕ). add_slot slots target o >>= λ more. add_targets s more rest) found)
    ∙ sym (ap (add_targets s slots) (next_of targets i target below is)) ∙ left

-- The next target is unknown.
pub targets_stop : (s : Setup) (targets : List (List ℕ)) (i : ℕ) (target slots : List ℕ) (whole : Found) → i < length targets → target ≡ get_or targets i target
    → slot_named s.catalogue target ≡ None → add_targets s slots (drop i targets) ≡ whole → whole ≡ Err target
targets_stop s targets i target slots whole below is found left =
    let rest = drop (i + 1) targets in
    sym left ∙ ap (add_targets s slots) (next_of targets i target below is) ∙ ap (λ (o : Option ℕ). add_slot slots target o >>= λ more. add_targets s more rest) found

-- No target is left.
pub targets_all : (s : Setup) (targets : List (List ℕ)) (i : ℕ) (slots : List ℕ) (whole : Found) → length targets ≤ i → add_targets s slots (drop i targets) ≡ whole → whole ≡ Ok slots
targets_all s targets i slots whole all left = sym left ∙ ap (add_targets s slots) (drop_all i targets all)

-- Some targets were found.
pub found_some : (s : Setup) (slots name : List ℕ) (targets : List (List ℕ)) → targets ≢ [] → add_found s slots name targets ≡ add_targets s slots targets
found_some s slots name [] some = absurd (some refl)
found_some s slots name (target ∷ targets) some = refl

-- The next word was added.
pub words_more : (s : Setup) (words : List (Bor (List ℕ))) (i : ℕ) (word : Bor (List ℕ)) (slots more : List ℕ) (whole : Found) → i < length words → word ≡ get_or words i word
    → add_word s slots word.now ≡ Ok more → add_words s slots (texts_of (drop i words)) ≡ whole → add_words s more (texts_of (drop (i + 1) words)) ≡ whole
words_more s words i word slots more whole below is added left =
    let rest = texts_of (drop (i + 1) words) in
    sym (ap (λ (f : Found). f >>= λ l. add_words s l rest) added) ∙ sym (ap (λ (ws : List (Bor (List ℕ))). add_words s slots (texts_of ws)) (next_of words i word below is)) ∙ left

-- Nothing is found for the next word.
pub words_stop : (s : Setup) (words : List (Bor (List ℕ))) (i : ℕ) (word : Bor (List ℕ)) (slots : List ℕ) (e : FoundError) (whole : Found) → i < length words → word ≡ get_or words i word
    → FailsAs e (add_word s slots word.now) → add_words s slots (texts_of (drop i words)) ≡ whole → FailsAs e whole
words_stop s words i word slots (Unknown name) whole below is fails left =
    let rest = texts_of (drop (i + 1) words) in
    sym left ∙ ap (λ (ws : List (Bor (List ℕ))). add_words s slots (texts_of ws)) (next_of words i word below is) ∙ ap (λ (f : Found). f >>= λ l. add_words s l rest) fails
words_stop s words i word slots Memory whole below is fails left = tt

-- No word is left.
pub words_all : (s : Setup) (words : List (Bor (List ℕ))) (i : ℕ) (slots : List ℕ) (whole : Found) → length words ≤ i → add_words s slots (texts_of (drop i words)) ≡ whole → whole ≡ Ok slots
words_all s words i slots whole all left = sym left ∙ ap (λ (ws : List (Bor (List ℕ))). add_words s slots (texts_of ws)) (drop_all i words all)
