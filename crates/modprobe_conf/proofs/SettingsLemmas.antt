-- What is said of a name is what the lines of that name say.
use Rattle.std.proofs.Common.{◌≡◌, ℕ, List, [], ◌∷◌, ◌++◌, Bool, true, false, cond, ◌||◌, Option, None, ◌⊎◌, inl, inr, refl, sym, ap, ◌∙◌, append_assoc, append-nil, true≢false}
use Rattle.std.specs.Str.{bytes_eq}
use Rattle.std.specs.List.{list_any}
use Rattle.std.proofs.lemmas.Slice.Eq.{bytes_eq-Decides}
use Rattle.std.proofs.lemmas.List.Folds.{list_any-append}
use Rattle.modprobe_conf.specs.Configuration.{SoftItems, Line, blacklist, install, remove, options, softdep, Entry, alias, named, lines_of, option_words, first_softdep, is_install, is_remove, is_blacklist, ModuleSettings, settings_by, or_first, with_line, with_named, modules_from, settings_in, SettingsAreOfLines}

told : (b : Bool) → (b ≡ true) ⊎ (b ≡ false)
told true = inl refl
told false = inr refl

same_name : (a b : List ℕ) → bytes_eq a b ≡ true → a ≡ b
same_name a b h = (bytes_eq-Decides a b).0 h

-- if two names are not the same, no name is the same as both
other_name : (q own known : List ℕ) → bytes_eq own known ≡ false → bytes_eq q known ≡ true → bytes_eq q own ≡ false
other_name q own known apart is = by (told (bytes_eq q own))
  where
    by : (bytes_eq q own ≡ true) ⊎ (bytes_eq q own ≡ false) → bytes_eq q own ≡ false
    by (inl h) = absurd (true≢false (sym ((bytes_eq-Decides own known).1 (sym (same_name q own h) ∙ same_name q known is)) ∙ apart))
    by (inr h) = h

-- one line more, looked up
settings_in-with_named : (found : List (List ℕ × ModuleSettings)) (own : List ℕ) (line : Line) (q : List ℕ) → settings_in (with_named found own line) q ≡ cond (bytes_eq q own) (with_line (settings_in found q) line) (settings_in found q)
settings_in-with_named [] own line q = refl
settings_in-with_named (known ∷ found) own line q = by (told (bytes_eq own known.0)) (told (bytes_eq q known.0)) (settings_in-with_named found own line q)
  where
    by : (bytes_eq own known.0 ≡ true) ⊎ (bytes_eq own known.0 ≡ false)
        → (bytes_eq q known.0 ≡ true) ⊎ (bytes_eq q known.0 ≡ false)
        → settings_in (with_named found own line) q ≡ cond (bytes_eq q own) (with_line (settings_in found q) line) (settings_in found q)
        → settings_in (with_named (known ∷ found) own line) q ≡ cond (bytes_eq q own) (with_line (settings_in (known ∷ found) q) line) (settings_in (known ∷ found) q)
    by (inl is) (inl at) h = rw (is, at) (rw (ap (bytes_eq q) (same_name own known.0 is) ∙ at) refl)
    by (inl is) (inr at) h = rw (is, at) (rw (ap (bytes_eq q) (same_name own known.0 is) ∙ at) refl)
    by (inr apart) (inl at) h = rw (apart, at) (rw (other_name q own known.0 apart at) refl)
    by (inr apart) (inr at) h = rw (apart, at) h

abbrev with_all : ModuleSettings → List Line → ModuleSettings
with_all settings [] = settings
with_all settings (line ∷ later) = with_all (with_line settings line) later

settings_in-modules_from : (found : List (List ℕ × ModuleSettings)) (entries : List Entry) (q : List ℕ) → settings_in (modules_from found entries) q ≡ with_all (settings_in found q) (lines_of entries q)
settings_in-modules_from found [] q = refl
settings_in-modules_from found (alias own ∷ later) q = settings_in-modules_from found later q
settings_in-modules_from found (named own line ∷ later) q =
    settings_in-modules_from (with_named found own line) later q
    ∙ ap (λ s. with_all s (lines_of later q)) (settings_in-with_named found own line q)
    ∙ by (bytes_eq q own)
  where
    by : (is : Bool) → with_all (cond is (with_line (settings_in found q) line) (settings_in found q)) (lines_of later q) ≡ with_all (settings_in found q) (cond is (line ∷ lines_of later q) (lines_of later q))
    by true = refl
    by false = refl

option_words-append : (front later : List Line) → option_words (front ++ later) ≡ option_words front ++ option_words later
option_words-append [] later = refl
option_words-append (options ws ∷ front) later = ap (λ l. ws ++ l) (option_words-append front later) ∙ sym (append_assoc ws (option_words front) (option_words later))
option_words-append (blacklist ∷ front) later = option_words-append front later
option_words-append (install ∷ front) later = option_words-append front later
option_words-append (remove ∷ front) later = option_words-append front later
option_words-append (softdep items ∷ front) later = option_words-append front later

first_softdep-other : (front : List Line) (line : Line) → first_softdep (line ∷ []) ≡ None → first_softdep (front ++ line ∷ []) ≡ first_softdep front
first_softdep-other [] line h = h
first_softdep-other (options ws ∷ front) line h = first_softdep-other front line h
first_softdep-other (blacklist ∷ front) line h = first_softdep-other front line h
first_softdep-other (install ∷ front) line h = first_softdep-other front line h
first_softdep-other (remove ∷ front) line h = first_softdep-other front line h
first_softdep-other (softdep items ∷ front) line h = refl

first_softdep-more : (front : List Line) (items : SoftItems) → first_softdep (front ++ softdep items ∷ []) ≡ or_first (first_softdep front) items
first_softdep-more [] items = refl
first_softdep-more (options ws ∷ front) items = first_softdep-more front items
first_softdep-more (blacklist ∷ front) items = first_softdep-more front items
first_softdep-more (install ∷ front) items = first_softdep-more front items
first_softdep-more (remove ∷ front) items = first_softdep-more front items
first_softdep-more (softdep first ∷ front) items = refl

or_true : (b : Bool) → (b || true) ≡ true
or_true true = refl
or_true false = refl

or_false : (b : Bool) → (b || false) ≡ b
or_false true = refl
or_false false = refl

more_yes : (p : Line → Bool) (front : List Line) (line : Line) → p line ≡ true → list_any p (front ++ line ∷ []) ≡ true
more_yes p front line h = list_any-append p front (line ∷ []) ∙ ap (λ b. list_any p front || (b || false)) h ∙ or_true (list_any p front)

more_no : (p : Line → Bool) (front : List Line) (line : Line) → p line ≡ false → list_any p (front ++ line ∷ []) ≡ list_any p front
more_no p front line h = list_any-append p front (line ∷ []) ∙ ap (λ b. list_any p front || (b || false)) h ∙ or_false (list_any p front)

abbrev settings : List (List ℕ) → Option SoftItems → Bool → Bool → Bool → ModuleSettings
settings ws items installs removes lists = record { options = ws; softdep = items; has_install = installs; has_remove = removes; is_blacklisted = lists }

made : (ws vs : List (List ℕ)) (items others : Option SoftItems) (a b c d e f : Bool) → ws ≡ vs → items ≡ others → a ≡ b → c ≡ d → e ≡ f → settings ws items a c e ≡ settings vs others b d f
made ws vs items others a b c d e f h i j k l =
    ap (λ x. settings x items a c e) h ∙ ap (λ x. settings vs x a c e) i ∙ ap (λ x. settings vs others x c e) j ∙ ap (λ x. settings vs others b x e) k ∙ ap (λ x. settings vs others b d x) l

no_words : (front : List Line) (line : Line) → option_words (line ∷ []) ≡ [] → option_words (front ++ line ∷ []) ≡ option_words front
no_words front line h = option_words-append front (line ∷ []) ∙ ap (λ l. option_words front ++ l) h ∙ append-nil (option_words front)

-- one line more, said
settings_by-more : (front : List Line) (line : Line) → settings_by (front ++ line ∷ []) ≡ with_line (settings_by front) line
settings_by-more front blacklist =
    made _ _ _ _ _ _ _ _ _ _ (no_words front blacklist refl) (first_softdep-other front blacklist refl)
    (more_no is_install front blacklist refl) (more_no is_remove front blacklist refl) (more_yes is_blacklist front blacklist refl)
settings_by-more front install =
    made _ _ _ _ _ _ _ _ _ _ (no_words front install refl) (first_softdep-other front install refl)
    (more_yes is_install front install refl) (more_no is_remove front install refl) (more_no is_blacklist front install refl)
settings_by-more front remove =
    made _ _ _ _ _ _ _ _ _ _ (no_words front remove refl) (first_softdep-other front remove refl)
    (more_no is_install front remove refl) (more_yes is_remove front remove refl) (more_no is_blacklist front remove refl)
settings_by-more front (options ws) =
    made _ _ _ _ _ _ _ _ _ _ (option_words-append front (options ws ∷ []) ∙ ap (λ l. option_words front ++ l) (append-nil ws)) (first_softdep-other front (options ws) refl)
    (more_no is_install front (options ws) refl) (more_no is_remove front (options ws) refl) (more_no is_blacklist front (options ws) refl)
settings_by-more front (softdep items) =
    made _ _ _ _ _ _ _ _ _ _ (no_words front (softdep items) refl) (first_softdep-more front items)
    (more_no is_install front (softdep items) refl) (more_no is_remove front (softdep items) refl) (more_no is_blacklist front (softdep items) refl)

with_all-settings_by : (front later : List Line) → with_all (settings_by front) later ≡ settings_by (front ++ later)
with_all-settings_by front [] = ap settings_by (sym (append-nil front))
with_all-settings_by front (line ∷ later) =
    ap (λ s. with_all s later) (sym (settings_by-more front line))
    ∙ with_all-settings_by (front ++ line ∷ []) later
    ∙ ap settings_by (append_assoc front (line ∷ []) later)

pub settings_are_of_lines : SettingsAreOfLines
settings_are_of_lines read name = settings_in-modules_from [] read.entries name ∙ with_all-settings_by [] (lines_of read.entries name)
