-- Reading the users of a line, part by part.
use Rattle.std.proofs.Common.{◌≡◌, ◌==◌, Bool, true, false, not, ◌&&◌, ◌||◌, List, [], ◌∷◌, ◌++◌, length, refl, sym, ◌∙◌, ap, ℕ, Option, Some, None, append_assoc}
use Rattle.std.proofs.Common.{◌<◌, ◌≤◌, ◌+◌, ◌-◌, arith, take, drop, get_or, drop-cons, add-one, eqb}
use Rattle.std.proofs.lemmas.List.{length-map, take_rest}
use Rattle.std.specs.List.{list_any}
use Rattle.std.specs.Borrow.{Bor}
use Rattle.text_parts.specs.Text.{is_name, normal_form, texts_of}
use Rattle.std.proofs.Common.{Result, Ok, Err}
use Rattle.proc_modules.specs.declared.line.LineError.{LineError}
use Rattle.proc_modules.specs.declared.line.LineState.{LineState}
use Rattle.proc_modules.specs.declared.line.Line.{Line}
use Rattle.proc_modules.specs.declared.line.LineError.TheVariants.{BadName, BadUsers}
use Rattle.proc_modules.specs.Reading.{is_mark, is_end, is_line_name, with_user, users_in, users_of, numbers_in, state_in, then_read, or_refuse, line_in}

-- users that were read before the others
abbrev pub with_users : List (List ℕ) → Option (List (List ℕ) × Bool) → Option (List (List ℕ) × Bool)
with_users users None = None
with_users users (Some found) = Some (users ++ found.0, found.1)

pub with_users-nil : (found : Option (List (List ℕ) × Bool)) → with_users [] found ≡ found
with_users-nil None = refl
with_users-nil (Some found) = refl

pub with_users-push : (users : List (List ℕ)) (user : List ℕ) (found : Option (List (List ℕ) × Bool))
    → with_users (users ++ user ∷ []) found ≡ with_users users (with_user user found)
with_users-push users user None = refl
with_users-push users user (Some found) = ap (λ (us : List (List ℕ)). Some (us, found.1)) (append_assoc users (user ∷ []) found.0)

-- a name that is not the last part
pub users_in-name : (user : List ℕ) (later : List (List ℕ)) → (length later == 0) ≡ false → (is_mark user && is_end later) ≡ false → is_line_name user ≡ true
    → users_in (user ∷ later) ≡ with_user user (users_in later)
users_in-name user [] more unmarked name = cc
users_in-name user (next ∷ later) more unmarked name = rw (unmarked, name) refl

-- a part that is neither last nor a name
pub users_in-bad : (user : List ℕ) (later : List (List ℕ)) → (is_mark user && is_end later) ≡ false → (length later == 0) ≡ false → is_line_name user ≡ false
    → users_in (user ∷ later) ≡ None
users_in-bad user [] unmarked more bad = cc
users_in-bad user (next ∷ later) unmarked more bad = rw (unmarked, bad) refl

undashed : (word : List ℕ) → list_any (λ byte. byte == 45) word ≡ false → normal_form word ≡ word
undashed [] none = refl
undashed (byte ∷ word) none = at (eqb byte 45) refl none (undashed word) where
  at : (b : Bool) → eqb byte 45 ≡ b → (b || list_any (λ x. x == 45) word) ≡ false
      → (list_any (λ x. x == 45) word ≡ false → normal_form word ≡ word) → normal_form (byte ∷ word) ≡ byte ∷ word
  at true is free rest = cc
  at false is free rest = rw is (ap (λ (later : List ℕ). byte ∷ later) (rest free))

-- the name of a line is in normal form
pub kept_name : (word : List ℕ) → is_line_name word ≡ true → normal_form word ≡ word
kept_name word name = undashed word (at (is_name word) (list_any (λ byte. byte == 45) word) name) where
  at : (a b : Bool) → (a && not b) ≡ true → b ≡ false
  at true true e = cc
  at true false e = refl
  at false b e = cc

texts_of-drop : (parts : List (Bor (List ℕ))) (i : ℕ) (d : Bor (List ℕ)) → i < length parts
    → texts_of (drop i parts) ≡ (get_or parts i d).now ∷ texts_of (drop (i + 1) parts)
texts_of-drop parts i d below = rw (add-one, drop-cons parts i d) refl

-- fields that are six at least
pub six_texts : (fields : List (Bor (List ℕ))) (d : Bor (List ℕ)) → 6 ≤ length fields
    → texts_of fields ≡ (get_or fields 0 d).now ∷ (get_or fields 1 d).now ∷ (get_or fields 2 d).now ∷ (get_or fields 3 d).now ∷ (get_or fields 4 d).now ∷ (get_or fields 5 d).now ∷ texts_of (take (length fields - 6) (drop 6 fields))
six_texts (a ∷ b ∷ c ∷ d ∷ e ∷ f ∷ more) other six =
    ap (λ (rest : List (Bor (List ℕ))). a.now ∷ b.now ∷ c.now ∷ d.now ∷ e.now ∷ f.now ∷ texts_of rest) (sym (take_rest (a ∷ b ∷ c ∷ d ∷ e ∷ f ∷ more) 6))
six_texts (a ∷ b ∷ c ∷ d ∷ e ∷ []) other six = absurd (omega arith)
six_texts (a ∷ b ∷ c ∷ d ∷ []) other six = absurd (omega arith)
six_texts (a ∷ b ∷ c ∷ []) other six = absurd (omega arith)
six_texts (a ∷ b ∷ []) other six = absurd (omega arith)
six_texts (a ∷ []) other six = absurd (omega arith)
six_texts [] other six = absurd (omega arith)

-- one name more was read
pub users_in-step : (parts later : List (Bor (List ℕ))) (users after : List (List ℕ)) (i : ℕ) (name : List ℕ) (d : Bor (List ℕ)) → i < length parts
    → later ≡ drop (i + 1) parts → users_in (texts_of parts) ≡ with_users users (users_in (texts_of (drop i parts)))
    → (length later == 0) ≡ false → (is_mark (get_or parts i d).now && is_end (texts_of later)) ≡ false
    → is_line_name (get_or parts i d).now ≡ true → name ≡ normal_form (get_or parts i d).now → after ≡ users ++ name ∷ []
    → users_in (texts_of parts) ≡ with_users after (users_in (texts_of (drop (i + 1) parts)))
users_in-step parts later users after i name d below rest so_far more unmarked named made pushed =
    let user : List ℕ = (get_or parts i d).now in
    let same : name ≡ user = made ∙ kept_name user named in
    let first : texts_of (drop i parts) ≡ user ∷ texts_of later = texts_of-drop parts i d below ∙ ap (λ (ps : List (Bor (List ℕ))). user ∷ texts_of ps) (sym rest) in
    let more' : (length (texts_of later) == 0) ≡ false = rw length-map more in
    so_far
    ∙ ap (λ (ps : List (List ℕ)). with_users users (users_in ps)) first
    ∙ ap (with_users users) (users_in-name user (texts_of later) more' unmarked named)
    ∙ sym (with_users-push users user (users_in (texts_of later)))
    ∙ ap (λ (u : List ℕ). with_users (users ++ u ∷ []) (users_in (texts_of later))) (sym same)
    ∙ ap (λ (us : List (List ℕ)). with_users us (users_in (texts_of later))) (sym pushed)
    ∙ ap (λ (ps : List (Bor (List ℕ))). with_users after (users_in (texts_of ps))) rest

-- if the numbers of a line are read, its name is good
pub good_name : (name size count : List ℕ) (numbers : ℕ × ℕ) → numbers_in name size count ≡ Ok numbers → is_line_name name ≡ true
good_name name size count numbers e = at (is_line_name name) refl where
  at : (b : Bool) → is_line_name name ≡ b → is_line_name name ≡ true
  at true is = is
  at false is = let refused : numbers_in name size count ≡ Err BadName = rw is refl in cc

-- a line of good fields
pub line_read : (name size count users state address : List ℕ) (more : List (List ℕ)) (bytes references : ℕ) (found : List (List ℕ)) (permanent : Bool) (shown : LineState) (made : List ℕ)
    → numbers_in name size count ≡ Ok (bytes, references) → users_of users ≡ Some (found, permanent) → state_in state address more ≡ Ok shown → made ≡ normal_form name
    → line_in (name ∷ size ∷ count ∷ users ∷ state ∷ address ∷ more)
    ≡ Ok (record { name = made; size = bytes; count = references; users = found; permanent = permanent; state = shown })
line_read name size count users state address more bytes references found permanent shown made numbers used stated named =
    ap (λ (x : Result (ℕ × ℕ) LineError). then_read x (λ n. or_refuse BadUsers (users_of users) (λ u. then_read (state_in state address more) (λ s. Ok (line n u s))))) numbers
    ∙ ap (λ (x : Option (List (List ℕ) × Bool)). or_refuse BadUsers x (λ u. then_read (state_in state address more) (λ s. Ok (line (bytes, references) u s)))) used
    ∙ ap (λ (x : Result LineState LineError). then_read x (λ s. Ok (line (bytes, references) (found, permanent) s))) stated
    ∙ ap (λ (n : List ℕ). Ok (record { name = n; size = bytes; count = references; users = found; permanent = permanent; state = shown }))
    (sym (named ∙ kept_name name (good_name name size count (bytes, references) numbers))) where
      line : ℕ × ℕ → List (List ℕ) × Bool → LineState → Line
      line n u s = record { name = name; size = n.0; count = n.1; users = u.0; permanent = u.1; state = s }
