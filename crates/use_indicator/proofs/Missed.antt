-- The tries of a get, one after another.
use Rattle.std.proofs.Common.{◌≡◌, ℕ, ◌+◌, List, [], ◌∷◌, ◌++◌, refl, sym, ap, ◌∙◌, arith, append_assoc, append-nil, length-append, Bool, true, false, inr, Option, Some, None, IfSome, IfNone}
use Rattle.dep_index.specs.declared.table.calls.Reply.{Reply}
use Rattle.root_row.specs.declared.view.AtomicStep.TheVariants.{Load, Exchange}
use Rattle.root_row.specs.declared.view.AtomicStep.{AtomicStep}
use Rattle.root_row.specs.Seats.{Seated}
use Rattle.root_row.specs.StepsMade.{StepsMade}
use Rattle.use_indicator.specs.Counted.{missed, last_try, guess, FirstSteps, GivenUp, TrySteps, UnusedSteps, UnusedGivenUp}

missed_more : (m : ℕ) (ns ms : List ℕ) → missed m (ns ++ ms) ≡ missed m ns ++ missed m ms
missed_more m [] ms = refl
missed_more m (n ∷ ns) ms = ap (λ l. Load m n ∷ Exchange m n (n + 1) false ∷ l) (missed_more m ns ms)

-- tries were missed, and more behind them
pub given_up_more : (tries more m : ℕ) (old mid new : Seated) → GivenUp tries m old mid → GivenUp more m mid new → GivenUp (tries + more) m old new
given_up_more tries more m old mid new t u = (
  t.0 ++ u.0,
  (let a = t.1 in let b = u.1 in omega (arith, length-append t.0 u.0)),
  u.2 ∙ ap (λ l. l ++ missed m u.0) t.2 ∙ append_assoc old.steps (missed m t.0) (missed m u.0) ∙ ap (λ l. old.steps ++ l) (sym (missed_more m t.0 u.0)),
)

-- the last try after those that were missed
pub answered_last : (m : ℕ) (found : List ℕ) (answer : Reply) (old mid new : Seated) → StepsMade old (missed m found) mid → FirstSteps m [] answer mid new → FirstSteps m found answer old new
answered_last m found answer old mid new before t = (
  t.0,
  t.1 ∙ ap (λ l. l ++ last_try m t.0 answer) before ∙ append_assoc old.steps (missed m found) (last_try m t.0 answer),
)

pub given_up_none : (m : ℕ) (old : Seated) → GivenUp 0 m old old
given_up_none m old = ([], refl, sym (append-nil old.steps))

-- a look, and an exchange that was missed
pub missed_once : (m n : ℕ) (made : Bool) (old mid new : Seated) → made ≡ false → StepsMade old (Load m n ∷ []) mid → StepsMade mid (Exchange m n (n + 1) made ∷ []) new → GivenUp 1 m old new
missed_once m n made old mid new miss look t = (
  n ∷ [],
  refl,
  t ∙ ap (λ b. mid.steps ++ Exchange m n (n + 1) b ∷ []) miss ∙ ap (λ l. l ++ Exchange m n (n + 1) false ∷ []) look ∙ append_assoc old.steps (Load m n ∷ []) (Exchange m n (n + 1) false ∷ []),
)

-- a try that was missed, and a get behind it
pub answered_again : (m : ℕ) (answer : Reply) (old mid new : Seated) → GivenUp 1 m old mid → ((found : List ℕ) × FirstSteps m found answer mid new) → (found : List ℕ) × FirstSteps m found answer old new
answered_again m answer old mid new u t = (
  u.0 ++ t.0,
  (
    t.1.0,
    t.1.1 ∙ ap (λ l. l ++ (missed m t.0 ++ last_try m t.1.0 answer)) u.2
        ∙ append_assoc old.steps (missed m u.0) (missed m t.0 ++ last_try m t.1.0 answer)
        ∙ ap (λ l. old.steps ++ l) (sym (append_assoc (missed m u.0) (missed m t.0) (last_try m t.1.0 answer)) ∙ ap (λ l. l ++ last_try m t.1.0 answer) (sym (missed_more m u.0 t.0))),
  ),
)

pub tried_again : (tries m : ℕ) (answer : Reply) (old mid new : Seated) → GivenUp 1 m old mid → TrySteps tries m 0 answer mid new → TrySteps (1 + tries) m 0 answer old new
unfolding answered_again
tried_again tries m answer old mid new u t = (
  u.0 ++ t.0,
  (let once = u.1 in let few = t.1 in omega (arith, length-append u.0 t.0)),
  (answered_again m answer old mid new u (t.0, t.2)).1,
)

-- steps behind a guess that was wrong
behind_guess : (m : ℕ) (made : Bool) (more : List AtomicStep) (old mid new : Seated) → made ≡ false → StepsMade old (guess m made ∷ []) mid → StepsMade mid more new → StepsMade old (guess m false ∷ more) new
behind_guess m made more old mid new wrong before after =
    after ∙ ap (λ l. l ++ more) before ∙ append_assoc old.steps (guess m made ∷ []) more ∙ ap (λ b. old.steps ++ (guess m b ∷ more)) wrong

pub guessed_in_vain : (tries m : ℕ) (made : Bool) (old mid new : Seated) → made ≡ false → StepsMade old (guess m made ∷ []) mid → GivenUp tries m mid new → UnusedGivenUp tries m old new
guessed_in_vain tries m made old mid new wrong before t = (true, t.0, t.1, behind_guess m made (missed m t.0) old mid new wrong before t.2)

pub guessed_wrong : (tries m : ℕ) (answer : Reply) (made : Bool) (old mid new : Seated) → made ≡ false → StepsMade old (guess m made ∷ []) mid → TrySteps tries m 0 answer mid new → UnusedSteps tries m 0 answer old new
guessed_wrong tries m answer made old mid new wrong before t =
    inr (true, t.0, t.1, t.2.0, behind_guess m made (missed m t.0 ++ last_try m t.2.0 answer) old mid new wrong before t.2.1)

pub none_more : {T : Type 0} (o : Option T) (P Q : Type 0) → (P → Q) → IfNone o P → IfNone o Q
none_more None P Q f p = f p
none_more (Some x) P Q f p = tt

pub some_more : {T : Type 0} (o : Option T) (P Q : T → Type 0) → ((x : T) → P x → Q x) → IfSome o P → IfSome o Q
some_more None P Q f p = tt
some_more (Some x) P Q f p = f x p
