-- The steps of a whole removal.
use Rattle.std.proofs.Common.{◌≡◌, ℕ, zero, suc, ◌+◌, ◌-◌, ◌<◌, Bool, true, cond, List, [], ◌∷◌, ◌++◌, append-nil, drop, fold, get_or, length, Vec, refl, sym, ◌∙◌, ap, arith}
use Rattle.std.proofs.lemmas.List.{drop_more}
use Rattle.std.specs.Borrow.{Bor}
use Rattle.std.specs.Global.{Global}
use Rattle.text_parts.specs.Text.{texts_of}
use Rattle.kmod_query.specs.declared.answer.Failure.{Failure}
use Rattle.kmod_query.specs.declared.query.Query.{Query}
use Rattle.kmod_query.specs.declared.removal.Removal.{Removal}
use Rattle.kmod_query.specs.declared.taken.Holders.{Holders}
use Rattle.kmod_query.specs.declared.taken.Taken.{Taken}
use Rattle.kmod_query.specs.Facts.{Facts}
use Rattle.kmod_query.specs.Objects.{names_of}
use Rattle.kmod_query.specs.Probes.{step_limit}
use Rattle.kmod_query.specs.Removals.{removal_of, removals_of}
use Rattle.kmod_query.specs.Whole.{Course, all_done, done, is_over, next_done, whole_word, whole_words}
use Rattle.kmod_query.proofs.RemovalLemmas.{removals-push}

limit-is : step_limit ≡ 18446744073709551615
unfolding step_limit
limit-is = refl

done-zero : (facts : Facts) (holders : List Holders) (query : Query) (course : Course) → all_done facts holders query zero course ≡ course
unfolding all_done
done-zero facts holders query course = refl

done-suc : (facts : Facts) (holders : List Holders) (query : Query) (n : ℕ) (course : Course) → all_done facts holders query (suc n) course ≡ all_done facts holders query n (next_done facts holders query course.tasks course)
unfolding all_done
done-suc facts holders query n course = refl

done-none : (facts : Facts) (holders : List Holders) (query : Query) (n : ℕ) (course : Course) → course.tasks ≡ [] → all_done facts holders query n course ≡ course
done-none facts holders query zero course none = done-zero facts holders query course
done-none facts holders query (suc n) course none =
    done-suc facts holders query n course
    ∙ ap (λ l. all_done facts holders query n (next_done facts holders query l course)) none
    ∙ done-none facts holders query n course none

-- What the tasks that are left do within the steps that are left is the whole.
abbrev pub IsLeft : Facts → List Holders → Query → ℕ → Course → Course → Type 0
IsLeft facts holders query k course whole = all_done facts holders query (step_limit - k) course ≡ whole

none_left : {A : Type 0} (xs : List A) → length xs ≡ 0 → xs ≡ []
none_left [] h = refl
none_left (x ∷ xs) h = absurd (omega (arith, h))

-- a stack from which nothing was taken had no task
pub left-none : (facts : Facts) (holders : List Holders) (query : Query) (k : ℕ) (way : List (List ℕ)) (stack left : List Removal) (taken : List Taken) (failures : List Failure) (failed : Bool) (whole : Course)
    → length stack ≡ 0 → stack ≡ left ++ []
    → IsLeft facts holders query k (record { way = way; tasks = removals_of stack; taken = taken; failures = failures; failed = failed }) whole
    → record { way = way; tasks = removals_of left; taken = taken; failures = failures; failed = failed } ≡ whole
left-none facts holders query k way stack left taken failures failed whole none e h =
    let course : List Removal → Course = λ l. record { way = way; tasks = removals_of l; taken = taken; failures = failures; failed = failed } in
    ap course (sym (e ∙ append-nil left))
    ∙ sym (done-none facts holders query (step_limit - k) (course stack) (ap removals_of (none_left stack none)))
    ∙ h

pub left-end : (facts : Facts) (holders : List Holders) (query : Query) (k : ℕ) (course whole : Course) → 18446744073709551615 - k ≡ 0 → IsLeft facts holders query k course whole → course ≡ whole
left-end facts holders query k course whole over h =
    let e : step_limit - k ≡ 0 = omega (arith, limit-is) in
    sym (done-zero facts holders query course) ∙ ap (λ n. all_done facts holders query n course) (sym e) ∙ h

pub left-more : (facts : Facts) (holders : List Holders) (query : Query) (k : ℕ) (course next whole : Course) (old rest : List Removal) (task : Removal)
    → old ≡ rest ++ task ∷ [] → course.tasks ≡ removals_of old → k < 18446744073709551615
    → next ≡ done facts holders query (removal_of task) (record course { tasks = removals_of rest })
    → IsLeft facts holders query k course whole → IsLeft facts holders query (k + 1) next whole
left-more facts holders query k course next whole old rest task e tasks below made h =
    let fuel : step_limit - k ≡ suc (step_limit - (k + 1)) = omega (arith, limit-is) in
    ap (all_done facts holders query (step_limit - (k + 1))) made
    ∙ ap (λ l. all_done facts holders query (step_limit - (k + 1)) (next_done facts holders query l course)) (sym (tasks ∙ ap removals_of e ∙ removals-push rest task))
    ∙ sym (done-suc facts holders query (step_limit - (k + 1)) course)
    ∙ ap (λ n. all_done facts holders query n course) (sym fuel)
    ∙ h

pub words-over : (facts : Facts) (holders : List Holders) (query : Query) (course : Course) (words : List (Bor (List ℕ))) (k : ℕ) → k < length words → is_over query course.failures ≡ true → whole_words facts holders query course (texts_of (drop k words)) ≡ course
words-over facts holders query course [] k below ended = absurd (omega (arith, below))
words-over facts holders query course (word ∷ words) zero below ended = ap (λ b. cond b course (whole_words facts holders query (whole_word facts holders query course word.now) (texts_of words))) ended
words-over facts holders query course (word ∷ words) (suc k) below ended = words-over facts holders query course words k (omega (arith, below)) ended

-- one more module that another one needed
pub needs-more : (f : List Taken → List ℕ → List Taken) (needs : List (Vec ℕ Global)) (i : ℕ) (own : Vec ℕ Global) (name : List ℕ) (old new whole : List Taken)
    → i < length needs → own ≡ get_or needs i own → name ≡ own.items → new ≡ f old name
    → fold f old (names_of (drop i needs)) ≡ whole → fold f new (names_of (drop (i + 1) needs)) ≡ whole
needs-more f needs i own name old new whole below is named made h =
    ap (λ (t : List Taken). fold f t (names_of (drop (i + 1) needs))) (made ∙ ap (f old) named)
    ∙ ap (λ (l : List (Vec ℕ Global)). fold f old (names_of l)) (sym (drop_more needs i own below ∙ ap (λ (v : Vec ℕ Global). v ∷ drop (i + 1) needs) (sym is)))
    ∙ h
