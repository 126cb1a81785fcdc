-- A tenure as it goes on: what its files keep.
use Rattle.std.proofs.Common.{arith, ◌≡◌, refl, sym, ap, subst, ◌∙◌, ◌⊎◌, ⊎_elim, inl, inr, ℕ, List, [], ◌∷◌, ◌++◌, length, append_assoc, append-nil, length-append, Result}
use Rattle.modprobe.specs.Setup.{Setup}
use Rattle.modprobe.specs.Outcomes.{Outcome}
use Rattle.held_table.specs.Held.{Held}
use Rattle.held_lines.specs.Outcomes.{after}
use Rattle.durable_table.specs.Tables.{opening_of}
use Rattle.durable_table.specs.Durable.{FileStands}
use Rattle.durable_table.specs.Groups.{replies_of, KeepsHeldAlong}
use Rattle.durable_table.proofs.GroupLemmas.{after-append, replies-append, held-append}
use Rattle.tenures.specs.declared.ending.Stopped.{Stopped}
use Rattle.tenures.specs.Tenures.{Tenure, one_by_one, next_group, IsFirstOf, TookEffect, IsOneList}
use Rattle.tenures.specs.Steps.{IsMadeWhole}
use Rattle.tenures.specs.Kept.{LeadsTo, Keeps}
use Rattle.tenures.proofs.ListLemmas.{replies_length, one_by_one_more, one_more}

abbrev pub Ending : Type 0
Ending = Result (Unit {0}) Stopped

abbrev pub tenure_of : List ℕ → List (List (List ℕ)) → List Outcome → Ending → Tenure
tenure_of found asked replies ended = record { found = found; asked = asked; replies = replies; ended = ended }

-- A process has made some of the groups that it was asked, and begun all replies to them. The rest is left. Its table is this one.
pub record GoesOn (s : Setup) (past : List Tenure) (asked left : List (List (List ℕ))) (replies : List Outcome) (h : Held) : Type 0 where
  pub before : List (List ℕ)
  pub done : List (List (List ℕ))
  pub one : IsOneList s (opening_of s) past before
  pub parts : asked ≡ done ++ left
  pub replied : replies ≡ replies_of s (after s (opening_of s) before) (one_by_one done)
  pub held : KeepsHeldAlong s (opening_of s) (before ++ one_by_one done)
  pub leads : h ≡ after s (opening_of s) (before ++ one_by_one done)

module _ {s : Setup} {past : List Tenure} {asked left : List (List (List ℕ))} {replies : List Outcome} {h : Held} (g : GoesOn s past asked left replies h) where
  how_many : length replies ≡ length (one_by_one g.done)
  how_many = ap length g.replied ∙ replies_length s (after s (opening_of s) g.before) (one_by_one g.done)

  -- the table after some commands more, and what they kept
  leads_on : (part : List (List ℕ)) → after s h part ≡ after s (opening_of s) (g.before ++ (one_by_one g.done ++ part))
  leads_on part =
      ap (λ (u : Held). after s u part) g.leads ∙ sym (after-append s (opening_of s) (g.before ++ one_by_one g.done) part)
      ∙ ap (after s (opening_of s)) (append_assoc g.before (one_by_one g.done) part)

  held_on : (part : List (List ℕ)) → KeepsHeldAlong s h part → KeepsHeldAlong s (opening_of s) (g.before ++ (one_by_one g.done ++ part))
  held_on part keeps =
      subst (KeepsHeldAlong s (opening_of s)) (append_assoc g.before (one_by_one g.done) part)
      (held-append s (opening_of s) (g.before ++ one_by_one g.done) part g.held (subst (λ (u : Held). KeepsHeldAlong s u part) g.leads keeps))

  -- what the table replies to all of the tenure
  replies_on : (part : List (List ℕ)) → replies_of s (after s (opening_of s) g.before) (one_by_one g.done ++ part) ≡ replies ++ replies_of s h part
  replies_on part =
      replies-append s (after s (opening_of s) g.before) (one_by_one g.done) part
      ∙ ap (λ (os : List Outcome). os ++ replies_of s (after s (after s (opening_of s) g.before) (one_by_one g.done)) part) (sym g.replied)
      ∙ ap (λ (u : Held). replies ++ replies_of s u part) (sym (g.leads ∙ after-append s (opening_of s) g.before (one_by_one g.done)))

  took : (found : List ℕ) (ended : Ending) (part : List (List ℕ)) (more begun : List Outcome) → IsFirstOf part (next_group left) → begun ≡ replies ++ more
      → (more ≡ []) ⊎ (part ≡ next_group left) → TookEffect (tenure_of found asked begun ended) (one_by_one g.done ++ part)
  took found ended part more begun first grows whole = record {
    before = g.done;
    left = left;
    asked = g.parts;
    part = part;
    first = first;
    is = refl;
    answered = omega (arith, how_many, ap length grows, length-append replies more);
    whole = ⊎_elim (λ none. inl (ap length (grows ∙ ap (λ (os : List Outcome). replies ++ os) none ∙ append-nil replies) ∙ how_many)) (λ all. inr all) whole;
  }

  -- The file stands for the table after some commands of the next group. Some replies to it were begun only if these are all.
  pub stands_on : (found : List ℕ) (ended : Ending) (part : List (List ℕ)) (more begun : List Outcome) → IsFirstOf part (next_group left) → begun ≡ replies ++ more
      → (more ≡ []) ⊎ (part ≡ next_group left) → IsFirstOf more (replies_of s h part) → KeepsHeldAlong s h part
      → (file : List ℕ) → FileStands s (after s h part) file → Keeps s (past ++ tenure_of found asked begun ended ∷ []) file
  stands_on found ended part more begun first grows whole (rest, is) keeps file stands = record {
    commands = g.before ++ (one_by_one g.done ++ part);
    table = after s h part;
    leads = record {
      one = one_more s (opening_of s) past (tenure_of found asked begun ended) g.before (one_by_one g.done ++ part) g.one (took found ended part more begun first grows whole) (
        rest,
        replies_on part ∙ ap (λ (os : List Outcome). replies ++ os) is ∙ sym (append_assoc replies more rest) ∙ ap (λ (os : List Outcome). os ++ rest) (sym grows),
      );
      held = held_on part keeps;
      leads = leads_on part;
    };
    stands = stands;
  }

-- the next group is made and answered
pub goes_on : {s : Setup} {past : List Tenure} {asked left : List (List (List ℕ))} {group : List (List ℕ)} {replies begun : List Outcome} {h new : Held}
    → GoesOn s past asked (group ∷ left) replies h → IsMadeWhole s h new group replies begun → GoesOn s past asked left begun new
goes_on {s} {past} {asked} {left} {group} {replies} {begun} {h} {new} g made =
    let more : one_by_one g.done ++ group ≡ one_by_one (g.done ++ group ∷ []) = sym (one_by_one_more g.done group) in
    record {
      before = g.before;
      done = g.done ++ group ∷ [];
      one = g.one;
      parts = g.parts ∙ sym (append_assoc g.done (group ∷ []) left);
      replied = made.answered ∙ sym (replies_on g group) ∙ ap (replies_of s (after s (opening_of s) g.before)) more;
      held = subst (λ (cs : List (List ℕ)). KeepsHeldAlong s (opening_of s) (g.before ++ cs)) more (held_on g group made.held);
      leads = made.becomes ∙ leads_on g group ∙ ap (λ (cs : List (List ℕ)). after s (opening_of s) (g.before ++ cs)) more;
    }

-- a process that has its table, and has made nothing yet
pub begins : {s : Setup} {past : List Tenure} {commands : List (List ℕ)} {h : Held} (asked : List (List (List ℕ))) → LeadsTo s past commands h → GoesOn s past asked asked [] h
begins {s} {past} {commands} {h} asked leads = record {
  before = commands;
  done = [];
  one = leads.one;
  parts = refl;
  replied = refl;
  held = subst (KeepsHeldAlong s (opening_of s)) (sym (append-nil commands)) leads.held;
  leads = leads.leads ∙ ap (after s (opening_of s)) (sym (append-nil commands));
}

-- a process that makes nothing
pub idle : {s : Setup} {past : List Tenure} {file : List ℕ} (found : List ℕ) (asked : List (List (List ℕ))) (ended : Ending) → Keeps s past file
    → Keeps s (past ++ tenure_of found asked [] ended ∷ []) file
idle {file = file} found asked ended keeps = stands_on (begins asked keeps.leads) found ended [] [] [] (next_group asked, refl) refl (inl refl) ([], refl) tt file keeps.stands

-- to all that a process was asked it has begun replies
pub answered_all : {s : Setup} {past : List Tenure} {asked left : List (List (List ℕ))} {replies : List Outcome} {h : Held} → GoesOn s past asked left replies h
    → left ≡ [] → length replies ≡ length (one_by_one asked)
answered_all {asked = asked} g none =
    how_many g ∙ ap (λ (gs : List (List (List ℕ))). length (one_by_one gs)) (sym (g.parts ∙ ap (λ (gs : List (List (List ℕ))). g.done ++ gs) none ∙ append-nil g.done))
