-- Tenures and their one list of commands: durable linearizability (Izraelevitz, Mendes, Scott, Linearizability of persistent memory
-- objects under a full-system-crash failure model, DISC 2016), of processes that use a table one after another.
use Rattle.std.specs.Prelude.{◌≡◌, ◌⊎◌, ◌≤◌, ℕ, List, [], ◌∷◌, ◌++◌, length, map, Result}
use Rattle.modprobe.specs.Setup.{Setup}
use Rattle.modprobe.specs.Outcomes.{Outcome}
use Rattle.held_table.specs.Held.{Held}
use Rattle.held_lines.specs.Outcomes.{after}
use Rattle.durable_table.specs.Groups.{replies_of}
use Rattle.tenures.specs.declared.ending.Stopped.{Stopped}

-- One process from lock to unlock: the file that it found; the groups of commands that it was asked, one group after another;
-- the replies that it began, to the first of these commands; and how it ended.
pub record Tenure : Type 0 where
  pub found : List ℕ
  pub asked : List (List (List ℕ))
  pub replies : List Outcome
  pub ended : Result (Unit {0}) Stopped

-- what each of them was asked
abbrev pub asked_of : List Tenure → List (List (List (List ℕ)))
asked_of tenures = map (λ tenure. tenure.asked) tenures

-- the commands of groups, one by one
abbrev pub one_by_one : List (List (List ℕ)) → List (List ℕ)
one_by_one [] = []
one_by_one (group ∷ groups) = group ++ one_by_one groups

-- the first of some groups; no commands, if there is none
abbrev pub next_group : List (List (List ℕ)) → List (List ℕ)
next_group [] = []
next_group (group ∷ groups) = group

-- the first of a list: none, some or all
abbrev pub IsFirstOf : {X : Type 0} → List X → List X → Type 0
IsFirstOf {X} first all = (rest : List X) × (all ≡ first ++ rest)

-- These commands of a tenure took effect: all those of its first groups, whose replies were all begun, and the first of the next
-- group: none, some or all. If a reply to the next group was begun, all of it took effect.
pub record TookEffect (tenure : Tenure) (own : List (List ℕ)) : Type 0 where
  pub before : List (List (List ℕ))
  pub left : List (List (List ℕ))
  pub asked : tenure.asked ≡ before ++ left
  pub part : List (List ℕ)
  pub first : IsFirstOf part (next_group left)
  pub is : own ≡ one_by_one before ++ part
  pub answered : length (one_by_one before) ≤ length tenure.replies
  pub whole : (length tenure.replies ≡ length (one_by_one before)) ⊎ (part ≡ next_group left)

-- One list of commands for all tenures, from this table on. It has the commands of each that took effect, tenure by tenure. The
-- replies that a tenure began are the first of those that the table gives there to its commands.
abbrev pub IsOneList : Setup → Held → List Tenure → List (List ℕ) → Type 0
IsOneList s h [] commands = commands ≡ []
IsOneList s h (tenure ∷ later) commands =
    (own rest : List (List ℕ)) × (commands ≡ own ++ rest) × TookEffect tenure own
    × IsFirstOf tenure.replies (replies_of s h own) × IsOneList s (after s h own) later rest
