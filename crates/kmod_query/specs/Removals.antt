-- Serves proofs alone: steps of a removal, as the code makes them.
use Rattle.std.specs.Prelude.{◌≡◌, ℕ, suc, List, [], ◌∷◌, ◌++◌, if◌then◌else◌, map, reverse}
use Rattle.std.specs.List.{list_any}
use Rattle.std.specs.Str.{bytes_eq}
use Rattle.kmod_query.specs.declared.query.Query.{Query}
use Rattle.kmod_query.specs.declared.removal.Course.{Course}
use Rattle.kmod_query.specs.declared.removal.Removal.{Removal}
use Rattle.kmod_query.specs.declared.removal.Removal.TheVariants.{Take, Release, Leave}
use Rattle.kmod_query.specs.declared.removal.Step.{Step}
use Rattle.kmod_query.specs.Answers.{Answer, and_also}
use Rattle.kmod_query.specs.Facts.{Facts}
use Rattle.kmod_query.specs.Objects.{object_of}
use Rattle.kmod_query.specs.Removal.{Task, take, release, leave, run_removal}

abbrev pub removal_of : Removal → Task
removal_of (Take soft object) = take soft (object_of object)
removal_of (Release soft object) = release soft (object_of object)
removal_of Leave = leave

abbrev pub removals_of : List Removal → List Task
removals_of tasks = reverse (map removal_of tasks)

-- names with one more after them, if it is not there
abbrev pub with_name : List (List ℕ) → List ℕ → List (List ℕ)
with_name names name = if list_any (bytes_eq name) names then names else names ++ name ∷ []

-- what a step answers with what comes after it
abbrev pub after : Step → Answer → Answer
after step later = if step.ended then step.answer else and_also step.answer later

-- a step, of the task that stands before the others
abbrev pub Moves : Facts → Query → Task → Course → Course → Step → Type 0
Moves facts query task old new step =
    (n : ℕ) → run_removal facts query (suc n) old.way (task ∷ removals_of old.stack.items)
    ≡ after step (run_removal facts query n new.way (removals_of new.stack.items))
