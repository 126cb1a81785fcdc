-- What is made of the references of one holder.
use Rattle.std.specs.Prelude.{ℕ, ◌==◌, Bool, ◌||◌, if◌then◌else◌, List, [], ◌∷◌, ◌++◌, map, filter, codes, Option, None}
use Rattle.dep_index.specs.Table.{Table, count_of}
use Rattle.dep_index.specs.declared.table.calls.Call.TheVariants as call
use Rattle.modprobe.specs.declared.refusal.Code.TheVariants.{NotHeld}
use Rattle.modprobe.specs.Setup.{Setup, name_at}
use Rattle.modprobe.specs.Refusals.{Refusal, refuse, code_of}
use Rattle.modprobe.specs.Changes.{Change, ◌then◌, call_change}
use Rattle.modprobe.specs.Plans.{words_text}
use Rattle.held_lines.specs.Held.{given_back}

-- the modules of these that the holder does not hold, or all of them
abbrev pub to_take : Bool → ℕ → Table → List ℕ → List ℕ
to_take again number t slots = filter (λ slot. again || count_of t number slot == 0) slots

-- a get of each of these modules, one after another, up to the first that is refused
abbrev pub gets : Setup → ℕ → List ℕ → Table → Change
gets s number [] t = (None, t)
gets s number (slot ∷ slots) t = call_change s code_of slot (call.Get number slot) t then (λ u. gets s number slots u)

-- the first of these modules that the holder does not hold
abbrev pub first_not_held : Setup → ℕ → Table → List ℕ → Option Refusal
first_not_held s number t [] = None
first_not_held s number t (slot ∷ slots) =
    if count_of t number slot == 0 then refuse NotHeld (name_at s slot) else first_not_held s number t slots

-- the holder has given back all references to each of these modules
abbrev pub each_given_back : ℕ → List ℕ → Table → Table
each_given_back number [] t = t
each_given_back number (slot ∷ slots) t = each_given_back number slots (given_back number slot t)

-- what a hold that is done is answered: `ok`, and the names of its modules
abbrev pub held_line : Setup → List ℕ → List ℕ
held_line s slots = codes "ok" ++ (words_text (map (name_at s) slots) ++ 10 ∷ [])
