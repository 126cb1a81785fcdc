-- What a line of a schedule asks of a thread.
use Rattle.std.specs.Prelude.{ℕ, ◌==◌, if◌then◌else◌, List, [], ◌∷◌, length, codes, Option, Some, None}
use Rattle.std.specs.Option.{option_map}
use Rattle.std.specs.Str.{bytes_eq}
use Rattle.text_parts.specs.Text.{number_within}
use Rattle.call_words.specs.declared.verb.Verb.{Verb}
use Rattle.call_words.specs.Calls.{Said, call_of}
use Rattle.workload_drive.specs.Statements.{from_one, largest}

-- so many steps, or a call on the module of a name
pub data Order : Type 0 where
  go : ℕ → Order
  make : Verb → List ℕ → Order

-- a call after which no word stands
abbrev pub made : Option Said → Option Order
made None = None
made (Some said) = if length said.later == 0 then Some (make said.verb said.name) else None

-- the steps that the words after `go` ask for
abbrev pub go_of : List (List ℕ) → Option Order
go_of [] = Some (go 1)
go_of (count ∷ []) = option_map go (from_one (number_within 1000000 count))
go_of (_ ∷ _ ∷ _) = None

-- the order of the words after a thread; None if they have no form
abbrev pub order_of : List (List ℕ) → Option Order
order_of [] = None
order_of (first ∷ []) = if bytes_eq first (codes "go") then Some (go 1) else None
order_of (first ∷ second ∷ later) =
    if bytes_eq first (codes "go") then go_of (second ∷ later)
    else made (call_of (first ∷ second ∷ later) (number_within largest second))
