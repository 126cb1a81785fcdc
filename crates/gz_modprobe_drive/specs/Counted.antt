-- Which notes of a lint count for its status.
use Rattle.std.specs.Prelude.{Bool, not, ◌||◌, nat_lt, List, codes, length}
use Rattle.std.specs.List.{list_any}
use Rattle.std.specs.Str.{bytes_eq}
use Rattle.machine_lint.specs.declared.note.Note.{Note}
use Rattle.answer_facts.specs.declared.fact.Fact.{Fact}
use Rattle.answer_facts.specs.NoteFacts.{because}

-- A command that keeps nothing out, as hardening guides have them for any machine, does no harm. With --strict it counts too.
abbrev pub is_counted : Bool → Note → Bool
is_counted strict note = strict || not (bytes_eq (because note.setting note.kind) (codes "keeps_nothing"))

-- anything is told that counts: a note that does, or what is no note
abbrev pub is_noted : Bool → List Note → List Fact → Bool
is_noted strict notes facts = list_any (is_counted strict) notes || nat_lt (length notes) (length facts)
