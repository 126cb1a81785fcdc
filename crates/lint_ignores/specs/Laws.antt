-- Which words name notes.
use Rattle.std.specs.Prelude.{◌≡◌, true}
use Rattle.machine_lint.specs.declared.note.NoteKind.{NoteKind}
use Rattle.machine_lint.specs.declared.setting.Setting.{Setting}
use Rattle.answer_facts.specs.NoteFacts.{because}
use Rattle.lint_ignores.specs.Kinds.{is_kind}

-- each note is of a kind, so each can be ignored
abbrev pub EachHasAKind : Type 0
EachHasAKind = (setting : Setting) (kind : NoteKind) → is_kind (because setting kind) ≡ true
