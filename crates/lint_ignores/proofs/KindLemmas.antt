-- Each note is of a kind.
use Rattle.std.proofs.Common.{◌≡◌, true, refl}
use Rattle.machine_lint.specs.declared.note.NoteKind.{NoteKind}
use Rattle.machine_lint.specs.declared.note.NoteKind.TheVariants as of_kind
use Rattle.machine_lint.specs.declared.setting.Setting.{Setting}
use Rattle.machine_lint.specs.declared.setting.Setting.TheVariants as sets
use Rattle.answer_facts.specs.NoteFacts.{because, unknown_because}
use Rattle.lint_ignores.specs.Kinds.{is_kind}
use Rattle.lint_ignores.specs.Laws.{EachHasAKind}

unknown : (setting : Setting) → is_kind (unknown_because setting) ≡ true
unknown sets.Alias = refl
unknown sets.Blacklist = refl
unknown sets.Options = refl
unknown sets.Install = refl
unknown sets.Remove = refl
unknown sets.Softdep = refl
unknown sets.Weakdep = refl
unknown sets.Bad = refl

pub each_has_a_kind : EachHasAKind
each_has_a_kind setting of_kind.BadLine = refl
each_has_a_kind setting of_kind.CarriageReturn = refl
each_has_a_kind setting of_kind.Unknown = unknown setting
each_has_a_kind setting of_kind.Pattern = refl
each_has_a_kind setting of_kind.BuiltIn = refl
each_has_a_kind setting of_kind.AliasName = refl
each_has_a_kind setting (of_kind.UnknownModule target) = refl
each_has_a_kind setting of_kind.NoItem = refl
each_has_a_kind setting (of_kind.UnknownItem item) = refl
each_has_a_kind setting of_kind.OwnItem = refl
each_has_a_kind setting (of_kind.RingItem item) = refl
each_has_a_kind setting (of_kind.Later place) = refl
each_has_a_kind setting (of_kind.PassedOver place) = refl
each_has_a_kind setting (of_kind.Repeated place) = refl
each_has_a_kind setting (of_kind.Stopped place) = refl
each_has_a_kind setting (of_kind.UnknownParameter parameter) = refl
each_has_a_kind setting (of_kind.SetLater parameter place) = refl
each_has_a_kind setting (of_kind.OtherText place) = refl
each_has_a_kind setting of_kind.UnknownKind = refl
