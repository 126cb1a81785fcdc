-- The lines of a configuration (modprobe.d(5)), each in one form.
use Rattle.std.specs.Prelude.{ℕ, Bool, true, false, ◌&&◌, nat_eq, nat_lt, List, [], ◌++◌, length, map, slice_get, unwrap_or}
use Rattle.kmod_names.specs.declared.alias_table.AliasEntry.{AliasEntry}
use Rattle.kmod_names.specs.declared.place.Place.{Place}
use Rattle.kmod_conf.specs.declared.line.NameLine.{NameLine}
use Rattle.kmod_conf.specs.declared.line.SoftdepLine.{SoftdepLine}
use Rattle.kmod_conf.specs.declared.line.TextLine.{TextLine}
use Rattle.kmod_conf.specs.declared.line.WeakdepLine.{WeakdepLine}
use Rattle.kmod_conf.specs.Configuration.{Configuration}
use Rattle.machine_lint.specs.declared.known.Origin.{Origin}
use Rattle.machine_lint.specs.declared.known.Origin.TheVariants.{Own, Package, Depmod, Kernel}
use Rattle.machine_lint.specs.declared.setting.Setting.{Setting}
use Rattle.machine_lint.specs.declared.setting.Setting.TheVariants as sets

-- A line: where it stands, what it sets, and its name. The text after the name is the module of an alias line, the options,
-- or the command; the items are those of a softdep or weakdep line. A bad line has its first word for a name.
pub record Said : Type 0 where
  pub place : Place
  pub setting : Setting
  pub name : List ℕ
  pub text : List ℕ
  pub items : List (List ℕ)

abbrev pub said : Place → Setting → List ℕ → List ℕ → List (List ℕ) → Said
said place own name text items =
    record { place = place; setting = own; name = name; text = text; items = items }

abbrev pub of_alias : AliasEntry → Said
of_alias line = said line.place sets.Alias line.pattern line.target []

abbrev pub of_name : Setting → NameLine → Said
of_name own line = said line.place own line.name [] []

abbrev pub of_text : Setting → TextLine → Said
of_text own line = said line.place own line.name line.text []

abbrev pub of_softdep : SoftdepLine → Said
of_softdep line = said line.place sets.Softdep line.name [] (line.items.pre ++ line.items.post)

abbrev pub of_weakdep : WeakdepLine → Said
of_weakdep line = said line.place sets.Weakdep line.name [] line.items

-- all lines of a configuration, kind by kind
unfoldable pub lines_of : Configuration → List Said
lines_of conf =
    map of_alias conf.aliases ++ map (of_name sets.Blacklist) conf.blacklist ++ map (of_text sets.Options) conf.options
    ++ map (of_text sets.Install) conf.installs ++ map (of_text sets.Remove) conf.removes
    ++ map of_softdep conf.softdeps ++ map of_weakdep conf.weakdeps ++ map (of_name sets.Bad) conf.bad

abbrev pub has_items : Said → Bool
has_items line = nat_lt 0 (length line.items)

-- two lines stand at one place
abbrev pub is_same_place : Place → Place → Bool
is_same_place one other = nat_eq one.source other.source && nat_eq one.line other.line

-- who wrote the text of a number; that after the files is the kernel's command line
abbrev pub origin_at : List Origin → ℕ → Origin
origin_at files source = unwrap_or (slice_get files source) Kernel

abbrev pub is_depmod : Origin → Bool
is_depmod Own = false
is_depmod Package = false
is_depmod Depmod = true
is_depmod Kernel = false

abbrev pub is_package : Origin → Bool
is_package Own = false
is_package Package = true
is_package Depmod = false
is_package Kernel = false

abbrev pub is_kernel : Origin → Bool
is_kernel Own = false
is_kernel Package = false
is_kernel Depmod = false
is_kernel Kernel = true
