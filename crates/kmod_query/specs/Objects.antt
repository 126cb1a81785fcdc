-- What a name stands for.
use Rattle.std.specs.Prelude.{ℕ, Bool, false, ◌&&◌, if◌then◌else◌, Option, None, option_map, List, [], ◌∷◌, ◌++◌, map, Vec}
use Rattle.std.specs.Bool.{beq}
use Rattle.std.specs.List.{list_any}
use Rattle.std.specs.Option.{option_eq}
use Rattle.std.specs.Global.{Global}
use Rattle.std.specs.Str.{bytes_eq}
use Rattle.kmod_query.specs.declared.object.Object.{Object as CodeObject}

-- a module, the alias by which it was found, if it was by one, and whether that is an alias of a built-in module
pub record Object : Type 0 where
  pub name : List ℕ
  pub alias : Option (List ℕ)
  pub builtin : Bool

-- a module by its own name
abbrev pub by_name : List ℕ → Object
by_name name = record { name = name; alias = None; builtin = false }

abbrev pub is_same : Object → Object → Bool
is_same a b = (bytes_eq a.name b.name && option_eq bytes_eq a.alias b.alias) && beq a.builtin b.builtin

abbrev pub has : List Object → Object → Bool
has objects object = list_any (is_same object) objects

-- how contracts see objects of the code
abbrev pub alias_of : Option (Vec ℕ Global) → Option (List ℕ)
alias_of alias = option_map (λ text. text.items) alias

abbrev pub object_of : CodeObject → Object
object_of o = record { name = o.name.items; alias = alias_of o.alias; builtin = o.builtin }

abbrev pub objects_of : List CodeObject → List Object
objects_of os = map object_of os

-- the object of its parts
abbrev pub object_with : Vec ℕ Global × Option (Vec ℕ Global) × Bool → Object
object_with parts = record { name = parts.0.items; alias = alias_of parts.1; builtin = parts.2 }

abbrev pub with_object : List Object → Object → List Object
with_object objects object = if has objects object then objects else objects ++ object ∷ []

-- names of the code, as their bytes
abbrev pub names_of : List (Vec ℕ Global) → List (List ℕ)
names_of names = map (λ name. name.items) names
