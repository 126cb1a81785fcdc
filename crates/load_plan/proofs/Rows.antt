-- The definitions, computed on texts.
use Rattle.std.proofs.Common.{◌≡◌, ℕ, List, [], ◌∷◌, map, Bool, true, false, Ok, Err, Result, refl}
use Rattle.std.specs.List.{list_all, list_any}
use Rattle.std.specs.Prelude.{codes}
use Rattle.dep_index.specs.Catalogue.{Description, Refusal, read_lines, no_draft, modules_read, description_at}
use Rattle.dep_index.specs.Dependencies.{Pair, dep_lines, DepRefusal}
use Rattle.modprobe_conf.specs.Configuration.{Configuration, configuration_for, entry_of, joined_lines}
use Rattle.alias_match.specs.declared.alias.Alias.{Alias}
use Rattle.alias_match.specs.Aliases.{entries_of, alias_of}
use Rattle.load_plan.specs.declared.items.Item.{Item}
use Rattle.load_plan.specs.declared.items.PlanError.TheVariants as error
use Rattle.load_plan.specs.Items.{plan_of, removal_plan_of}
use Rattle.load_plan.specs.LookUp.{found}
use Rattle.load_plan.specs.Parameters.{are_valid}

-- what a text of lines says
abbrev modules_of : Result (List Description) (Refusal × ℕ) → List Description
modules_of (Ok modules) = modules
modules_of (Err e) = []

abbrev catalogue : List (List ℕ) → List Description
catalogue lines = modules_of (modules_read (read_lines 1 no_draft lines))

abbrev pairs_of : Result (List Pair) (DepRefusal × ℕ) → List Pair
pairs_of (Ok pairs) = pairs
pairs_of (Err e) = []

abbrev dependencies : List (List ℕ) → List Pair
dependencies lines = pairs_of (dep_lines 1 [] lines)

abbrev configuration : List (List ℕ) → Configuration
configuration lines = configuration_for (entries_of entry_of (joined_lines 1 lines))

abbrev aliases : List (List ℕ) → List Alias
aliases lines = (entries_of alias_of (map (λ line. (1, line)) lines)).entries

-- an item without words
abbrev item : ℕ → Bool → Item
item m soft = record { slot = m; soft = soft; options = [] }

abbrev four : List Description
four = catalogue (codes "module a" ∷ codes "module c" ∷ codes "module d" ∷ codes "module e" ∷ [])

soft_items : plan_of four [] (configuration (codes "softdep c pre: a b post: d e" ∷ codes "options c debug=1" ∷ [])) (codes "c") [] ≡ Ok (item 0 true ∷ record { slot = 1; soft = false; options = codes "debug=1" ∷ [] } ∷ item 2 true ∷ item 3 true ∷ [])
soft_items = refl

abbrev two : List Description
two = catalogue (codes "module a" ∷ codes "module b" ∷ [])

each_before : plan_of two [] (configuration (codes "softdep a pre: b" ∷ codes "softdep b pre: a" ∷ [])) (codes "a") [] ≡ Ok (item 1 true ∷ item 0 false ∷ [])
each_before = refl

each_behind : plan_of two [] (configuration (codes "softdep a post: b" ∷ codes "softdep b post: a" ∷ [])) (codes "a") [] ≡ Ok (item 0 false ∷ item 1 true ∷ [])
each_behind = refl

abbrev with_params : List Description
with_params = catalogue (codes "module x" ∷ codes "module y" ∷ codes "param debug bool" ∷ codes "param level int" ∷ codes "module z" ∷ codes "module w" ∷ [])

abbrev joined : Configuration
joined = configuration (codes "options y debug=1 \\" ∷ codes " level=3" ∷ codes "install x /bin/true" ∷ codes "softdep z pre: y" ∷ codes "install z /bin/true" ∷ codes "blacklist w \\" ∷ [])

install_line : plan_of with_params [] joined (codes "x") [] ≡ Err (error.Install (codes "x"))
install_line = refl

options_and_words : plan_of with_params [] joined (codes "y") (codes "level=4" ∷ []) ≡ Ok (record { slot = 1; soft = false; options = codes "debug=1" ∷ codes "level=3" ∷ codes "level=4" ∷ [] } ∷ [])
options_and_words = refl

softdep_lifts_install : plan_of with_params [] joined (codes "z") [] ≡ Ok (record { slot = 1; soft = true; options = codes "debug=1" ∷ codes "level=3" ∷ [] } ∷ item 2 false ∷ [])
softdep_lifts_install = refl

no_module : plan_of with_params [] joined (codes "no-such") [] ≡ Err (error.Unknown (codes "no_such"))
no_module = refl

values : map (are_valid (description_at with_params 1)) ((codes "debug=maybe" ∷ []) ∷ (codes "debug" ∷ codes "other=9" ∷ []) ∷ (codes "level=-0x80000000" ∷ []) ∷ (codes "level=2147483648" ∷ []) ∷ (codes "level=-0" ∷ []) ∷ (codes "level" ∷ []) ∷ []) ≡ false ∷ true ∷ true ∷ false ∷ true ∷ false ∷ []
values = refl

abbrev third_version : List Description
third_version =
    catalogue (
    codes "version 3" ∷ codes "module a" ∷ codes "param b byte" ∷ codes "param s short[]" ∷ codes "param l long" ∷ codes "param u ulong"
    ∷ codes "param h hexint" ∷ codes "param i invbool" ∷ codes "param f bool[]" ∷ codes "param m ullong" ∷ codes "param j bint" ∷ []
    )

good_values : list_all (λ word. are_valid (description_at third_version 0) (word ∷ [])) (
    codes "b=0xff" ∷ codes "s=-32768,32767,0" ∷ codes "s=007" ∷ codes "l=-9223372036854775808" ∷ codes "u=0XFFFFFFFFFFFFFFFF" ∷ codes "h=4294967295"
    ∷ codes "i=n" ∷ codes "f=Y,0" ∷ codes "m=18446744073709551615" ∷ codes "j" ∷ codes "j=N" ∷ []
    ) ≡ true
good_values = refl

bad_values : list_any (λ word. are_valid (description_at third_version 0) (word ∷ [])) (
    codes "b=256" ∷ codes "b=-1" ∷ codes "b" ∷ codes "s=1,,2" ∷ codes "s=1,2," ∷ codes "s=" ∷ codes "s" ∷ codes "s=32768" ∷ codes "l=9223372036854775808"
    ∷ codes "u=18446744073709551616" ∷ codes "u=+1" ∷ codes "h=0x100000000" ∷ codes "h=0x" ∷ codes "i=maybe" ∷ codes "i" ∷ codes "f" ∷ codes "f=y, n" ∷ codes "m=-1" ∷ codes "m" ∷ codes "j=2" ∷ []
    ) ≡ false
bad_values = refl

circle : plan_of (catalogue (codes "module a" ∷ codes "exports fa" ∷ codes "needs fb" ∷ codes "module b" ∷ codes "exports fb" ∷ codes "needs fa" ∷ [])) (dependencies (codes "kernel/a.ko: kernel/b.ko" ∷ codes "kernel/b.ko.xz: kernel/a.ko" ∷ [])) (configuration []) (codes "a") [] ≡ Err (error.Cycle (codes "a"))
circle = refl

abbrev second_version : List Description
second_version = catalogue (codes "version 2" ∷ codes "module a" ∷ codes "softneeds d b" ∷ codes "module c" ∷ codes "softneeds a" ∷ codes "module d" ∷ [])

softneeds : plan_of second_version [] (configuration []) (codes "c") [] ≡ Ok (item 2 true ∷ item 0 true ∷ item 1 false ∷ [])
softneeds = refl

softdep_in_place_of_softneeds : plan_of second_version [] (configuration (codes "softdep c post: d" ∷ [])) (codes "c") [] ≡ Ok (item 1 false ∷ item 2 true ∷ [])
softdep_in_place_of_softneeds = refl

abbrev sound : List Description
sound = catalogue (codes "module snd" ∷ codes "exports s" ∷ codes "module snd-pcm" ∷ codes "needs s" ∷ [])

remove_line : removal_plan_of sound [] (configuration (codes "remove snd /bin/true" ∷ [])) (codes "snd") ≡ Err (error.Remove (codes "snd"))
remove_line = refl

removed_with : removal_plan_of sound [] (configuration (codes "remove snd /bin/true" ∷ [])) (codes "snd-pcm") ≡ Ok (1 ∷ 0 ∷ [])
removed_with = refl

abbrev usb : List Description
usb = catalogue (codes "module usbx" ∷ [])

abbrev known : List Alias
known = aliases (codes "alias usb:v[0-9A-F]*p?? usbx" ∷ [])

by_alias : found usb (configuration []) known (codes "usb:v0pp12") ≡ codes "usbx" ∷ []
by_alias = refl

blacklisted_alias : found usb (configuration (codes "blacklist usbx" ∷ [])) known (codes "usb:v0pp12") ≡ []
blacklisted_alias = refl

blacklisted_name : found usb (configuration (codes "blacklist usbx" ∷ [])) known (codes "usbx") ≡ codes "usbx" ∷ []
blacklisted_name = refl
