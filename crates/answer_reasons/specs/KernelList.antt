-- Which modules the kernel's command line keeps the kernel from loading: `module_blacklist=` of the kernel's parameters.
use Rattle.std.specs.Prelude.{ℕ, Bool, not, if◌then◌else◌, List, [], ◌∷◌, codes, drop, take}
use Rattle.std.specs.Str.{bytes_eq}

-- The names that a word lists, in place of those of earlier words. In the name of a parameter the kernel takes - for _.
abbrev pub list_after : List ℕ → List ℕ → List ℕ
list_after list word = if bytes_eq (take 17 word) (codes "module_blacklist=") then drop 17 word else
    if bytes_eq (take 17 word) (codes "module-blacklist=") then drop 17 word else list

-- The last list among words. What stands after `--` is not the kernel's.
abbrev pub kernel_list : List ℕ → List (List ℕ) → List ℕ
kernel_list list [] = list
kernel_list list (word ∷ words) = if bytes_eq word (codes "--") then list else kernel_list (list_after list word) words

-- another name than a module's very own
abbrev pub is_other : List ℕ → List ℕ → Bool
is_other name item = not (bytes_eq name item)
