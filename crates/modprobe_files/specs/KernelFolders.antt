-- Where the kernel shows its modules (sysfs(5)).
use Rattle.std.specs.Prelude.{ℕ, List, ◌++◌, codes}

-- /sys/module/NAME/holders
abbrev pub holders_folder : List ℕ → List ℕ
holders_folder name = codes "/sys/module/" ++ name ++ codes "/holders"
