-- The definitions, computed on rows.
use Rattle.std.proofs.Common.{◌≡◌, ℕ, [], ◌∷◌, ◌++◌, List, true, false, Some, codes, refl}
use Rattle.modprobe_conf.specs.Configuration.{configuration_of, options_of, softdep_of, has_install_line, has_remove_line, is_blacklisted}

-- `options y debug=1 \`, ` level=3`, `install x /bin/true`, `softdep z pre: y`, `blacklist w \`
abbrev text : List ℕ
text =
    codes "options y debug=1 " ++ 92 ∷ 10 ∷ codes " level=3" ++ 10 ∷ codes "install x /bin/true" ++ 10 ∷ codes "softdep z pre: y"
    ++ 10 ∷ codes "blacklist w " ++ 92 ∷ []

joined_options : options_of (configuration_of text) (codes "y") ≡ codes "debug=1" ∷ codes "level=3" ∷ []
joined_options = refl

install : has_install_line (configuration_of text) (codes "x") ≡ true
install = refl

no_remove : has_remove_line (configuration_of text) (codes "x") ≡ false
no_remove = refl

softdep : softdep_of (configuration_of text) (codes "z") ≡ Some (record { pre = codes "y" ∷ []; post = [] })
softdep = refl

last_backslash : is_blacklisted (configuration_of text) (codes "w") ≡ true
last_backslash = refl

nothing_skipped : (configuration_of text).skipped ≡ []
nothing_skipped = refl

-- a comment that ends with a backslash swallows the next line, and a joined line has the number of its first line
skipped : (configuration_of (codes "# x" ++ 92 ∷ 10 ∷ codes "frob" ++ 10 ∷ codes "frob " ++ 92 ∷ 10 ∷ codes "x")).skipped ≡ 3 ∷ []
skipped = refl
