-- The definitions, computed on rows.
use Rattle.std.proofs.Common.{◌≡◌, ℕ, [], ◌∷◌, List, Bool, true, false, Option, Some, Err, codes, refl}
use Rattle.std.specs.Option.{option_map}
use Rattle.std.specs.Result.{result_ok}
use Rattle.alias_match.specs.declared.read.PatternError.TheVariants.{Unclosed, Class, Backslash}
use Rattle.alias_match.specs.Pattern.{is_match}
use Rattle.alias_match.specs.Reading.{pattern_of}
use Rattle.alias_match.specs.Aliases.{aliases_of}

abbrev answer : List ℕ → List ℕ → Option Bool
answer pattern text = option_map (λ ps. is_match ps text) (result_ok (pattern_of pattern))

empty_set : pattern_of (codes "[!]") ≡ Err Unclosed
empty_set = refl

open_range : pattern_of (codes "[a-") ≡ Err Unclosed
open_range = refl

class_of_letters : pattern_of (codes "x[[:alpha:]]") ≡ Err Class
class_of_letters = refl

last_backslash : pattern_of (120 ∷ 91 ∷ 97 ∷ 45 ∷ 92 ∷ []) ≡ Err Backslash
last_backslash = refl

dash_is_underscore : answer (codes "a-b") (codes "a_b") ≡ Some true
dash_is_underscore = refl

dash_is_no_dash : answer (codes "a-b") (codes "a-b") ≡ Some false
dash_is_no_dash = refl

dash_in_set : answer (codes "[a-]") (codes "-") ≡ Some true
dash_in_set = refl

run_is_nothing : answer (codes "*") [] ≡ Some true
run_is_nothing = refl

run_takes_more : answer (codes "usb:v[0-9A-F]*p??") (codes "usb:v0pp12") ≡ Some true
run_takes_more = refl

set_has_no_g : answer (codes "usb:v[0-9A-F]*p??") (codes "usb:vGp12") ≡ Some false
set_has_no_g = refl

bracket_ends_range : answer (codes "[a-[:]") (codes ":") ≡ Some true
bracket_ends_range = refl

skipped_lines : (aliases_of (codes "alias [ x")).skipped ≡ 1 ∷ []
skipped_lines = refl
