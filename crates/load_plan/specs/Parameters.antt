-- Which words of a command are good values of a module's parameters, as init_module(2) takes them.
use Rattle.std.specs.Prelude.{ℕ, ◌+◌, ◌-◌, ◌*◌, Bool, true, false, if◌then◌else◌, ◌&&◌, ◌||◌, ◌==◌, nat_le, List, [], ◌∷◌, length, codes, take, drop, position, Option, Some, None}
use Rattle.std.specs.List.{list_all, before_first, slice_split}
use Rattle.std.specs.Option.{option_map}
use Rattle.std.specs.Str.{bytes_eq}
use Rattle.text_parts.specs.Text.{normal_form, is_digit}
use Rattle.dep_index.specs.Catalogue.{Description}
use Rattle.dep_index.specs.declared.catalogue.params.ParamKind.{ParamKind}
use Rattle.dep_index.specs.declared.catalogue.params.ParamKind.TheVariants.{Charp, One, Array}
use Rattle.dep_index.specs.declared.catalogue.params.Scalar.{Scalar}
use Rattle.dep_index.specs.declared.catalogue.params.Scalar.TheVariants.{Byte, Short, Ushort, Int, Uint, Long, Ulong, Ullong, Hexint, Bool as Boolean, Bint, Invbool}
use Rattle.dep_index.specs.declared.catalogue.params.Param.{Param}
use Rattle.load_plan.specs.declared.values.Base.{Base}
use Rattle.load_plan.specs.declared.values.Base.TheVariants.{Decimal, Hexadecimal}

abbrev pub is_equals : ℕ → Bool
is_equals byte = byte == 61

-- the part of a word before its first `=`
abbrev pub name_of : List ℕ → List ℕ
name_of word = before_first is_equals word

-- the part after it, if there is one
abbrev pub value_of : List ℕ → Option (List ℕ)
value_of word = option_map (λ place. drop (place + 1) word) (position is_equals word)

abbrev pub digit_of : Base → ℕ → Option ℕ
digit_of Decimal byte = if is_digit byte then Some (byte - 48) else None
digit_of Hexadecimal byte =
    if is_digit byte then Some (byte - 48)
    else (if nat_le 97 byte && nat_le byte 102 then Some (byte - 87)
    else (if nat_le 65 byte && nat_le byte 70 then Some (byte - 55) else None))

abbrev pub radix : Base → ℕ
radix Decimal = 10
radix Hexadecimal = 16

abbrev pub with_digit : Base → ℕ → Option ℕ → (ℕ → Option ℕ) → Option ℕ
with_digit base high None rest = None
with_digit base high (Some digit) rest = rest (high * radix base + digit)

-- the number that digits are, after those that came before them, if all are digits
abbrev pub number_from : Base → ℕ → List ℕ → Option ℕ
number_from base high [] = Some high
number_from base high (byte ∷ bytes) = with_digit base high (digit_of base byte) (λ next. number_from base next bytes)

-- the number that one or more digits are
abbrev pub number_of : Base → List ℕ → Option ℕ
number_of base [] = None
number_of base (byte ∷ bytes) = number_from base 0 (byte ∷ bytes)

-- a number without its sign: hexadecimal after `0x` or `0X`, else decimal, also with leading zeros
abbrev pub magnitude : List ℕ → Option ℕ
magnitude (first ∷ second ∷ digits) =
    if first == 48 && (second == 120 || second == 88)
    then number_of Hexadecimal digits
    else number_of Decimal (first ∷ second ∷ digits)
magnitude digits = number_of Decimal digits

abbrev pub at_most : ℕ → Option ℕ → Bool
at_most limit None = false
at_most limit (Some n) = nat_le n limit

-- a number without a sign, at most the limit
abbrev pub is_unsigned : ℕ → List ℕ → Bool
is_unsigned limit value = at_most limit (magnitude value)

-- a number at most the limit, and after `-` at most one more
abbrev pub is_signed : ℕ → List ℕ → Bool
is_signed limit [] = false
is_signed limit (byte ∷ bytes) = if byte == 45 then at_most (limit + 1) (magnitude bytes) else at_most limit (magnitude (byte ∷ bytes))

-- one of `y Y 1 n N 0`
abbrev pub is_bool : List ℕ → Bool
is_bool (byte ∷ []) = byte == 121 || byte == 89 || byte == 49 || byte == 110 || byte == 78 || byte == 48
is_bool _ = false

-- whether a type of one value takes it: a number of its bits, or a truth value
abbrev pub takes_one : Scalar → List ℕ → Bool
takes_one Byte value = is_unsigned 255 value
takes_one Short value = is_signed 32767 value
takes_one Ushort value = is_unsigned 65535 value
takes_one Int value = is_signed 2147483647 value
takes_one Uint value = is_unsigned 4294967295 value
takes_one Long value = is_signed 9223372036854775807 value
takes_one Ulong value = is_unsigned 18446744073709551615 value
takes_one Ullong value = is_unsigned 18446744073709551615 value
takes_one Hexint value = is_unsigned 4294967295 value
takes_one Boolean value = is_bool value
takes_one Bint value = is_bool value
takes_one Invbool value = is_bool value

-- whether a parameter of the type may stand without a value, which is then true: the types that kernel/params.c marks
-- KERNEL_PARAM_OPS_FL_NOARG
abbrev pub may_stand_alone : Scalar → Bool
may_stand_alone Boolean = true
may_stand_alone Bint = true
may_stand_alone _ = false

-- a value without a quote at its end
abbrev pub without_last_quote : List ℕ → List ℕ
without_last_quote value =
    if bytes_eq (drop (length value - 1) value) (codes "\"") then take (length value - 1) value else value

-- a value without the quotes round it, as next_arg of lib/cmdline.c takes them off: one that it begins with, and then
-- one that it ends with
abbrev pub without_quotes : List ℕ → List ℕ
without_quotes [] = []
without_quotes (byte ∷ bytes) = if byte == 34 then without_last_quote bytes else byte ∷ bytes

-- the value as the parameter takes it
abbrev pub as_taken : Param → Option (List ℕ) → Option (List ℕ)
as_taken p value = if p.drops_quotes then option_map without_quotes value else value

abbrev pub is_comma : ℕ → Bool
is_comma byte = byte == 44

-- whether a parameter of a kind takes the value, or no value; the values of an array stand between commas
abbrev pub takes : ParamKind → Option (List ℕ) → Bool
takes Charp None = false
takes Charp (Some value) = true
takes (One scalar) None = may_stand_alone scalar
takes (One scalar) (Some value) = takes_one scalar value
takes (Array scalar) None = false
takes (Array scalar) (Some value) = list_all (takes_one scalar) (slice_split is_comma value)

-- a parameter that the module does not define is ignored
abbrev pub takes_named : List Param → List ℕ → Option (List ℕ) → Bool
takes_named [] name value = true
takes_named (p ∷ ps) name value = if bytes_eq name p.name then takes p.kind (as_taken p value) else takes_named ps name value

abbrev pub is_valid_word : List Param → List ℕ → Bool
is_valid_word params word = takes_named params (normal_form (name_of word)) (value_of word)

-- whether all words are good for a module
abbrev pub are_valid : Description → List (List ℕ) → Bool
are_valid m words = list_all (is_valid_word m.params) words
