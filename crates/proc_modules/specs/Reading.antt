-- What a text reads as that begins with a line of /proc/modules (proc(5)).
use Rattle.std.specs.Prelude.{◌≡◌, ◌≢◌, ℕ, ◌+◌, ◌==◌, nat_lt, nat_le, Bool, true, false, not, ◌&&◌, ◌||◌, if◌then◌else◌, MatchResult}
use Rattle.std.specs.Prelude.{List, [], ◌∷◌, length, take, position, slice_index, codes, Option, Some, None, Result, Ok, Err}
use Rattle.std.specs.List.{list_all, list_any, slice_split}
use Rattle.std.specs.Str.{bytes_eq}
use Rattle.text_parts.specs.Text.{is_name, is_digit, number_within}
use Rattle.proc_modules.specs.declared.line.Line.{Line}
use Rattle.proc_modules.specs.declared.line.LineState.{LineState}
use Rattle.proc_modules.specs.declared.line.LineState.TheVariants.{Live, Loading, Unloading}
use Rattle.proc_modules.specs.declared.line.LineError.{LineError}
use Rattle.proc_modules.specs.declared.line.LineError.TheVariants.{MissingField, BadName, BadNumber, BadUsers, BadState, BadAddress, Memory}

-- a module's name has `_` for each `-`
abbrev pub is_line_name : List ℕ → Bool
is_line_name word = is_name word && not (list_any (λ byte. byte == 45) word)

-- a decimal of 32 bits without leading zeros
abbrev pub line_number : List ℕ → Option ℕ
line_number word =
    if nat_lt 1 (length word) && slice_index word 0 == 48 then None else number_within 4294967295 word

-- one user more in front
abbrev pub with_user : List ℕ → Option (List (List ℕ) × Bool) → Option (List (List ℕ) × Bool)
with_user user None = None
with_user user (Some found) = Some (user ∷ found.0, found.1)

abbrev pub is_mark : List ℕ → Bool
is_mark word = bytes_eq word (codes "[permanent]")

-- after the mark stands the empty last part alone
abbrev pub is_end : List (List ℕ) → Bool
is_end [] = false
is_end (last ∷ []) = length last == 0
is_end (part ∷ next ∷ more) = false

-- what a part is, by the parts after it and by what they are: the last part is empty, the mark stands before it, and
-- every other part is a name
abbrev pub users_at : List ℕ → List (List ℕ) → Option (List (List ℕ) × Bool) → Option (List (List ℕ) × Bool)
users_at last [] rest = if length last == 0 then Some ([], false) else None
users_at user (next ∷ more) rest =
    if is_mark user && is_end (next ∷ more) then Some ([], true)
    else (if is_line_name user then with_user user rest else None)

-- the users and the mark that the parts of their field are, which commas divide
abbrev pub users_in : List (List ℕ) → Option (List (List ℕ) × Bool)
users_in [] = None
users_in (part ∷ later) = users_at part later (users_in later)

abbrev pub users_of : List ℕ → Option (List (List ℕ) × Bool)
users_of field =
    if bytes_eq field (codes "-") then Some ([], false)
    else (if length field == 0 then None else users_in (slice_split (λ byte. byte == 44) field))

abbrev pub state_of : List ℕ → Option LineState
state_of word =
    if bytes_eq word (codes "Live") then Some Live
    else (if bytes_eq word (codes "Loading") then Some Loading
    else (if bytes_eq word (codes "Unloading") then Some Unloading else None))

abbrev pub is_hex_digit : ℕ → Bool
is_hex_digit byte = is_digit byte || nat_le 97 byte && nat_le byte 102 || nat_le 65 byte && nat_le byte 70

-- `0x` and 1 to 16 hexadecimal digits
abbrev pub is_address : List ℕ → Bool
is_address [] = false
is_address (first ∷ []) = false
is_address (first ∷ second ∷ digits) =
    first == 48 && second == 120 && nat_le 1 (length digits) && nat_le (length digits) 16 && list_all is_hex_digit digits

-- after the address stands nothing, or one word of taints
abbrev pub is_taint : List (List ℕ) → Bool
is_taint [] = true
is_taint (taint ∷ []) = nat_lt 0 (length taint)
is_taint (taint ∷ next ∷ more) = false

-- the value goes on, or else this is the refusal
abbrev pub or_refuse : {A B : Type 0} → LineError → Option A → (A → Result B LineError) → Result B LineError
or_refuse refusal None later = Err refusal
or_refuse refusal (Some value) later = later value

abbrev pub unless : {B : Type 0} → LineError → Bool → Result B LineError → Result B LineError
unless refusal true later = later
unless refusal false later = Err refusal

-- what was read goes on, and a refusal stays
abbrev pub then_read : {A B : Type 0} → Result A LineError → (A → Result B LineError) → Result B LineError
then_read (Ok value) later = later value
then_read (Err refusal) later = Err refusal

-- the size and the count after a good name
abbrev pub numbers_in : List ℕ → List ℕ → List ℕ → Result (ℕ × ℕ) LineError
numbers_in name size count =
    unless BadName (is_line_name name)
    (or_refuse BadNumber (line_number size)
    (λ bytes. or_refuse BadNumber (line_number count)
    (λ references. Ok (bytes, references))))

-- the state before a good address
abbrev pub state_in : List ℕ → List ℕ → List (List ℕ) → Result LineState LineError
state_in state address more =
    or_refuse BadState (state_of state)
    (λ shown. unless BadAddress (is_address address && is_taint more) (Ok shown))

-- the line that fields are, or the first fault from the left
abbrev pub line_of_fields : List ℕ → List ℕ → List ℕ → List ℕ → List ℕ → List ℕ → List (List ℕ) → Result Line LineError
line_of_fields name size count users state address more =
    then_read (numbers_in name size count)
    (λ numbers. or_refuse BadUsers (users_of users)
    (λ used. then_read (state_in state address more)
    (λ shown. Ok (record {
      name = name;
      size = numbers.0;
      count = numbers.1;
      users = used.0;
      permanent = used.1;
      state = shown;
    }))))

abbrev pub line_in : List (List ℕ) → Result Line LineError
line_in (name ∷ size ∷ count ∷ users ∷ state ∷ address ∷ more) = line_of_fields name size count users state address more
line_in _ = Err MissingField

-- the bytes before the first line feed, and how many bytes there are with it; all, if there is none
abbrev pub first_line : List ℕ → Option ℕ → List ℕ × ℕ
first_line text None = (text, length text)
first_line text (Some end) = (take end text, end + 1)

abbrev pub with_used : ℕ → Result Line LineError → Result (Line × ℕ) LineError
with_used used (Ok line) = Ok (line, used)
with_used used (Err refusal) = Err refusal

-- what was read is the line, and each refusal is the one that is wanted; out of memory says nothing of the text
abbrev pub ReadsLine : Result Line LineError → Result Line LineError → Type 0
ReadsLine wanted result = MatchResult result (λ l. wanted ≡ Ok l) (λ e. e ≢ Memory → wanted ≡ Err e)

-- the same of the users
abbrev pub ReadsUsers : Option (List (List ℕ) × Bool) → Result (List (List ℕ) × Bool) LineError → Type 0
ReadsUsers wanted result =
    MatchResult result (λ found. wanted ≡ Some (found.0, found.1)) (λ e. e ≢ Memory → (e ≡ BadUsers) × (wanted ≡ None))

-- the line with which a text begins and how many bytes it takes, or the first fault
abbrev pub line_of : List ℕ → Result (Line × ℕ) LineError
line_of text =
    let first = first_line text (position (λ byte. byte == 10) text) in
    with_used first.1 (line_in (slice_split (λ byte. byte == 32) first.0))
