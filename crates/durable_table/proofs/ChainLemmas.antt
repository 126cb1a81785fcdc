-- Lines that are one chain of sums.
use Rattle.std.proofs.Common.{arith, ◌≡◌, ◌≢◌, refl, sym, ap, ◌∙◌, subst, ℕ, zero, suc, ◌<◌, ◌-◌, ◌+◌, ◌/◌, ◌%◌, Bool, true, false, ◌&&◌, List, [], ◌∷◌, ◌++◌, length, map, take, drop, slice_index, slice_index_or, Vec}
use Rattle.std.specs.declared.alloc.Global.{Global}
use Rattle.std.proofs.lemmas.Bool.{cases_Bool}
use Rattle.std.proofs.lemmas.List.{drop_at, length-append, length-take-le, map-append, take-append-drop}
use Rattle.std.proofs.lemmas.Bool.Decides.{Decides-eqb}
use Rattle.std.proofs.lemmas.List.Elements.{All-nil, All-cons, All-append}
use Rattle.std.proofs.lemmas.Slice.Eq.{starts_is}
use Rattle.sha2.specs.Sha256.{sha256}
use Rattle.sha2.proofs.Facts256.{length-sha256}
use Rattle.hex.specs.Hex.{encode_with, lower_digits}
use Rattle.hex.proofs.HexLemmas.{length-encode_with}
use Rattle.line_journal.specs.Lines.{bytes_of, IsLine}
use Rattle.durable_table.specs.Seals.{sum_of, front, seal, is_sealed, link_of, are_sealed, last_link, chain}
use Rattle.durable_table.specs.Commands.{link_behind}

pub digest_length : (text : List ℕ) → length (sha256 text) ≡ 32
digest_length text = length-sha256 text

-- a sum has 16 digits
pub sum_length : (text : List ℕ) → length (sum_of text) ≡ 16
sum_length text = omega (arith, length-encode_with lower_digits (take 8 (sha256 text)), length-take-le 8 (sha256 text) (omega (arith, length-sha256 text)))

pub front_length : (link command : List ℕ) → length (front link command) ≡ 17
front_length link command = omega (arith, length-append (sum_of (link ++ command)) (32 ∷ []), sum_length (link ++ command))

-- what a seal seals stands behind its first 17 bytes
pub unsealed : (link command : List ℕ) → drop 17 (seal link command) ≡ command
unsealed link command = drop_at (front link command) command 17 (front_length link command)

pub seal_is_sealed : (link command : List ℕ) → is_sealed link (seal link command) ≡ true
seal_is_sealed link command =
    (starts_is Decides-eqb (seal link command) (front link (drop 17 (seal link command))) _ refl).1 command
    (ap (λ (c : List ℕ). front link c ++ command) (sym (unsealed link command)))

digit_is_no_feed : (i : ℕ) → slice_index lower_digits i ≢ 10
digit_is_no_feed i = grind arith

digits_are_line : (bytes : List ℕ) → IsLine (encode_with lower_digits bytes)
unfolding encode_with
digits_are_line [] = All-nil (λ byte. byte ≢ 10)
digits_are_line (byte ∷ rest) =
    All-cons (λ b. b ≢ 10) (slice_index lower_digits (byte / 16)) (slice_index lower_digits (byte % 16) ∷ encode_with lower_digits rest) (digit_is_no_feed (byte / 16))
    (All-cons (λ b. b ≢ 10) (slice_index lower_digits (byte % 16)) (encode_with lower_digits rest) (digit_is_no_feed (byte % 16)) (digits_are_line rest))

-- a seal is a line, if what it seals is one
pub seal_is_line : (link command : List ℕ) → IsLine command → IsLine (seal link command)
seal_is_line link command is =
    All-append (λ b. b ≢ 10) (front link command) command
    (All-append (λ b. b ≢ 10) (sum_of (link ++ command)) (32 ∷ []) (digits_are_line (take 8 (sha256 (link ++ command))))
    (All-cons (λ b. b ≢ 10) 32 [] (λ e. grind arith) (All-nil (λ b. b ≢ 10))))
    is

-- what lines tell behind others
pub last_link-append : (link : List ℕ) (lines more : List (List ℕ)) → last_link link (lines ++ more) ≡ last_link (last_link link lines) more
last_link-append link [] more = refl
last_link-append link (line ∷ lines) more = last_link-append (link_of line) lines more

-- what one line more tells
pub last_link_more : (link : List ℕ) (lines : List (List ℕ)) (line : List ℕ) → last_link link (lines ++ line ∷ []) ≡ link_of line
last_link_more link lines line = last_link-append link lines (line ∷ [])

-- lines are sealed behind others
pub are_sealed-append : (link : List ℕ) (lines more : List (List ℕ)) → are_sealed link (lines ++ more) ≡ (are_sealed link lines && are_sealed (last_link link lines) more)
are_sealed-append link [] more = refl
are_sealed-append link (line ∷ lines) more = grind (arith, are_sealed-append (link_of line) lines more)

-- the lines of commands are sealed
pub chain_is_sealed : (link : List ℕ) (commands : List (List ℕ)) → are_sealed link (chain link commands) ≡ true
chain_is_sealed link [] = refl
chain_is_sealed link (command ∷ commands) = rw (seal_is_sealed link command) (chain_is_sealed (link_of (seal link command)) commands)

-- the commands behind their seals
pub chain_unsealed : (link : List ℕ) (commands : List (List ℕ)) → map (drop 17) (chain link commands) ≡ commands
chain_unsealed link [] = refl
chain_unsealed link (command ∷ commands) =
    ap (λ (c : List ℕ). c ∷ map (drop 17) (chain (link_of (seal link command)) commands)) (unsealed link command)
    ∙ ap (λ (l : List (List ℕ)). command ∷ l) (chain_unsealed (link_of (seal link command)) commands)

-- the line of a command more
pub chain_more : (link : List ℕ) (commands : List (List ℕ)) (command : List ℕ)
    → chain link (commands ++ command ∷ []) ≡ chain link commands ++ seal (last_link link (chain link commands)) command ∷ []
chain_more link [] command = refl
chain_more link (first ∷ commands) command = ap (λ (l : List (List ℕ)). seal link first ∷ l) (chain_more (link_of (seal link first)) commands command)

last_at : (link : List ℕ) (lines : List (Vec ℕ Global)) (place : ℕ) (other : Vec ℕ Global) → place + 1 ≡ length lines
    → last_link link (bytes_of lines) ≡ link_of (slice_index_or lines place other).items
last_at link [] place other is = absurd (omega (arith, is))
last_at link (first ∷ []) zero other is = refl
last_at link (first ∷ []) (suc place) other is = absurd (omega (arith, is))
last_at link (first ∷ second ∷ rest) zero other is = absurd (omega (arith, is))
last_at link (first ∷ second ∷ rest) (suc place) other is = last_at (link_of first.items) (second ∷ rest) place other (omega (arith, is))

-- what lines tell, by the last of them
pub last_tells : (link : List ℕ) (lines : List (Vec ℕ Global)) (other : Vec ℕ Global) → 0 < length lines
    → last_link link (bytes_of lines) ≡ link_of (slice_index_or lines (length lines - 1) other).items
last_tells link lines other some = last_at link lines (length lines - 1) other (omega (arith, some))

pub none_tells : (link : List ℕ) (lines : List (Vec ℕ Global)) → length lines ≡ 0 → last_link link (bytes_of lines) ≡ link
none_tells link [] none = refl
none_tells link (first ∷ rest) none = absurd (omega (arith, none))

-- what the lines of a whole journal tell
pub whole_tells : (lines : List (Vec ℕ Global)) (other : Vec ℕ Global) → 0 < length lines
    → link_behind (bytes_of lines) ≡ last_link (slice_index_or lines 0 other).items (bytes_of (drop 1 lines))
whole_tells [] other some = absurd (omega (arith, some))
whole_tells (first ∷ rest) other some = refl

pub nothing_tells : (lines : List (Vec ℕ Global)) → length lines ≡ 0 → link_behind (bytes_of lines) ≡ []
nothing_tells [] none = refl
nothing_tells (first ∷ rest) none = absurd (omega (arith, none))

-- the first of sealed lines are sealed
pub sealed_front : (link : List ℕ) (lines : List (List ℕ)) (k : ℕ) → are_sealed link lines ≡ true → are_sealed link (take k lines) ≡ true
sealed_front link lines k all = grind (arith, all, take-append-drop k lines, are_sealed-append link (take k lines) (drop k lines))

-- a seal more
pub sealed_more : (link : List ℕ) (lines : List (List ℕ)) (command : List ℕ) → are_sealed link lines ≡ true
    → are_sealed link (lines ++ seal (last_link link lines) command ∷ []) ≡ true
sealed_more link lines command all =
    grind (arith, all, are_sealed-append link lines (seal (last_link link lines) command ∷ []), seal_is_sealed (last_link link lines) command)

bytes_more : (lines rest : List (Vec ℕ Global)) (last : Vec ℕ Global) → lines ≡ rest ++ last ∷ [] → bytes_of lines ≡ bytes_of rest ++ last.items ∷ []
bytes_more lines rest last is = ap bytes_of is ∙ map-append (λ (v : Vec ℕ Global). v.items) rest (last ∷ [])

-- what lines tell, by the last of them
pub popped_tells : (link : List ℕ) (lines rest : List (Vec ℕ Global)) (last : Vec ℕ Global) → lines ≡ rest ++ last ∷ []
    → last_link link (bytes_of lines) ≡ link_of last.items
popped_tells link lines rest last is = ap (last_link link) (bytes_more lines rest last is) ∙ last_link_more link (bytes_of rest) last.items

-- the same of the lines of a whole journal
pub first_behind : (lines rest : List (Vec ℕ Global)) (last : Vec ℕ Global) → lines ≡ rest ++ last ∷ [] → length rest ≡ 0 → link_behind (bytes_of lines) ≡ last.items
first_behind lines [] last is none = ap link_behind (bytes_more lines [] last is)
first_behind lines (first ∷ rest) last is none = absurd (omega (arith, none))

pub popped_behind : (lines rest : List (Vec ℕ Global)) (last : Vec ℕ Global) → lines ≡ rest ++ last ∷ [] → 0 < length rest
    → link_behind (bytes_of lines) ≡ link_of last.items
popped_behind lines [] last is some = absurd (omega (arith, some))
popped_behind lines (first ∷ rest) last is some =
    ap link_behind (bytes_more lines (first ∷ rest) last is) ∙ last_link_more first.items (bytes_of rest) last.items
