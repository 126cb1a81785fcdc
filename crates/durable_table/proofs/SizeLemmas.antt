-- How long the lines of a journal are.
use Rattle.std.proofs.Common.{◌≡◌, arith, refl, ap, sym, ◌∙◌, ℕ, ◌+◌, ◌-◌, ◌<◌, ◌≤◌, false, List, [], ◌∷◌, length, drop, get_or, Vec}
use Rattle.std.specs.Prelude.{nat_lt}
use Rattle.std.specs.declared.alloc.Global.{Global}
use Rattle.std.proofs.lemmas.List.{length-append, drop_more}
use Rattle.line_journal.specs.Lines.{bytes_of, open_text}
use Rattle.durable_table.specs.Seals.{front, seal, link_of, chain}
use Rattle.durable_table.proofs.ChainLemmas.{front_length}

pub sealed_size : (link command : List ℕ) (rest : List (List ℕ)) → length (open_text (seal link command ∷ rest)) ≡ 19 + length command + length (open_text rest)
sealed_size link command rest =
    omega (arith, length-append (seal link command) (10 ∷ open_text rest), length-append (front link command) command, front_length link command)

-- what the first line is sealed with makes no line longer
same_size : (link other : List ℕ) (commands : List (List ℕ)) → length (open_text (chain link commands)) ≡ length (open_text (chain other commands))
same_size link other [] = refl
same_size link other (command ∷ commands) =
    sealed_size link command (chain (link_of (seal link command)) commands)
    ∙ ap (λ (n : ℕ). 19 + length command + n) (same_size (link_of (seal link command)) (link_of (seal other command)) commands)
    ∙ sym (sealed_size other command (chain (link_of (seal other command)) commands))

-- the size of the commands from one on
pub size_more : (link : List ℕ) (commands : List (Vec ℕ Global)) (i : ℕ) (command : Vec ℕ Global) → i < length commands → command ≡ get_or commands i command
    → length (open_text (chain link (bytes_of (drop i commands)))) ≡ 19 + length command.items + length (open_text (chain link (bytes_of (drop (i + 1) commands))))
size_more link commands i command below is =
    ap (λ l. length (open_text (chain link (bytes_of l)))) (drop_more commands i command below ∙ ap (λ v. v ∷ drop (i + 1) commands) (sym is))
    ∙ sealed_size link command.items (chain (link_of (seal link command.items)) (bytes_of (drop (i + 1) commands)))
    ∙ ap (λ (n : ℕ). 19 + length command.items + n) (same_size (link_of (seal link command.items)) link (bytes_of (drop (i + 1) commands)))

pub room_less : (size rest room : ℕ) → size < room → nat_lt rest (room - size) ≡ nat_lt (size + rest) room
room_less size rest room fits = grind (arith, fits)

pub no_room : (size rest room : ℕ) → room ≤ size → nat_lt (size + rest) room ≡ false
no_room size rest room less = grind (arith, less)

-- the size of a journal of these lines behind its first
pub size_behind : (first : List ℕ) (rest : List (List ℕ)) → length (open_text (first ∷ rest)) ≡ length first + 2 + length (open_text rest)
size_behind first rest = omega (arith, length-append first (10 ∷ open_text rest))

-- the size of the lines of commands is that of a chain that begins with no link
pub any_link : (link : List ℕ) (commands : List (List ℕ)) → length (open_text (chain link commands)) ≡ length (open_text (chain [] commands))
any_link link commands = same_size link [] commands
