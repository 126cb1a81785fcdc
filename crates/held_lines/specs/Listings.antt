-- Who holds what, and how often.
use Rattle.std.specs.Prelude.{ℕ, ◌+◌, ◌==◌, if◌then◌else◌, List, [], ◌∷◌, ◌++◌, codes, decimal}
use Rattle.dep_index.specs.Table.{Table, count_of}
use Rattle.dep_index.specs.Catalogue.{Description}
use Rattle.modprobe.specs.Setup.{Setup}
use Rattle.held_table.specs.Held.{Held}

-- a name and a count; nothing if the count is 0
abbrev pub count_line : List ℕ → ℕ → List ℕ
count_line name count = if count == 0 then [] else name ++ (codes " " ++ (decimal count ++ 10 ∷ []))

-- what is written of each element by its place, the first place being given
abbrev pub each_line : {A B : Type 0} → (ℕ → A → List B) → ℕ → List A → List B
each_line line place [] = []
each_line line place (x ∷ xs) = line place x ++ each_line line (place + 1) xs

-- who holds a module, by the holders' numbers
abbrev pub holders_text : Held → ℕ → List ℕ
holders_text h slot = each_line (λ number holder. count_line holder (count_of h.table number slot)) 0 h.names

-- what a holder holds, by slots, each line behind these bytes
abbrev pub rows_text : Setup → Table → List ℕ → ℕ → List ℕ
rows_text s t front number = each_line (λ slot (described : Description). count_line (front ++ described.name) (count_of t number slot)) 0 s.catalogue

-- what a holder holds
abbrev pub held_text : Setup → Table → ℕ → List ℕ
held_text s t number = rows_text s t [] number

-- what all hold, by the holders' numbers and then by slots
abbrev pub all_text : Setup → Held → List ℕ
all_text s h = each_line (λ number holder. rows_text s h.table (holder ++ codes " ") number) 0 h.names
