-- The lines that make a table from the one in which each module is absent and no holder is there.
use Rattle.std.specs.Prelude.{ℕ, List, [], ◌∷◌, ◌++◌, codes, map, replicate, Vec}
use Rattle.std.specs.List.{flat_map}
use Rattle.std.specs.declared.alloc.Global.{Global}
use Rattle.dep_index.specs.declared.table.states.ModuleState.{ModuleState}
use Rattle.dep_index.specs.declared.table.states.ModuleState.TheVariants.{Loading, Draining, Unloading}
use Rattle.dep_index.specs.Table.{Book, Table, state_of, count_of}
use Rattle.modprobe.specs.Setup.{Setup, name_at}
use Rattle.held_table.specs.Held.{Held}
use Rattle.held_lines.specs.Listings.{each_line}

-- the bytes of each
abbrev pub texts_in : List (Vec ℕ Global) → List (List ℕ)
texts_in lines = map (λ line. line.items) lines

-- `end_load NAME ok`, unless the module loads still
abbrev pub end_lines : List ℕ → ModuleState → List (List ℕ)
end_lines name Loading = []
end_lines name _ = (codes "end_load " ++ (name ++ codes " ok")) ∷ []

-- `begin_load NAME`, and how the load ended
abbrev pub load_lines : List ℕ → ModuleState → List (List ℕ)
load_lines name state = (codes "begin_load " ++ name) ∷ end_lines name state

-- `get HOLDER NAME`
abbrev pub get_line : List ℕ → List ℕ → List ℕ
get_line holder name = codes "get " ++ (holder ++ (codes " " ++ name))

-- a get for each reference that a holder holds to modules of the table, the oldest module first
abbrev pub holder_lines : Setup → Table → ℕ → List ℕ → List (List ℕ)
holder_lines s t number holder = flat_map (λ slot. replicate (count_of t number slot) (get_line holder (name_at s slot))) t.book.order

-- `drain NAME` or `begin_remove NAME` of a module that drains or unloads
abbrev pub leave_lines : List ℕ → ModuleState → List (List ℕ)
leave_lines name Draining = (codes "drain " ++ name) ∷ []
leave_lines name Unloading = (codes "begin_remove " ++ name) ∷ []
leave_lines name _ = []

-- what is written of each module of the table, by its name and state, the oldest first
abbrev pub by_module : Setup → Book → (List ℕ → ModuleState → List (List ℕ)) → List (List ℕ)
by_module s book lines = flat_map (λ slot. lines (name_at s slot) (state_of book slot)) book.order

-- the lines of a table: its modules are loaded, its holders take their references, and then modules drain and unload
abbrev pub snapshot_of : Setup → Held → List (List ℕ)
snapshot_of s h =
    by_module s h.table.book load_lines
    ++ (each_line (holder_lines s h.table) 0 h.names ++ by_module s h.table.book leave_lines)
