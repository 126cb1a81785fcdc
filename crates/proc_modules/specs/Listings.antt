-- The listings of a table of modules: /proc/modules (proc(5)) and lsmod(8).
use Rattle.std.specs.Prelude.{ℕ, Bool, true, false, ◌-◌, List, [], ◌∷◌, ◌++◌, map, flat_map, reverse, replicate, length, codes, decimal, unwrap_or}
use Rattle.std.specs.List.{join_with_byte}
use Rattle.dep_index.specs.declared.table.states.ModuleState.{ModuleState}
use Rattle.dep_index.specs.declared.table.states.ModuleState.TheVariants as module_is
use Rattle.dep_index.specs.Catalogue.{Description, description_at, modules_of}
use Rattle.dep_index.specs.Table.{Table, state_of, users, references}
use Rattle.proc_modules.specs.declared.entry.Entry.{Entry}
use Rattle.proc_modules.specs.declared.line.Line.{Line}
use Rattle.proc_modules.specs.declared.line.LineState.{LineState}
use Rattle.proc_modules.specs.declared.line.LineState.TheVariants.{Live, Loading, Unloading}
use Rattle.proc_modules.specs.LineText.{line_text}

abbrev pub name_of : List Description → ℕ → List ℕ
name_of catalogue slot = (description_at catalogue slot).name

-- the size of a module, 0 if the catalogue has none
abbrev pub size_of : List Description → ℕ → ℕ
size_of catalogue slot = unwrap_or (description_at catalogue slot).size 0

abbrev pub names_of : List Description → List ℕ → List (List ℕ)
names_of catalogue slots = map (name_of catalogue) slots

-- the modules of the table, the newest first
abbrev pub newest_first : Table → List ℕ
newest_first table = reverse table.book.order

-- the users of a module, the newest first
abbrev pub newest_users : List Description → Table → ℕ → List ℕ
newest_users catalogue table slot = reverse (users (modules_of catalogue) table.book slot)

-- a module that drains is shown as unloading; none of the table is absent
abbrev pub shown : ModuleState → LineState
shown module_is.Live = Live
shown module_is.Loading = Loading
shown module_is.Draining = Unloading
shown module_is.Unloading = Unloading
shown module_is.Absent = Unloading

-- the line of a module in this state, with so many references and these users
abbrev pub module_line : List Description → ℕ → ModuleState → ℕ → List ℕ → Line
module_line catalogue slot state count users =
    record {
      name = name_of catalogue slot;
      size = size_of catalogue slot;
      count = count;
      users = names_of catalogue users;
      permanent = (description_at catalogue slot).permanent;
      state = shown state;
    }

abbrev pub entry_line : List Description → Entry → Line
entry_line catalogue e = module_line catalogue e.slot e.state e.count e.users.now

-- the line of a module of the table; its count is the number of its references in every state
abbrev pub line_at : List Description → Table → ℕ → Line
line_at catalogue table slot =
    module_line catalogue slot (state_of table.book slot) (references (modules_of catalogue) table slot) (newest_users catalogue table slot)

-- the text of /proc/modules
abbrev pub proc_text : List Description → Table → List ℕ
proc_text catalogue table = flat_map (λ slot. line_text (line_at catalogue table slot)) (newest_first table)

-- a text at the left of so many places, or in the places that it needs
abbrev pub left_in : ℕ → List ℕ → List ℕ
left_in places text = text ++ replicate (places - length text) 32

-- a text at the right of so many places, or in the places that it needs
abbrev pub right_in : ℕ → List ℕ → List ℕ
right_in places text = replicate (places - length text) 32 ++ text

-- the first two columns of lsmod
abbrev pub columns : List ℕ → List ℕ → List ℕ
columns name size = left_in 19 name ++ (codes " " ++ (right_in 8 size ++ codes "  "))

-- a comma stands before each name but the first
abbrev pub comma_before : Bool → List ℕ
comma_before true = []
comma_before false = 44 ∷ []

-- the users of a module in the last column
abbrev pub used_by : List (List ℕ) → List ℕ
used_by [] = []
used_by (user ∷ users) = codes " " ++ join_with_byte 44 (user ∷ users)

abbrev pub lsmod_line : List Description → Table → ℕ → List ℕ
lsmod_line catalogue table slot =
    columns (name_of catalogue slot) (decimal (size_of catalogue slot))
    ++ (decimal (references (modules_of catalogue) table slot)
    ++ (used_by (names_of catalogue (newest_users catalogue table slot)) ++ codes "\n"))

-- the text of lsmod: a header, then a line for each module of the table
abbrev pub lsmod_text : List Description → Table → List ℕ
lsmod_text catalogue table =
    (columns (codes "Module") (codes "Size") ++ codes "Used by\n")
    ++ flat_map (lsmod_line catalogue table) (newest_first table)
