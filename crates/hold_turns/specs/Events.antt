-- What happened to the kernel's modules and to the holders' calls, the newest event first.
use Rattle.std.specs.Prelude.{◌≡◌, ◌⊎◌, ℕ, List, [], ◌∷◌, Contains}

-- The kernel got a module, or lost it. The get of a call was asked for a holder and modules. Its reply, that it is done, was
-- begun: the first byte may be seen. A put is about to give modules back.
pub data Event : Type 0 where
  Loaded : (m : ℕ) → Event
  Removed : (m : ℕ) → Event
  Asked : (call : ℕ) → (holder : List ℕ) → (modules : List ℕ) → Event
  Begun : (call : ℕ) → (holder : List ℕ) → (modules : List ℕ) → Event
  GivesBack : (holder : List ℕ) → (modules : List ℕ) → Event

-- the holder and the module are among these
abbrev pub IsAmong : List ℕ → ℕ → List ℕ → List ℕ → Type 0
IsAmong holder m asker modules = (asker ≡ holder) × Contains modules m

-- the kernel has the module
abbrev pub IsIn : List Event → ℕ → Type 0
IsIn [] m = ⊥
IsIn (Loaded n ∷ before) m = (n ≡ m) ⊎ IsIn before m
IsIn (Removed n ∷ before) m = (n ≡ m → ⊥) × IsIn before m
IsIn (Asked call holder modules ∷ before) m = IsIn before m
IsIn (Begun call holder modules ∷ before) m = IsIn before m
IsIn (GivesBack holder modules ∷ before) m = IsIn before m

-- the get of a call was asked for the holder and the module, and no put of that holder has given the module back since
abbrev pub IsOwed : List Event → ℕ → List ℕ → ℕ → Type 0
IsOwed [] call holder m = ⊥
IsOwed (Loaded n ∷ before) call holder m = IsOwed before call holder m
IsOwed (Removed n ∷ before) call holder m = IsOwed before call holder m
IsOwed (Asked asking asker modules ∷ before) call holder m = ((asking ≡ call) × IsAmong holder m asker modules) ⊎ IsOwed before call holder m
IsOwed (Begun asking asker modules ∷ before) call holder m = IsOwed before call holder m
IsOwed (GivesBack asker modules ∷ before) call holder m = (IsAmong holder m asker modules → ⊥) × IsOwed before call holder m

-- the reply to such a get was begun, and no put has given the module back since
abbrev pub IsPromised : List Event → List ℕ → ℕ → Type 0
IsPromised [] holder m = ⊥
IsPromised (Loaded n ∷ before) holder m = IsPromised before holder m
IsPromised (Removed n ∷ before) holder m = IsPromised before holder m
IsPromised (Asked call asker modules ∷ before) holder m = IsPromised before holder m
IsPromised (Begun call asker modules ∷ before) holder m = (IsAmong holder m asker modules × IsOwed before call holder m) ⊎ IsPromised before holder m
IsPromised (GivesBack asker modules ∷ before) holder m = (IsAmong holder m asker modules → ⊥) × IsPromised before holder m

-- the kernel has each module that is promised
abbrev pub HasPromised : List Event → Type 0
HasPromised events = (holder : List ℕ) (m : ℕ) → IsPromised events holder m → IsIn events m

-- after each event the kernel has each module that is promised
abbrev pub StaysWhileHeld : List Event → Type 0
StaysWhileHeld [] = Unit {0}
StaysWhileHeld (event ∷ before) = HasPromised (event ∷ before) × StaysWhileHeld before
