-- A handle over a box: its row, its name, and the box that it is while it is full.
use mathlib.Core.Path.{◌≡◌}
use mathlib.Core.Bool.{Bool, true}
use mathlib.Core.List.{List, [], ◌∷◌}
use mir.Syntax.{Sym, Ty, tnil, tcons, ty_ptr, ty_struct}
use mir.Val.{Val}
use denote.RattleType.{RattleType}
use Rattle.std_alloc.specs.Box.{with_value}
use Rattle.std_alloc.proofs.BoxSteps.Form.{Bx, X, D, B, τ}
use Rattle.core.proofs.alloc.Calls.{α}
use Rattle.gourzhiel.specs.contracts.parts.Parts as Parts

-- a handle's values: `is_full`, the box that a full one is (`box`), and the full one that is a box (`full_of`)
pub record Handle (E : Bx) : Type 2 where
  pub name : Sym
  pub base : RattleType
  pub is_full : base.Denot → Bool
  pub box : base.Denot → D E
  pub full_of : D E → base.Denot
  pub filled : (d : D E) → (is_full (full_of d) ≡ true) × (box (full_of d) ≡ d)
  pub full : (h : base.Denot) → is_full h ≡ true → h ≡ full_of (box h)
  pub owns : (d : D E) (vs : List Val) → base.own_val (full_of d) vs ≡ (B E).own_val d vs

module _ (E : Bx) (h : Handle E) where
  -- the owned value's row and the handle's, each at one MIR type
  abbrev pub T : RattleType
  T = record E.row { mir = τ E ∷ [] }

  abbrev pub at_handle : Ty
  at_handle = ty_struct h.name (tcons ty_ptr (tcons (α E.al) tnil))

  abbrev pub H : RattleType
  H = record h.base { mir = at_handle ∷ [] }

  -- a full handle with another value
  abbrev pub with_held : h.base.Denot → X E → h.base.Denot
  with_held v w = h.full_of (with_value (h.box v) w)

  -- its box, taken apart
  abbrev pub Apart : RattleType
  Apart = Parts.the_row T (record E.al.row { mir = α E.al ∷ [] }) E.al.g
