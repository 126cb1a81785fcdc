-- Why a command is refused, and how that is told. The codes are those of init_module(2) and delete_module(2), as far as
-- these have one.
use Rattle.std.specs.Prelude.{ℕ, List, [], ◌∷◌, ◌++◌, codes, Option, Some}
use Rattle.dep_index.specs.declared.table.calls.Reply.{Reply}
use Rattle.dep_index.specs.declared.table.calls.Reply.TheVariants as reply_is
use Rattle.load_plan.specs.declared.items.PlanError.{PlanError}
use Rattle.load_plan.specs.declared.items.PlanError.TheVariants as plan_error
use Rattle.modprobe.specs.declared.refusal.Code.{Code}
use Rattle.modprobe.specs.declared.refusal.Code.TheVariants.{Enoent, Eexist, Einval, UnknownSymbol, NeedNotLive, Ewouldblock, Ebusy, NotLive, TooMany, NotHeld, Cycle, Install, Remove, Worker, Syntax}

-- how a code is written
unfoldable pub code_text : Code → List ℕ
code_text Enoent = codes "ENOENT"
code_text Eexist = codes "EEXIST"
code_text Einval = codes "EINVAL"
code_text UnknownSymbol = codes "UNKNOWNSYMBOL"
code_text NeedNotLive = codes "NEEDNOTLIVE"
code_text Ewouldblock = codes "EWOULDBLOCK"
code_text Ebusy = codes "EBUSY"
code_text NotLive = codes "NOTLIVE"
code_text TooMany = codes "TOOMANY"
code_text NotHeld = codes "NOTHELD"
code_text Cycle = codes "CYCLE"
code_text Install = codes "INSTALL"
code_text Remove = codes "REMOVE"
code_text Worker = codes "WORKER"
code_text Syntax = codes "SYNTAX"

-- the line of a refusal: its code and a name
unfoldable pub error_line : Code → List ℕ → List ℕ
error_line code name = codes "error " ++ code_text code ++ codes " " ++ name ++ 10 ∷ []

-- why a command is refused: the code and the name of its line
pub record Refusal : Type 0 where
  pub code : Code
  pub name : List ℕ

abbrev pub refusal_line : Refusal → List ℕ
refusal_line r = error_line r.code r.name

abbrev pub refuse : Code → List ℕ → Option Refusal
refuse code name = Some (record { code = code; name = name })

-- the code of a reply that is a refusal
abbrev pub code_of : Reply → Code
code_of reply_is.NotLive = NotLive
code_of reply_is.TooMany = TooMany
code_of reply_is.NotHeld = NotHeld
code_of reply_is.Exists = Eexist
code_of reply_is.UnknownSymbol = UnknownSymbol
code_of (reply_is.NeedNotLive n) = NeedNotLive
code_of reply_is.NoEntry = Enoent
code_of reply_is.NeededBy = Ewouldblock
code_of reply_is.InUse = Ewouldblock
code_of _ = Ebusy

-- the same for a removal or a drain: a module that is not live is EBUSY
abbrev pub unload_code : Reply → Code
unload_code reply_is.NotLive = Ebusy
unload_code r = code_of r

-- why there is no plan; running out of memory is no refusal
abbrev pub plan_refusal : PlanError → Refusal
plan_refusal (plan_error.Cycle name) = record { code = Cycle; name = name }
plan_refusal (plan_error.Install name) = record { code = Install; name = name }
plan_refusal (plan_error.Unknown name) = record { code = Enoent; name = name }
plan_refusal (plan_error.Remove name) = record { code = Remove; name = name }
plan_refusal plan_error.Memory = record { code = Enoent; name = [] }
