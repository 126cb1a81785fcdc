-- Why a blacklist line does not hold for a module that a name stands for (modprobe(8), modprobe.d(5)).
use Rattle.std.specs.Prelude.{ℕ, Bool, if◌then◌else◌, List, Option, Some, None}
use Rattle.kmod_conf.specs.LookUps.{is_blacklisted}
use Rattle.kmod_query.specs.declared.query.Ask.{Ask}
use Rattle.kmod_query.specs.declared.query.Ask.TheVariants as asks
use Rattle.kmod_query.specs.declared.query.Query.{Query}
use Rattle.kmod_query.specs.declared.world.World.{World}
use Rattle.kmod_query.specs.Loading.{is_barred}
use Rattle.kmod_query.specs.Objects.{Object}
use Rattle.kmod_query.specs.World.{facts_of}
use Rattle.answer_reasons.specs.declared.exemptions.Exemption.{Exemption}
use Rattle.answer_reasons.specs.declared.exemptions.Exemption.TheVariants.{OwnName, Resolved}

-- a load passes the lines over unless they bar the module, --resolve-alias passes all over, and a removal asks none
abbrev pub asked_exemption : Ask → Bool → Option Exemption
asked_exemption asks.ShowDepends barred = if barred then None else Some OwnName
asked_exemption asks.DryRun barred = if barred then None else Some OwnName
asked_exemption asks.Resolve barred = Some Resolved
asked_exemption asks.Remove barred = None
asked_exemption asks.ShowRemoval barred = None
asked_exemption asks.ShowConfig barred = None

-- why the lines of a module do not hold, if it has some
abbrev pub exemption_of : World → Query → Object → Option Exemption
exemption_of world query object =
    if is_blacklisted world.conf.now object.name
    then asked_exemption query.ask (is_barred (facts_of world) query object) else None
