use Rattle.std.proofs.Common.{◌∙◌, ap, sym, Ok}
use Rattle.alias_match.specs.Aliases.{Entries}
use Rattle.alias_match.specs.declared.alias.Alias.{Alias}
use Rattle.modprobe_conf.specs.Configuration.{Configuration, configuration_of}
use Rattle.modprobe.specs.ForProofs.{parts_of}
use Rattle.modprobe.specs.SetupInput.{with_catalogue, with_dependencies}
use Rattle.modprobe.proofs.setup.setup_for.Goals as goal

pub returns-clause-setup : goal.returns-clause-setup
returns-clause-setup c =
    let modules = c.in_ok-catalogue.catalogue in
    let pairs = c.in_ok-read_dep.field-0 in
    let parts = parts_of c.args.texts.now in
    let known = rw c.deref.ensures.value at c.in_ok-catalogue.ensures in
    let needed = rw c.deref-2.ensures.value at c.in_ok-read_dep.ensures in
    let aliases = rw c.deref-3.ensures.value at c.in_ok-read.ensures in
    let configuration = rw c.deref-4.ensures.value at c.in_ok-read_conf.ensures in
    ap (with_catalogue parts) known
    ∙ ap (with_dependencies parts modules) needed
    ∙ ap (λ (a : Entries Alias). Ok (record { catalogue = modules; dependencies = pairs; aliases = a; configuration = configuration_of parts.conf_text })) (sym aliases)
    ∙ ap (λ (c' : Configuration). Ok (record { catalogue = modules; dependencies = pairs; aliases = c.in_ok-read.field-0; configuration = c' })) (sym configuration)
