use Rattle.std.proofs.Common.{◌≡◌, ◌∙◌, ap, sym, Some}
use Rattle.std.proofs.lemmas.Result.{err_from_is_err_and}
use Rattle.modprobe.specs.Setup.{name_at}
use Rattle.modprobe.specs.Refusals.{Refusal}
use Rattle.modprobe.specs.Changes.{Change}
use Rattle.modprobe.specs.Loads.{item_load, loads}
use Rattle.modprobe.proofs.ChangeLemmas.{loads_stop}
use Rattle.modprobe.proofs.session.Session.load_items.Goals as goal

pub returns-in_err-load_item : goal.returns-in_err-load_item
returns-in_err-load_item g c =
    let p = err_from_is_err_and c.from_residual.result c.from_residual.ensures.1 in
    let s = c.args.self.now.setup.now in
    let items = c.args.items.now in
    let i = c.loop-item.item-index in
    let item = c.item-item.result in
    let t = g.M.Modules.table c.loop-item.self.table.now in
    let r = c.in_err-load_item.field-0.0 in
    let why : Refusal = record { code = r.code; name = name_at s r.slot } in
    let same = c.loop-item.invariant.same_setup in
    let refused : (item_load s item t).0 ≡ Some why = sym (rw same at c.in_err-load_item.ensures.answers) in
    let all : loads s items (g.M.Modules.table c.args.self.now.table.now) ≡ (Some why, (item_load s item t).1) =
    sym c.loop-item.invariant.left ∙ loads_stop s items i item t why c.loop-item-test.true c.item-item.is refused in
    record {
      answers = rw (p.1, p.2) (ap (λ (x : Change). x.0) (sym all));
      becomes = (rw same at c.in_err-load_item.ensures.becomes) ∙ ap (λ (x : Change). x.1) (sym all);
      same_setup = c.in_err-load_item.ensures.same_setup ∙ same;
      same_table = c.in_err-load_item.ensures.same_table ∙ c.loop-item.invariant.same_table;
      same_names = c.in_err-load_item.ensures.same_names ∙ c.loop-item.invariant.same_names;
    }
