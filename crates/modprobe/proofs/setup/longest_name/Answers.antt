use Rattle.std.proofs.Common.{arith, ◌≡◌, [], length, ap, inl, inr}
use Rattle.std.proofs.lemmas.Bool.{cases_lt}
use Rattle.std.proofs.lemmas.List.{get_or_past}
use Rattle.dep_index.specs.Catalogue.{Description, described, description_at}
use Rattle.modprobe.proofs.setup.longest_name.Goals as goal

pub returns : goal.returns
returns c = (
  c.loop-slot.invariant.bound,
  λ slot. elim (cases_lt slot c.loop-slot.slot) [
    | inl below ↦ c.loop-slot.invariant.names slot below
    | inr past ↦ (
        let none : description_at c.args.catalogue.now slot ≡ described [] = get_or_past c.args.catalogue.now slot (described []) (omega arith) in
        let empty : length (description_at c.args.catalogue.now slot).name ≡ 0 = ap (λ (d : Description). length d.name) none in
        omega arith)
  ],
)
