use Rattle.std.proofs.Common.{rules, arith, ◌≡◌, ◌-◌, refl, ap, length}
use Rattle.std.specs.Vec.{vec_len}
use Rattle.gz_table_drive.specs.declared.log.Tenure.{Tenure}
use Rattle.gz_table_drive.proofs.LogLemmas.{last_read, last_set}
use Rattle.gz_table_drive.proofs.log.Tenures.end.Goals as goal

pub returns-in-Some : goal.returns-in-Some
returns-in-Some c = λ earlier before is.
    let noted = c.args.self.now.noted.items in
    let last : vec_len c.args.self.now.noted - 1 ≡ length noted - 1 = search (arith, rules) in
    let was = last_read noted earlier before c.in-Some.last.now (vec_len c.args.self.now.noted - 1) last is c.in-Some.ensures.value in (
      record { found = c.in-Some.last.now.found; left = c.of.result },
      last_set noted earlier before record { found = c.in-Some.last.now.found; left = c.of.result } (vec_len c.args.self.now.noted - 1) last is,
      record { found = ap (λ (t : Tenure). t.found) was; last = c.args.belief; left = c.of.ensures; is = refl },
    )
