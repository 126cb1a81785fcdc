use Rattle.std.proofs.Common.{◌++◌, ◌∙◌, ap, arith, filter, length, sym}
use Rattle.alias_match.specs.ForProofs.{is_match_at}
use Rattle.std.proofs.lemmas.Option.{slice_get_within}
use Rattle.alias_match.proofs.Walked.{found_next, next_is, next_less, passed_next, places_from, places_next}
use Rattle.alias_match.proofs.alias_list.add_of_key.Goals as goal
use Rattle.alias_match.proofs.alias_list.add_of_key.Goals.{then-is_match_at+in_ok-push, else-is_match_at}

pub places-init : goal.places-init
places-init c = record {
  found =
      ap (λ l. c.args.found.now.items ++ filter (is_match_at c.args.entries.now c.args.text.now) l)
      (ap (places_from c.args.key c.args.table.now) c.last-next.ensures ∙ places_next c.args.key c.args.table.now (length c.args.table.now));
  next = next_is c.args.key c.args.table.now (length c.args.table.now) c.last-next.result (omega arith) c.last-next.ensures;
}

pub places-smaller : goal.places-smaller
places-smaller c = next_less c.args.key c.args.table.now c.places.next c.before-next.result c.in-Some.place c.in-Some.is c.before-next.ensures

pub places-preserved : goal.places-preserved
places-preserved c =
    let within = slice_get_within c.args.table.now c.in-Some.place c.args.key (rw c.in-Some.is at c.places.invariant.next) in
    let next = next_is c.args.key c.args.table.now c.in-Some.place c.before-next.result (omega (arith, within)) c.before-next.ensures in
    elim c.if-is_match_at.branch [
      | then-is_match_at+in_ok-push w ↦ record {
        found =
            found_next (is_match_at c.args.entries.now c.args.text.now) c.places.found.items c.if-is_match_at.found.items c.args.key c.args.table.now c.places.next c.before-next.result c.in-Some.place
            c.in-Some.is c.before-next.ensures (sym c.is_match_at.ensures ∙ w.if-is_match_at.true) (ap (λ v. v.items) w.found-is ∙ w.in_ok-push.ensures.items)
            ∙ c.places.invariant.found;
        next = next;
      }
      | else-is_match_at w ↦ record {
        found =
            ap (λ v. v.items ++ filter (is_match_at c.args.entries.now c.args.text.now) (places_from c.args.key c.args.table.now c.before-next.result)) w.found-is
            ∙ passed_next (is_match_at c.args.entries.now c.args.text.now) c.places.found.items c.args.key c.args.table.now c.places.next c.before-next.result c.in-Some.place
            c.in-Some.is c.before-next.ensures (sym c.is_match_at.ensures ∙ w.if-is_match_at.false)
            ∙ c.places.invariant.found;
        next = next;
      }
    ]
