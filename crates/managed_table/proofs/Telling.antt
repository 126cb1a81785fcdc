-- A turn in which the value and a reader heard of each other.
use Rattle.std.proofs.Common.{◌≡◌, ℕ, [], ◌∷◌, sym, ap, ◌∙◌, subst}
use Rattle.dep_index.specs.History.{IsLegal}
use Rattle.root_row.specs.declared.view.World.{World}
use Rattle.root_row.specs.declared.view.SeatName.TheVariants as name_is
use Rattle.root_row.specs.declared.view.View.{View}
use Rattle.root_row.specs.Seats.{RowIs, Seated, IsOf}
use Rattle.root_row.specs.History.{SeatName, answers_in, own_answers, StartsWith}
use Rattle.root_row.specs.Views.{Part, member, name_of, part_of, part_in, seen_of, seen_in, worker_of, worker_in, counts_of, book_of}
use Rattle.root_row.specs.Hearing.{HeardBoth}
use Rattle.root_row.proofs.LeafSteps.{leaf_parts}
use Rattle.root_row.proofs.BookSteps.{book_one}
use Rattle.managed_table.specs.declared.view.Pass.{Pass}
use Rattle.managed_table.specs.Kept.{seen, shown, leaf_fits, book_fits}
use Rattle.managed_table.specs.Turns.{since, MadeTurn}
use Rattle.managed_table.specs.Hearing.{Met}

module _ (x y : Seated) (r r' : View) (heard : HeardBoth x.view r y.view r') where
  -- what was seen, as the view shows it
  saw : seen y ≡ heard.seen
  saw = ap seen_in heard.one

  one_member : y.view.members ≡ member (part_of x.view) (seen y) ∷ []
  one_member = heard.one ∙ ap (λ l. member (part_of x.view) l ∷ []) (sym saw)

  heard_grows : StartsWith (seen y) (seen x)
  heard_grows = subst (λ l. StartsWith l (seen x)) (sym saw) heard.one_heard.begins

  module _ (row : RowIs) (own : IsOf row y) where
    -- a leaf that heard of a reader goes back behind its lock
    pub leaf_heard : (lock : ℕ) → leaf_fits row lock x → leaf_fits row lock y × StartsWith (seen y) (seen x)
    leaf_heard lock fit = (
      (own, ap (λ ms. worker_in (part_in ms)) one_member ∙ fit.1, leaf_parts y.view (worker_of x.view) (counts_of x.view) (one_member ∙ ap (λ (p : Part). member p (seen y) ∷ []) (ap part_in fit.2))),
      heard_grows,
    )

    -- and so does the book
    pub book_heard : book_fits row 0 x → book_fits row 0 y × StartsWith (seen y) (seen x)
    book_heard fit = ((own, book_one y.view (book_of x.view) (one_member ∙ ap (λ (p : Part). member p (seen y) ∷ []) (ap part_in fit.1))), heard_grows)

module _ (fits : RowIs → ℕ → Seated → Type 0) (row : RowIs) (lock : ℕ) (by : SeatName) (Did : Seated → Seated → Type 0) (old new : Pass) (r r' : View) (t : MadeTurn fits shown lock Did old new) where
  met : IsOf row t.taken → name_of (part_of t.taken.view) ≡ by → HeardBoth t.taken.view r t.left.view r' → Met row lock by old new r r'
  met own named heard =
      let h = heard.one_heard in
      let is = sym (saw t.taken t.left r r' heard) in
      record {
        missed = t.missed;
        before = seen t.taken;
        after = seen t.left;
        steps = since t.taken.steps t.left;
        turned = t.turned;
        follows = t.follows;
        begins = heard_grows t.taken t.left r r' heard;
        tells = subst (λ l. StartsWith l (seen_of r)) is heard.other_heard.begins;
        told = ap seen_in heard.other ∙ is;
        legal = subst (λ l. IsLegal row.world.catalogue row.world.workers (answers_in l)) is (subst (λ (d : World). IsLegal d.catalogue d.workers (answers_in heard.seen)) own.1 h.legal);
        own = subst (λ (n : SeatName). own_answers n (seen t.left) ≡ own_answers n (seen t.taken)) named (ap (own_answers (name_of (part_of t.taken.view))) (sym is) ∙ h.own);
        reader_own = ap (own_answers (name_of (part_of r))) (sym is) ∙ heard.other_heard.own;
        same_reader = ap part_in heard.other;
      }

module _ (row : RowIs) (old new : Pass) (same_row : old.row.value ≡ row) (Did : Seated → Seated → Type 0) (r r' : View) (told : (x y : Seated) → Did x y → HeardBoth x.view r y.view r') where
  pub leaf_met : (lock : ℕ) → MadeTurn leaf_fits shown lock Did old new → Met row lock (name_is.Leaf lock) old new r r'
  leaf_met lock t =
      let fit = subst (λ (k : RowIs). leaf_fits k lock t.taken) same_row t.fit in
      met leaf_fits row lock (name_is.Leaf lock) Did old new r r' t fit.0 (ap name_of (ap part_in fit.2) ∙ ap name_is.Leaf fit.1) (told t.taken t.left t.did)

  pub book_met : MadeTurn book_fits shown 0 Did old new → Met row 0 name_is.Book old new r r'
  book_met t =
      let fit = subst (λ (k : RowIs). book_fits k 0 t.taken) same_row t.fit in
      met book_fits row 0 name_is.Book Did old new r r' t fit.0 (ap name_of (ap part_in fit.1)) (told t.taken t.left t.did)
