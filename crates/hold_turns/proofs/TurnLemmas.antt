-- Turns one after another.
use Rattle.std.proofs.Common.{refl, ◌∙◌, ℕ, List}
use Rattle.hold_turns.specs.Views.{TableView, HandsView}
use Rattle.hold_turns.specs.Acts.{IsQuiet}
use Rattle.hold_turns.specs.Rule.{AreOne, IsTurn, IsReady}

pub quiet_stay : (h : HandsView) → IsQuiet h h
quiet_stay h = record { locks = λ m c is. is; acts = λ c. refl; events = refl }

pub quiet_then : {h i j : HandsView} → IsQuiet h i → IsQuiet i j → IsQuiet h j
quiet_then p q = record {
  locks = λ m c is. q.locks m c (p.locks m c is);
  acts = λ c. q.acts c ∙ p.acts c;
  events = q.events ∙ p.events;
}

pub turn_stay : (n : ℕ) (t : TableView) (h : HandsView) → AreOne t h → IsTurn n t h t h
turn_stay n t h one = record {
  one = one;
  others = record { locks = λ m c ne is. is; acts = λ c ne. refl; owed = λ c g m ne held. held };
}

pub turn_then : {n : ℕ} {t : TableView} {h : HandsView} {u : TableView} {i : HandsView} {v : TableView} {j : HandsView}
    → IsTurn n t h u i → IsTurn n u i v j → IsTurn n t h v j
turn_then p q = record {
  one = q.one;
  others = record {
    locks = λ m c ne is. q.others.locks m c ne (p.others.locks m c ne is);
    acts = λ c ne. q.others.acts c ne ∙ p.others.acts c ne;
    owed = λ c g m ne held. q.others.owed c g m ne (p.others.owed c g m ne held);
  };
}

-- a call that is ready is so after what changes nothing
pub ready_quiet : {n : ℕ} {h i : HandsView} (slots : List ℕ) → IsReady n slots h → IsQuiet h i → IsReady n slots i
ready_quiet slots r q = record { locks = λ k d lt. q.locks _ _ (r.locks k d lt); idle = q.acts _ ∙ r.idle }
