-- What a run writes, by its words.
use Rattle.std.proofs.Common.{◌≡◌, ◌≢◌, ◌∙◌, ℕ, Bool, true, false, true≢false, ◌||◌, List, Option, Some, None, refl, sym, ap}
use Rattle.kmod_query.specs.declared.query.Ask.{Ask}
use Rattle.kmod_query.specs.declared.query.Query.{Query}
use Rattle.modprobe_words.specs.declared.wishes.Wish.{Wish}
use Rattle.modprobe_words.specs.Asked.{Asked}
use Rattle.gz_modprobe_drive.specs.Begun.{WritesFacts}
use Rattle.gz_modprobe_drive.specs.Ends.{wish_by}
use Rattle.gz_modprobe_drive.specs.Formed.{form_by}
use Rattle.gz_modprobe_drive.specs.Outputs.{IsOutput, IsOutputFor, WereBegun, WritesAnswer}
use Rattle.gz_modprobe_drive.specs.Shapes.{shape_of}
use Rattle.gz_modprobe_drive.specs.Queries.{IsQueryOf, ask_of, is_lint, is_why}

first-of : (a b : Bool) → a ≡ true → (a || b) ≡ true
first-of true b e = refl
first-of false b e = absurd (true≢false (sym e))

second-of : (a b : Bool) → b ≡ true → (a || b) ≡ true
second-of true b e = refl
second-of false b e = e

neither-of : (a b : Bool) → a ≡ false → b ≡ false → (a || b) ≡ false
neither-of false b e f = f
neither-of true b e f = absurd (true≢false e)

output-facts : (tells : Bool) (ask : Option Ask) (asked : Asked) (before after : Option (List ℕ)) → tells ≡ true → WritesFacts (form_by asked.switches.explain) before after
    → IsOutputFor tells ask asked before after
output-facts true ask asked before after e writes = writes
output-facts false ask asked before after e writes = absurd (true≢false (sym e))

output-query : (tells : Bool) (ask : Option Ask) (own : Ask) (asked : Asked) (before after : Option (List ℕ)) → tells ≡ false → ask ≡ Some own
    → (after ≢ before → WereBegun asked before after) → IsOutputFor tells ask asked before after
output-query true ask own asked before after e some begun = absurd (true≢false e)
output-query false None own asked before after e some begun = absurd (cc)
output-query false (Some ask) own asked before after e some begun = begun

-- lines of facts, of a lint
pub lint-output : (asked : Asked) (wish : Wish) (before after : Option (List ℕ)) → wish ≡ wish_by asked → is_lint wish ≡ true
    → WritesFacts (form_by asked.switches.explain) before after → IsOutput asked before after
lint-output asked wish before after is lints writes =
    output-facts (is_lint (wish_by asked) || is_why (wish_by asked)) (ask_of (wish_by asked)) asked before after
    (first-of (is_lint (wish_by asked)) (is_why (wish_by asked)) (ap is_lint (sym is) ∙ lints)) writes

-- and of what leads to names
pub why-output : (asked : Asked) (wish : Wish) (before after : Option (List ℕ)) → wish ≡ wish_by asked → is_why wish ≡ true
    → WritesFacts (form_by asked.switches.explain) before after → IsOutput asked before after
why-output asked wish before after is tells writes =
    output-facts (is_lint (wish_by asked) || is_why (wish_by asked)) (ask_of (wish_by asked)) asked before after
    (second-of (is_lint (wish_by asked)) (is_why (wish_by asked)) (ap is_why (sym is) ∙ tells)) writes

-- an answer, of a query
pub query-output : (asked : Asked) (wish : Wish) (before after : Option (List ℕ)) (query : Query) → wish ≡ wish_by asked → is_lint wish ≡ false → is_why wish ≡ false
    → IsQueryOf (wish_by asked) asked.switches asked.words query → WritesAnswer asked.kmod asked.switches.whole (shape_of asked.switches) query before after → IsOutput asked before after
query-output asked wish before after query is lints tells asks writes =
    output-query (is_lint (wish_by asked) || is_why (wish_by asked)) (ask_of (wish_by asked)) query.ask asked before after
    (neither-of (is_lint (wish_by asked)) (is_why (wish_by asked)) (ap is_lint (sym is) ∙ lints) (ap is_why (sym is) ∙ tells)) asks.ask
    (λ changed. record { query = query; asks = asks; begun = writes changed })
