use Rattle.kmod_index.proofs.FoundLemmas.{found_by_key}
use Rattle.kmod_index.proofs.symbols.Symbols.of_key.Goals as goal

pub returns : goal.returns
returns c =
    found_by_key c.lines_at.result c.deref.result.now c.args.self.now c.self.inside.lines.items c.of.result.now c.args.key.now c.self.inside.keys
    c.lines_at.ensures c.deref.ensures.value c.self.view_is c.of.ensures c.self.invariant
