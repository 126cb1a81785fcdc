use Rattle.std.proofs.Common.{◌≡◌, nat_eq}
use Rattle.alias_match.specs.ForProofs.{IsEnd, end_below, keys_of}
use Rattle.alias_match.proofs.chains.find_in_chain.Given as goal

-- the key has the same last place below as at first
abbrev pub invariant-chain : goal.invariant-chain
invariant-chain l = record {
  end : IsEnd l.entries l.key l.end;
  same : end_below (nat_eq l.key) (keys_of l.entries) l.end ≡ end_below (nat_eq l.key) (keys_of l.entries) l.initial.end;
}

abbrev pub decreases-chain : goal.decreases-chain
decreases-chain l = l.end
