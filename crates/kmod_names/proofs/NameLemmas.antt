-- How a normal form goes on.
use Rattle.std.proofs.Common.{◌≡◌, ℕ, List, [], ◌++◌, Option, Some, None, refl, sym, ap, append_assoc}
use Rattle.kmod_names.specs.Names.{put_before}

pub put_before-nothing : (rest : Option (List ℕ)) → put_before [] rest ≡ rest
put_before-nothing None = refl
put_before-nothing (Some rest) = refl

pub put_before-twice : (front next : List ℕ) (rest : Option (List ℕ)) → put_before front (put_before next rest) ≡ put_before (front ++ next) rest
put_before-twice front next None = refl
put_before-twice front next (Some rest) = ap Some (sym (append_assoc front next rest))
