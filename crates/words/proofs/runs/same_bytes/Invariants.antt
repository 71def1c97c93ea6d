use Rattle.std.proofs.Common.{◌≡◌, ◌↔◌, true, length}
use Rattle.std.specs.Iterator.Adapters.{zip_first, zip_second}
use Rattle.std.specs.Slice.Iter.{iter_rest}
use Rattle.words.proofs.runs.same_bytes.Given as goal

-- the runs are the same just where no byte so far has differed and what is left of the one is what is left of the other
abbrev pub invariant-loop-x : goal.invariant-loop-x
invariant-loop-x l =
    let xs = iter_rest (zip_first l.x-iterator) in
    let ys = iter_rest (zip_second l.x-iterator) in
    (length xs ≡ length ys) × ((l.a ≡ l.b) ↔ ((l.alike ≡ true) × (xs ≡ ys)))
