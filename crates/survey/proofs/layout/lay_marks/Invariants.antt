-- `survey::layout::lay_marks` meets its contract. The invariant: the marks of the cells so far are laid out, and the bytes of the others are left.
use Rattle.std.proofs.Common.{◌≡◌, suc, ◌+◌, ◌*◌, get_or, take, drop, ◌≤◌}
use Rattle.std.specs.Iterator.Adapters.{enumerate_source, enumerate_count}
use Rattle.std.specs.Slice.Iter.{chunks_exact_rest, chunks_exact_size}
use Rattle.rules.proofs.Filling.{Filled}
use Rattle.survey.proofs.layout.lay_marks.Given as goal

abbrev pub invariant-loop-c : goal.invariant-loop-c
invariant-loop-c l =
    let s = l.c-iterator in
    let c = enumerate_count s in
    Filled (λ i v. v ≡ get_or l.bytes (suc (2 * i)) 0 * 256 + get_or l.bytes (2 * i) 0) l.initial.marks l.marks c
    × (chunks_exact_rest (enumerate_source s) ≡ drop (2 * c) (take (2 * l.cells) l.bytes))
    × (chunks_exact_size (enumerate_source s) ≡ 2)
    × (c ≤ l.cells)
