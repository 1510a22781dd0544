-- Where the rest of a piece lies, by what is handed back of the piece.
--     rest_of_lead    before the lead-in's end: from the place on
--     rest_fits       past it: no more letters than the loop has
--     rest_of_loop    past it: as many letters before the loop's end as are handed back, past the last letter the loop's end
use mathlib.Core.Path.{◌≡◌, refl, ap}
use mathlib.Core.List.{List, [], ◌∷◌}
use Prim.Native.Nat.{ℕ, zero, suc, ◌-◌, ◌<◌, ◌≤◌}
use native.Mathlib.Omega.{arith}
use lib.ListN.{length, drop, length-drop}
use lib.Seq.{take-length}
use borrow.Author.Tests.{lt-ltb, le-ltb}
use Rattle.rules.specs.Says.{RestSays}
use Rattle.exported.specs.Results.{RestLies}

-- what follows the first d is found from the end by its length
drop_back : (d : ℕ) (xs : List ℕ) → drop (length xs - length (drop d xs)) xs ≡ drop d xs
drop_back zero xs = let e : length xs - length xs ≡ 0 = omega arith in rw e
drop_back (suc d) [] = refl
drop_back (suc d) (x ∷ xs) =
    let e : suc (length xs) - length (drop d xs) ≡ suc (length xs - length (drop d xs)) = omega (arith, length-drop d xs) in
    rw e (drop_back d xs)

pub rest_of_lead : (lead l part : List ℕ) (i : ℕ) → i < length lead → RestSays lead l i part → RestLies lead l i 0 i (length part)
rest_of_lead lead l part i h says =
    let inside = lt-ltb _ _ h in
    let e : part ≡ drop i lead = rw inside at says in
    record { piece = rw inside; start = rw inside; count = ap length says; part = rw (inside, e, take-length (drop i lead)) }

module _ (lead l part : List ℕ) (i : ℕ) (h : length lead ≤ i) (says : RestSays lead l i part) where
  part_is : part ≡ drop (i - length lead) l
  part_is = rw (le-ltb _ _ h) at says

  part_length : length part ≡ length l - (i - length lead)
  part_length = rw (part_is, length-drop (i - length lead) l)

  pub rest_fits : length part ≤ length l
  rest_fits = omega (arith, part_length)

  pub rest_of_loop : RestLies lead l i 1 (length l - length part) (length part)
  rest_of_loop =
      let behind = le-ltb _ _ h in
      record { piece = rw behind; start = rw behind (omega (arith, part_length)); count = ap length says; part = rw (behind, part_is, drop_back (i - length lead) l, take-length (drop (i - length lead) l)) }
