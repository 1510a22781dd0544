-- Texts that are written one after the other.
--     wrote_none                          nothing
--     wrote_both                          two texts, one after the other
--     reach_first, reach_then             where the whole is in reach, so is its first part, and from its end on the second
--     wrote_byte                          a byte that is set, and the next place
--     wrote_both_in                       two texts, one after the other, where the whole is in reach
--     wrote_next                          of texts that are written one by one, the next one
--     writes_none, writes_both            a writer that writes nothing; one text, then another
--     writes_next, writes_next_byte       of texts that a writer writes one by one, the next one; of bytes likewise
--     writer_done                         the whole text of a writer that began at the first place
--     writes_optional                     a field whose number may be missing, by a test
use mathlib.Core.Path.{◌≡◌, refl, sym, ◌∙◌}
use mathlib.Core.List.{List, [], ◌∷◌, ◌++◌}
use Prim.Native.Nat.{ℕ, ◌+◌, ◌<◌}
use native.Mathlib.Numerals.{add-one}
use native.Mathlib.Omega.{arith}
use lib.ListN.{length, get_or, take, length-append}
use lib.Seq.{take-suc}
use Rattle.rules.specs.Texts.{each}
use Rattle.rules.proofs.Texts.{each_more, put_append}
use Rattle.listing_text.specs.declared.text.Writer.{Writer}
use Rattle.rules.specs.Listings.{field, optional}
use Rattle.listing_text.specs.Writing.{InReach, Wrote, Writes, optional_field}
use Rattle.std.specs.Bool.{then_some}
use Rattle.std.proofs.Common.{Bool, true, false, not, min, set, Option}

-- ---- one text after the other
wrote_none : (at : ℕ) (o : List ℕ) → Wrote at [] o o at
wrote_none at o = record { contents = refl; next = omega arith }

pub wrote_both : {at r r' : ℕ} {s t o o' o'' : List ℕ} → Wrote at s o o' r → Wrote r t o' o'' r' → Wrote at (s ++ t) o o'' r'
wrote_both {at} {r} {r'} {s} {t} {o} {o'} {o''} v w =
    record {
      contents = w.contents ∙ rw (v.contents, v.next) (sym (put_append at s t o));
      next = simp length-append (omega (arith, v.next, w.next));
    }

reach_first : {at : ℕ} (s t : List ℕ) → InReach at (s ++ t) → InReach at s
reach_first s t h = record { ends = omega (arith, h.ends, length-append s t) }

reach_then : {at r : ℕ} {s o o' : List ℕ} (t : List ℕ) → InReach at (s ++ t) → Wrote at s o o' r → InReach r t
reach_then {at} {r} {s} t h w = record { ends = omega (arith, h.ends, length-append s t, w.next) }

pub wrote_byte : {at b r : ℕ} {o o' : List ℕ} → o' ≡ set o at b → r ≡ min (at + 1) 18446744073709551615 → InReach at (b ∷ []) → Wrote at (b ∷ []) o o' r
wrote_byte is next h = record { contents = is; next = omega (arith, h.ends) }

pub wrote_both_in : {at r r' : ℕ} {s t o o' o'' : List ℕ} → (InReach at s → Wrote at s o o' r) → (InReach r t → Wrote r t o' o'' r') → InReach at (s ++ t)
    → Wrote at (s ++ t) o o'' r'
wrote_both_in {s = s} {t = t} v u h = let first = v (reach_first s t h) in wrote_both first (u (reach_then t h first))

-- ---- texts one by one
pub wrote_next : (g : ℕ → List ℕ) {at r r' i : ℕ} {o o' o'' : List ℕ} → Wrote at (each i 0 g) o o' r → Wrote r (g i) o' o'' r' → Wrote at (each (i + 1) 0 g) o o'' r'
wrote_next g {at} {r} {r'} {i} v w = rw (each_more g i) (wrote_both v w)

-- ---- writers
pub writes_none : (w : Writer) → Writes w [] w
writes_none w = record { array = refl; written = λ _. wrote_none w.at w.out.now }

pub writes_both : {w w' w'' : Writer} {s t : List ℕ} → Writes w s w' → Writes w' t w'' → Writes w (s ++ t) w''
writes_both {s = s} {t = t} v u =
    record {
      array = u.array ∙ v.array;
      written = wrote_both_in v.written u.written;
    }

pub writes_next : {w w' w'' : Writer} {i : ℕ} (g : ℕ → List ℕ) → Writes w (each i 0 g) w' → Writes w' (g i) w'' → Writes w (each (i + 1) 0 g) w''
writes_next {i = i} g v u = rw (each_more g i) (writes_both v u)

pub writes_next_byte : {w w' w'' : Writer} {i : ℕ} (bs : List ℕ) → i < length bs → Writes w (take i bs) w' → Writes w' (get_or bs i 0 ∷ []) w'' → Writes w (take (i + 1) bs) w''
writes_next_byte bs l v u = rw (add-one, take-suc bs _ 0 l) (writes_both v u)

pub writer_done : {w v : Writer} {t o o' : List ℕ} {r : ℕ} → w.at ≡ 0 → w.out.now ≡ o → Writes w t v → InReach 0 t → o' ≡ v.out.now → r ≡ v.at → Wrote 0 t o o' r
writer_done z is u h e f = let k : Wrote 0 _ _ _ _ = rw (z, is) at (u.written (rw z h)) in rw (e, f) k

-- ---- fields
optional_same : (none : Bool) (n end : ℕ) → optional_field (then_some (not none) n) end ≡ optional none n end
unfolding field optional
optional_same true n end = refl
optional_same false n end = refl

pub writes_optional : {w w' : Writer} {o : Option ℕ} (none : Bool) (n end : ℕ) → o ≡ then_some (not none) n → Writes w (optional_field o end) w'
    → Writes w (optional none n end) w'
writes_optional none n end is u = rw (is, optional_same none n end) at u
