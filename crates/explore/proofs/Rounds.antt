-- The exploration's loops: letter by letter through a row, and row by row.
--     RowPart                              row i is read by the letters below a
--     row_next                             one letter more
--     row_full                             a letter leads to one row more than there is room for
--     stage_begun                          the first row is known, and none is read
--     part_begun, rows_next                no row more than at a stage is read; one row more
--     all_read, all_over, all_after        all rows are read; more than the capacity were found; the first row was filed before
use mathlib.Core.Path.{◌≡◌, refl, sym, ap, ◌∙◌}
use mathlib.Core.Bool.{true, false, ◌&&◌, and-false}
use mathlib.Core.List.{List}
use Prim.Native.Nat.{ℕ, suc, ◌+◌, ◌-◌, ◌*◌, ◌<◌, ◌≤◌}
use native.Mathlib.Nat.{suc-mul, zero-mul, mul-le-mul}
use native.Mathlib.Numerals.{add-one}
use native.Mathlib.Omega.{arith}
use lib.Dec.{ltb, leb}
use lib.ListN.{length, get_or, set, take, length-set}
use lib.Seq.{get_or-set_same, length-take-le, take-suc-set}
use borrow.Author.Tests.{lt-ltb, le-ltb, le-leb, lt-leb}
use Rattle.rules.specs.Basics.{pick}
use Rattle.rules.specs.Limits.{no_row}
use Rattle.rules.specs.Systems.{cell}
use Rattle.rules.specs.Rows.{Plan, Step, SameIsEqual, rows_with, found_by, found_from, rows_of}
use Rattle.rules.proofs.Bools.{and_both}
use Rattle.rules.proofs.Exploration.{with_longer, by_next, by_grows, from_on, from_stop}
use Rattle.explore.specs.declared.Task.{Task}
use Rattle.rules.specs.Arrays.{Beyond}
use Rattle.explore.specs.Index.{number_among}
use Rattle.explore.specs.Filing.{Filed, NoRoom}
use Rattle.explore.proofs.FilingLaws.{rows_new}
use Rattle.explore.specs.Effects.{key_step, key_plan}
use Rattle.explore.specs.Exploring.{Fits, Closed, RowRoom, StepRead, Known, RowSays, Stage, RowsPart, ExploresAll, lent, Lent}
use Rattle.rules.proofs.Filling.{beyond_none, beyond_set, beyond_then, beyond_wider}
use Rattle.rules.proofs.Reading.{read_none}
use Rattle.explore.proofs.Steps.{keyed_same, key_row_lem, step_count, step_most, step_rows, step_front, step_rest, step_known}

pub record RowPart (rule : ℕ → ℕ → ℕ) (t : Task) (cells : List ℕ) (c n i a : ℕ) (o o' : Lent) (r : ℕ) : Type 0 where
  pub letters : a ≤ t.letters
  pub known : r ≤ c → Known rule t cells c r (cell t.letters i a) o'
  pub rows : r ≤ c → take r o'.keys ≡ found_by a 0 (key_plan rule t cells) (get_or o.keys i 0) (take n o.keys)
  pub over : c < r → c < length (found_by a 0 (key_plan rule t cells) (get_or o.keys i 0) (take n o.keys))
  pub longer : n ≤ r
  pub most : r ≤ n + a
  pub front : r ≤ c → get_or o'.keys i 0 ≡ get_or o.keys i 0
  pub key_rest : Beyond c o.keys o'.keys
  pub new_rest : r ≤ c → Beyond r o.keys o'.keys
  pub target_rest : Beyond (suc i * t.letters) o.targets o'.targets
  pub priority_rest : Beyond (suc i * t.letters) o.priorities o'.priorities

module _ (rule : ℕ → ℕ → ℕ) (t : Task) (cells : List ℕ) where
  abbrev g : Plan ℕ
  g = key_plan rule t cells

  abbrev m : ℕ
  m = t.letters

  law : SameIsEqual g
  law = keyed_same m t.start (key_step rule t cells)

  module _ (c n i : ℕ) (keys ts ps : List ℕ) where
    abbrev rs : List ℕ
    rs = take n keys

    abbrev v : ℕ
    v = get_or keys i 0

    pub row_next : (a r r' : ℕ) (keys₁ ts₁ ps₁ keys₂ ts₂ ps₂ : List ℕ) → Closed t cells → i < n → a < m → r ≤ c
        → RowPart rule t cells c n i a (lent keys ts ps) (lent keys₁ ts₁ ps₁) r
        → (x : Step ℕ) → x ≡ g.step (get_or keys₁ i 0) a → StepRead x c r (cell m i a) (lent keys₁ ts₁ ps₁) (lent keys₂ ts₂ ps₂) r'
        → RowPart rule t cells c n i (a + 1) (lent keys ts ps) (lent keys₂ ts₂ ps₂) r'
    row_next a r r' keys₁ ts₁ ps₁ keys₂ ts₂ ps₂ closed li la few f x same x-read =
        record {
          letters = omega arith;
          known = λ h. let e : suc (cell m i a) ≡ cell m i (a + 1) = omega arith in rw e at (step_known rule t cells closed c r i a keys₁ ts₁ ps₁ lr la k keys₂ ts₂ ps₂ r' s h);
          rows = λ h. step_rows rule t cells closed c r i a keys₁ ts₁ ps₁ lr la k keys₂ ts₂ ps₂ r' s h ∙ with_next;
          over = λ h. rw (← with_next, ← count) h;
          longer = omega (arith, grown, f.longer);
          most = omega (arith, step_most rule t cells closed c r i a keys₁ ts₁ ps₁ lr la k keys₂ ts₂ ps₂ r' s, f.most);
          front = λ h. step_front rule t cells closed c r i a keys₁ ts₁ ps₁ lr la k keys₂ ts₂ ps₂ r' s h i lr ∙ f.front few;
          key_rest = beyond_then f.key_rest s.key_rest;
          new_rest = λ h. beyond_then (beyond_wider grown (f.new_rest few)) (step_rest rule t cells closed c r i a keys₁ ts₁ ps₁ lr la k keys₂ ts₂ ps₂ r' s h);
          target_rest = beyond_then f.target_rest (rw s.target_array (beyond_set (suc i * m) ts₁ (cell m i a) _ within));
          priority_rest = beyond_then f.priority_rest (rw s.priority_array (beyond_set (suc i * m) ps₁ (cell m i a) _ within));
        }
      where
        s : StepRead (g.step (get_or keys₁ i 0) a) c r (cell m i a) (lent keys₁ ts₁ ps₁) (lent keys₂ ts₂ ps₂) r'
        s = rw same at x-read

        k : Known rule t cells c r (cell m i a) (lent keys₁ ts₁ ps₁)
        k = f.known few

        lr : i < r
        lr = omega (arith, f.longer)

        within : cell m i a < suc i * m
        within = omega (arith, suc-mul i m)

        count : r' ≡ length (rows_with g (take r keys₁) (get_or keys₁ i 0) a)
        count = step_count rule t cells closed c r i a keys₁ ts₁ ps₁ lr la k keys₂ ts₂ ps₂ r' s

        grown : r ≤ r'
        grown =
            omega (arith, count, length-take-le r keys₁ (omega (arith, k.filed.few, k.filed.key_room)), with_longer g law (take r keys₁) (get_or keys₁ i 0) a)

        with_next : rows_with g (take r keys₁) (get_or keys₁ i 0) a ≡ found_by (a + 1) 0 g v rs
        with_next =
            let e : 0 + a ≡ a = omega arith in
            rw (f.front few, f.rows few, add-one) (sym (by_next g law a 0 v rs ∙ rw e))

    -- a letter leads to a key for which there is no room
    pub row_full : (a r : ℕ) (keys₁ ts₁ ps₁ : List ℕ) → Closed t cells → i < n → a < m → r ≤ c
        → RowPart rule t cells c n i a (lent keys ts ps) (lent keys₁ ts₁ ps₁) r
        → (x : Step ℕ) → x ≡ g.step (get_or keys₁ i 0) a → x.there ≡ true → NoRoom c x.to r keys₁
        → RowSays rule t cells c n i (lent keys ts ps) (lent keys₁ ts₁ ps₁) (suc c)
    row_full a r keys₁ ts₁ ps₁ closed li la few f x same there none =
        record {
          known = λ h. absurd (omega arith);
          rows = λ h. absurd (omega arith);
          over = λ h. let e : (m - (a + 1)) + (a + 1) ≡ m = omega arith in
              let longer = rw e at (by_grows g law (m - (a + 1)) (a + 1) 0 v rs) in omega (arith, next.over (omega (arith, none.full)), longer);
          longer = omega (arith, f.longer);
          key_rest = f.key_rest;
          new_rest = λ h. absurd (omega arith);
          target_rest = f.target_rest;
          priority_rest = f.priority_rest;
        }
      where
        -- the cell as it would be read
        read : StepRead x c r (cell m i a) (lent keys₁ ts₁ ps₁) (lent keys₁ (set ts₁ (cell m i a) (pick x.there (number_among x.to r keys₁) no_row)) (set ps₁ (cell m i a) x.prio)) (suc r)
        read =
            record {
              count = rw (there, ← none.absent, rows_new r);
              filed = λ h. absurd (omega (arith, none.full));
              key_array = λ h. absurd (omega (arith, none.full));
              target_array = refl;
              priority_array = refl;
              key_rest = beyond_none c keys₁;
            }

        next : RowPart rule t cells c n i (a + 1) (lent keys ts ps) (lent keys₁ (set ts₁ (cell m i a) (pick x.there (number_among x.to r keys₁) no_row)) (set ps₁ (cell m i a) x.prio)) (suc r)
        next = row_next a r (suc r) keys₁ ts₁ ps₁ _ _ _ closed li la few f x same read

-- ---- row by row
module _ (rule : ℕ → ℕ → ℕ) (t : Task) (cells : List ℕ) where
  abbrev plan : Plan ℕ
  plan = key_plan rule t cells

  pub stage_begun : (c : ℕ) (old ts ps : List ℕ) → Closed t cells → RowRoom t.letters c ts ps old → Stage rule t cells c 0 1 (lent (set old 0 t.start) ts ps)
  unfolding rows_of
  stage_begun c old ts ps closed room =
      record {
        within = omega arith;
        known =
            record { filed = filed; fits = one_key; read = rw (zero-mul t.letters) (read_none plan (law rule t cells) no_row (take 1 keys) ts ps); target_room = room.target_room; priority_room = room.priority_room };
        goes_on = λ d l. rw (all_fuel d, take-suc-set old 0 t.start some);
      }
    where
      keys : List ℕ
      keys = set old 0 t.start

      all_fuel : (d : ℕ) → suc d - 0 ≡ suc d
      all_fuel d = omega arith

      some : 0 < length old
      some = omega (arith, room.some_rows, room.key_room)

      filed : Filed c 1 keys
      filed = record { few = room.some_rows; most = room.most_rows; key_room = simp length-set room.key_room; apart = λ i j l lj. absurd (omega arith) }

      one_key : (j : ℕ) → j < 1 → Fits t.letters cells (get_or keys j 0)
      one_key j l = let z : j ≡ 0 = omega arith in rw (z, get_or-set_same old 0 t.start 0 some) closed.start

  module _ (c : ℕ) (keys ts ps : List ℕ) where
    pub part_begun : (i n : ℕ) → Stage rule t cells c i n (lent keys ts ps) → RowsPart rule t cells c i (lent keys ts ps) (lent keys ts ps) n
    part_begun i n s =
        record {
          few = omega (arith, s.within, s.known.filed.few);
          stage = λ h. s;
          over = λ h. absurd (omega (arith, s.known.filed.few));
          key_rest = beyond_none c keys;
          new_rest = λ h. beyond_none n keys;
          target_rest = beyond_none (i * t.letters) ts;
          priority_rest = beyond_none (i * t.letters) ps;
        }

    pub rows_next : (i r r' : ℕ) (keys₁ ts₁ ps₁ keys₂ ts₂ ps₂ : List ℕ) → i < r → r ≤ c
        → RowsPart rule t cells c i (lent keys ts ps) (lent keys₁ ts₁ ps₁) r → RowSays rule t cells c r i (lent keys₁ ts₁ ps₁) (lent keys₂ ts₂ ps₂) r'
        → RowsPart rule t cells c (i + 1) (lent keys ts ps) (lent keys₂ ts₂ ps₂) r'
    rows_next i r r' keys₁ ts₁ ps₁ keys₂ ts₂ ps₂ li few f s =
        record {
          few = omega arith;
          stage = λ h. record { within = omega (arith, s.longer); known = rw add-one (s.known h); goes_on = λ d l. advanced d (omega (arith, s.longer)) ∙ rw (s.rows h, less_fuel d, add-one) };
          over = λ h. rw (advanced c few ∙ from_stop plan (law rule t cells) (c - i) (suc i) c found (many (s.over h))) (s.over h);
          key_rest = beyond_then f.key_rest s.key_rest;
          new_rest = λ h. beyond_then (beyond_wider s.longer (f.new_rest few)) (s.new_rest h);
          target_rest = rw add-one (beyond_then (beyond_wider next_row f.target_rest) s.target_rest);
          priority_rest = rw add-one (beyond_then (beyond_wider next_row f.priority_rest) s.priority_rest);
        }
      where
        found : List ℕ
        found = found_by t.letters 0 plan (get_or keys₁ i 0) (take r keys₁)

        before : Stage rule t cells c i r (lent keys₁ ts₁ ps₁)
        before = f.stage few

        room : r ≤ length keys₁
        room = omega (arith, before.known.filed.key_room)

        next_row : i * t.letters ≤ suc i * t.letters
        next_row = omega (arith, suc-mul i t.letters)

        many : c < length found → ltb (suc i) (length found) && leb (length found) c ≡ false
        many h = rw (lt-leb (length found) c h) (and-false (ltb (suc i) (length found)))

        less_fuel : (d : ℕ) → suc d - (i + 1) ≡ d - i
        less_fuel d = omega arith

        advanced : (d : ℕ) → r ≤ d → rows_of plan d ≡ found_from (d - i) (suc i) plan d found
        advanced d l =
            let e : suc d - i ≡ suc (d - i) = omega arith in
            (rw e at (before.goes_on d l)) ∙ from_on plan (law rule t cells) (d - i) i d (take r keys₁) (rw (length-take-le r keys₁ room) (and_both (ltb i r) (leb r d) (lt-ltb i r li) (le-leb r d l))) ∙ rw (key_row_lem plan r keys₁ i li room)

    -- what was found, of all rows
    pub all_read : (r : ℕ) (keys' ts' ps' : List ℕ) → r ≤ c → Stage rule t cells c r r (lent keys' ts' ps') → Beyond r keys keys'
        → Beyond (r * t.letters) ts ts' → Beyond (r * t.letters) ps ps' → ExploresAll rule t cells c (lent keys ts ps) (lent keys' ts' ps') r
    all_read r keys' ts' ps' few s a b d =
        record {
          full = le-ltb c r few ∙ sym (le-ltb c (length (rows_of plan c)) (omega (arith, many)));
          rows = λ h. sym rows_are;
          read = λ h. rw rows_are s.known.read;
          key_rest = beyond_wider few a;
          target_rest = beyond_wider (mul-le-mul few (omega arith)) b;
          priority_rest = beyond_wider (mul-le-mul few (omega arith)) d;
          new_keys = λ h. a;
          new_targets = λ h. b;
          new_priorities = λ h. d;
        }
      where
        size : length (take r keys') ≡ r
        size = length-take-le r keys' (omega (arith, s.known.filed.few, s.known.filed.key_room))

        done : ltb r r && leb r c ≡ false
        done = rw (le-ltb r r (omega arith))

        rows_are : rows_of plan c ≡ take r keys'
        rows_are = s.goes_on c few ∙ from_stop plan (law rule t cells) (suc c - r) r c (take r keys') (rw size done)

        many : length (rows_of plan c) ≡ r
        many = ap length rows_are ∙ size

    pub all_over : (i r : ℕ) (keys' ts' ps' : List ℕ) → c < r → RowsPart rule t cells c i (lent keys ts ps) (lent keys' ts' ps') r
        → ExploresAll rule t cells c (lent keys ts ps) (lent keys' ts' ps') r
    all_over i r keys' ts' ps' more f =
        record {
          full = lt-ltb c r more ∙ sym (lt-ltb c (length (rows_of plan c)) (f.over more));
          rows = λ h. absurd (omega arith);
          read = λ h. absurd (omega arith);
          key_rest = f.key_rest;
          target_rest = beyond_wider (mul-le-mul f.few (omega arith)) f.target_rest;
          priority_rest = beyond_wider (mul-le-mul f.few (omega arith)) f.priority_rest;
          new_keys = λ h. absurd (omega arith);
          new_targets = λ h. absurd (omega arith);
          new_priorities = λ h. absurd (omega arith);
        }

    -- the first row was filed before
    pub all_after : (v r : ℕ) (keys' ts' ps' : List ℕ) → 1 ≤ c → 1 ≤ r → ExploresAll rule t cells c (lent (set keys 0 v) ts ps) (lent keys' ts' ps') r
        → ExploresAll rule t cells c (lent keys ts ps) (lent keys' ts' ps') r
    all_after v r keys' ts' ps' some one x =
        record {
          full = x.full;
          rows = x.rows;
          read = x.read;
          key_rest = beyond_then (beyond_set c keys 0 v some) x.key_rest;
          target_rest = x.target_rest;
          priority_rest = x.priority_rest;
          new_keys = λ h. beyond_then (beyond_set r keys 0 v one) (x.new_keys h);
          new_targets = x.new_targets;
          new_priorities = x.new_priorities;
        }
