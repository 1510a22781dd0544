-- What the crate's calls promise, for all sizes and arrays; the promise of `search` is `ComponentsTaken` of `Handing`. A prime marks an array's
-- contents at exit.
--     cells_fit n m t                  test: n states and m letters are few enough, and t targets are enough for their cells
--     components_fit n m ..            test: a search for components can begin: sizes, and the lengths of three arrays: targets, five entries to
--                                      work in for each state, room for results
--     ComponentsFound n m ..           claim: the smallest state of each state's component is at the front of `out`, entries past the states
--                                      untouched; and what these numbers are, in terms of paths
--     reach_fits n m from t ..         test: a search from a state can begin: sizes, t targets, and the lengths of four arrays
--     ReachFound n m from ..           claim: exactly the states that `from` reaches are met, each with the place that it was met from and the
--                                      letter; entries past the states, and past those met, untouched
--     PathFound place ..               claim: where a search has left parents and letters, `out` from the result on is a path to the state at the
--                                      place
use Rattle.std.specs.Prelude.{◌≡◌, Bool, true, false, ◌&&◌, List, ℕ, ◌*◌, ◌<◌, ◌≤◌, ltb, leb, length, take, drop}
use Rattle.rules.specs.Basics.{pick, tabulate}
use Rattle.rules.specs.Judges.{parity_system}
use Rattle.rules.specs.Says.{over}
use Rattle.rules.specs.Systems.{System, Path, component_of, ComponentsAre}
use Rattle.components.specs.Places.{done_number, at}
use Rattle.components.specs.Reaches.{Queued, Untouched, ReachSays}

abbrev pub cells_fit : ℕ → ℕ → ℕ → Bool
cells_fit n m t = ltb n done_number && (ltb m done_number && leb (n * m) t)

abbrev pub components_fit : ℕ → ℕ → ℕ → ℕ → ℕ → Bool
components_fit n m t w o = cells_fit n m t && (leb (5 * n) w && leb n o)

pub record ComponentsFound (n m : ℕ) (targets work out out' : List ℕ) (r : Bool) : Type 0 where
  pub answer : r ≡ components_fit n m (length targets) (length work) (length out)
  pub array : out' ≡ pick r (over (tabulate n 0 (component_of (parity_system n m targets))) out) out
  pub meaning : r ≡ true → ComponentsAre (parity_system n m targets) (at out')

abbrev pub reach_fits : ℕ → ℕ → ℕ → ℕ → ℕ → ℕ → ℕ → ℕ → Bool
reach_fits n m from t a b c d = cells_fit n m t && (leb m 256 && (ltb from n && (leb n a && (leb n b && (leb n c && leb n d)))))

pub record ReachFound (n m from : ℕ) (targets numbers numbers' queue queue' parents parents' by by' : List ℕ) (r : ℕ) : Type 0 where
  pub unfit : reach_fits n m from (length targets) (length numbers) (length queue) (length parents) (length by) ≡ false
      → (r ≡ 0) × (numbers' ≡ numbers) × (queue' ≡ queue) × (parents' ≡ parents) × (by' ≡ by)
  pub found : reach_fits n m from (length targets) (length numbers) (length queue) (length parents) (length by) ≡ true
      → ReachSays (parity_system n m targets) from r numbers' queue' parents' by'
  pub untouched : Untouched n r numbers numbers' queue queue' parents parents' by by'

pub record PathFound (place : ℕ) (parents by out out' : List ℕ) (r : ℕ) : Type 0 where
  pub within : r ≤ length out
  pub front : take r out' ≡ take r out
  pub path : (s : System) (from c k a : ℕ) (number queue : ℕ → ℕ) → Queued s from c k a number queue (at parents) (at by)
      → place < c → place < length parents → place < length by → place ≤ length out → Path s from (drop r out') (queue place)
