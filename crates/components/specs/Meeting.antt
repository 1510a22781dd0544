-- A search from one state as the code holds it: the states that are met, in arrays.
--     ReachRoom s m              claim: the sizes are small enough, and the arrays have room
--     QueuedIn s m k a           claim: there is room, and what the arrays hold is a search as `Queued` says
--     SameArrays m m'            claim: the arrays are the same ones, whatever they hold
--     ReadSays s m m' k a        claim: letters are read up to letter a of the state at place k, since all was as in m
use Rattle.std.specs.Prelude.{◌≡◌, ℕ, ◌<◌, ◌≤◌, length}
use Rattle.rules.specs.Systems.{System}
use Rattle.components.specs.declared.reach.Met.{Met}
use Rattle.components.specs.Places.{done_number, at}
use Rattle.components.specs.Reaches.{Queued, Untouched}

pub record ReachRoom (s : System) (m : Met) : Type 0 where
  pub small : s.states < done_number
  pub letters_small : s.letters ≤ 256
  pub number_room : s.states ≤ length m.numbers.now
  pub queue_room : s.states ≤ length m.queue.now
  pub parent_room : s.states ≤ length m.parents.now
  pub letter_room : s.states ≤ length m.by.now

pub record QueuedIn (s : System) (m : Met) (k a : ℕ) : Type 0 where
  pub room : ReachRoom s m
  pub queued : Queued s (at m.queue.now 0) m.count k a (at m.numbers.now) (at m.queue.now) (at m.parents.now) (at m.by.now)

pub record SameArrays (m m' : Met) : Type 0 where
  pub numbers : m'.numbers.ghost_name ≡ m.numbers.ghost_name
  pub queue : m'.queue.ghost_name ≡ m.queue.ghost_name
  pub parents : m'.parents.ghost_name ≡ m.parents.ghost_name
  pub by : m'.by.ghost_name ≡ m.by.ghost_name

pub record ReadSays (s : System) (m m' : Met) (k a : ℕ) : Type 0 where
  pub reached : Queued s (at m.queue.now 0) m'.count k a (at m'.numbers.now) (at m'.queue.now) (at m'.parents.now) (at m'.by.now)
  pub more : m.count ≤ m'.count
  pub untouched : Untouched s.states m'.count m.numbers.now m'.numbers.now m.queue.now m'.queue.now m.parents.now m'.parents.now m.by.now m'.by.now
  pub same : SameArrays m m'
