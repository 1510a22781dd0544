-- The refusals by name (RULES, "Refusals"); each is its number, and 0 is no refusal.
--     short     fewer bytes than the header has, or than the sizes demand
--     sizes     n, m or k out of range
--     long      more bytes than the sizes demand
--     start     the start is no state
--     target    a target that is neither a state nor that of a missing transition
--     marks     a bit above pair k, or any bit on a missing transition
--     arrays    the capacity out of range, or a lent array too short
--     full      more reachable rows than the capacity
--     letter    a byte of a word that is no letter
--     loop      the loop empty, or a piece of a word too long
--     parity    a parity table whose sizes, arrays or targets are out of range
use Rattle.std.specs.Prelude.{ℕ}

abbrev pub short : ℕ
short = 1

abbrev pub sizes : ℕ
sizes = 2

abbrev pub long : ℕ
long = 3

abbrev pub start : ℕ
start = 4

abbrev pub target : ℕ
target = 5

abbrev pub marks : ℕ
marks = 6

abbrev pub arrays : ℕ
arrays = 7

abbrev pub full : ℕ
full = 8

abbrev pub letter : ℕ
letter = 9

abbrev pub loop : ℕ
loop = 10

abbrev pub parity : ℕ
parity = 11
