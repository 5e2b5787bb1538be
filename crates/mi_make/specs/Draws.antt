-- The numbers of a generator, as functions of its state.
use Rattle.std.specs.Prelude.{ℕ, zero, suc, ℤ, pos, ◌+◌, ◌*◌, ◌/◌, ◌%◌, ◌^◌, List, [], ◌∷◌}
use Rattle.mi_make.specs.declared.draws.TheConstants.{COORDINATES, INCREMENT, LOW_BITS, MULTIPLIER}

-- the state after one more draw: the linear congruential generator of Knuth's MMIX, modulo 2^64
abbrev pub next_state : ℕ → ℕ
next_state x = (x * MULTIPLIER + INCREMENT) % (2 ^ 64)

-- the number below a bound that a state gives
abbrev pub number_below : ℕ → ℕ → ℕ
number_below bound x = (x / (2 ^ LOW_BITS)) % bound

-- so many values, one after another, each of the state that the one before leaves
unfoldable pub drawn : {X : Type 0} → (ℕ → X) → (ℕ → ℕ) → ℕ → ℕ → List X
drawn value next zero x = []
drawn value next (suc n) x = value x ∷ drawn value next n (next x)

-- the state that so many leave
unfoldable pub left_by : (ℕ → ℕ) → ℕ → ℕ → ℕ
left_by next zero x = x
left_by next (suc n) x = left_by next n (next x)

-- a coordinate, and a vector
abbrev pub coordinate : ℕ → ℤ
coordinate x = pos (number_below COORDINATES (next_state x))

abbrev pub vector : ℕ → List ℤ
vector x = drawn coordinate next_state 16 x

abbrev pub after_vector : ℕ → ℕ
after_vector x = left_by next_state 16 x
