-- The parts of a key fit their bits.
use Rattle.std.proofs.Common.{ℕ, ◌<◌, ◌^◌, arith}
use Rattle.mi_key.specs.Keys.{parts_of}

pub id_fits : (key : ℕ) → (parts_of key).id < 2 ^ 40
unfolding parts_of
id_fits key = omega arith

pub distance_fits : (key : ℕ) → (parts_of key).distance < 2 ^ 27
unfolding parts_of
distance_fits key = omega arith
