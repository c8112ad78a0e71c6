-- Proves that `push_units` computes the text of a weight, although the plain product might not fit into 128 bits.
use Rattle.std.proofs.Common.{◌≡◌, ℕ, ◌+◌, ◌*◌, ◌/◌, ◌%◌, arith}

pub parts_split : (u : ℕ) → (u * 200000 + 65536) / 131072 ≡ u / 65536 * 100000 + (u % 65536 * 200000 + 65536) / 131072
parts_split u = omega arith
