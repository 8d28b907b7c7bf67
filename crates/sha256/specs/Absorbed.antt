-- Which octets a hash in the making has taken.
use Rattle.std.specs.Prelude.{◌≡◌, ℕ, ◌+◌, ◌*◌, ◌%◌, ◌^◌, List, length, drop}
use Rattle.sha256.specs.declared.state.Sha256.{Sha256}
use Rattle.sha256.specs.Sha256.{hashed}

-- the octets seen are so many whole blocks, which the hash value has in it, and behind them the octets of the part
pub record Absorbed (s : Sha256) (seen : List ℕ) : Type 0 where
  pub blocks : ℕ
  pub count : length seen ≡ 64 * blocks + length s.part.items
  pub total : s.total ≡ length seen % 2 ^ 64
  pub hash : s.hash ≡ hashed blocks seen
  pub rest : s.part.items ≡ drop (64 * blocks) seen
