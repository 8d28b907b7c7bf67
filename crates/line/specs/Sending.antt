-- How far a burst is written.
use Rattle.std.specs.Prelude.{◌≡◌, ℕ, zero, suc, ◌+◌, ◌*◌, ◌^◌, ◌<◌, ◌≤◌, Bool, true, false, List, [], ◌∷◌, ◌++◌, length, drop}
use Rattle.line.specs.declared.counter.Counter.{Counter}
use Rattle.line.specs.declared.writer.ToneWriter.{ToneWriter}
use Rattle.line.specs.Packing.{held}
use Rattle.line.specs.Burst.{tones, last_tone}

-- how many 1s, less one, bring a 0 behind these bits
unfoldable pub after : ℕ → List Bool → ℕ
after n [] = n
after n (false ∷ bits) = after 4 bits
after zero (true ∷ bits) = after 4 bits
after (suc n) (true ∷ bits) = after n bits

-- the tones that a writer has written
abbrev pub sent : ToneWriter → List Bool
sent p = held p.packer.octets p.packer.fill p.packer.part p.out.now

-- their number
abbrev pub count : ToneWriter → ℕ
count p = 8 * p.packer.octets + p.packer.fill

-- from p to q the bits went out behind what was there, and nothing behind them changed
pub record Sent (p q : ToneWriter) (bits : List Bool) : Type 0 where
  pub wrote : sent q ≡ sent p ++ tones p.tone bits
  pub last : q.tone ≡ last_tone p.tone bits
  pub behind : drop q.packer.octets q.out.now ≡ drop q.packer.octets p.out.now
  pub counts : count q ≡ count p + length bits

-- they go out where there is room for them, into the same lender's octets
pub record Sends (p : ToneWriter) (bits : List Bool) (q : ToneWriter) : Type 0 where
  pub lender : q.out.ghost_name ≡ p.out.ghost_name
  pub room : length q.out.now ≡ length p.out.now
  pub sends : count p + length bits ≤ 8 * length p.out.now → Sent p q bits

-- so many bits more, as long as their number fits
abbrev pub Counts : Counter → List Bool → Counter → Type 0
Counts p bits q = p.bits + length bits < 2 ^ 64 → q.bits ≡ p.bits + length bits
