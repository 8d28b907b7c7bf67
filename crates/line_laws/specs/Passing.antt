-- What is behind the functions that look for flags and take stuffing out, and what every frame that passes is.
use Rattle.std.specs.Prelude.{◌≡◌, ℕ, ◌+◌, ◌<◌, Bool, List, ◌++◌, length, Some}
use Rattle.std.specs.List.{AllByRecursion}
use Rattle.line.specs.declared.heard.Hearing.TheVariants.{Frame}
use Rattle.line.specs.Fcs.{register, residue, tail}
use Rattle.line.specs.Flags.{body_start, closing, between, FirstAt, OpensAt}
use Rattle.line.specs.Stuffing.{stuffed, unstuffed}
use Rattle.line.specs.Burst.{body_of}
use Rattle.line.specs.Hearing.{hears_line}

-- the body starts at b exactly when b is behind the opening flag and bits stand there
pub record Opening (bits : List Bool) (start b : ℕ) : Type 0 where
  pub told : body_start bits start ≡ Some b → OpensAt bits start b × (b < length bits)
  pub only : OpensAt bits start b → b < length bits → body_start bits start ≡ Some b

-- it closes at c exactly when c is the first flag at or after its start
pub record Closing (bits : List Bool) (b c : ℕ) : Type 0 where
  pub told : closing bits b ≡ Some c → FirstAt bits b c
  pub only : FirstAt bits b c → closing bits b ≡ Some c

-- stuffing comes out of a body exactly when the body is the stuffed form of these bits
pub record Unstuffing (body bits : List Bool) : Type 0 where
  pub told : unstuffed body ≡ Some bits → body ≡ stuffed bits
  pub only : body ≡ stuffed bits → unstuffed body ≡ Some bits

-- the register over octets is the residue exactly when the last two are the FCS of those before them
pub record Checking (message last : List ℕ) : Type 0 where
  pub told : register (message ++ last) ≡ residue → last ≡ tail message
  pub only : last ≡ tail message → register (message ++ last) ≡ residue

-- octets, each below 256
abbrev pub Octets : List ℕ → Type 0
Octets os = AllByRecursion (λ o. o < 256) os

abbrev pub FlagsTold : Type 0
FlagsTold = (bits : List Bool) (start b : ℕ) → Opening bits start b × Closing bits start b

abbrev pub StuffingTold : Type 0
StuffingTold = (body bits : List Bool) → Unstuffing body bits

abbrev pub CheckTold : Type 0
CheckTold = (message last : List ℕ) → Octets message → Octets last → length last ≡ 2 → Checking message last

-- a frame of n octets that closes at c: its body stands between the opening flag and the closing flag, and is what the writer makes of its message
pub record Sent (bits : List Bool) (start n c : ℕ) : Type 0 where
  pub b : ℕ
  pub message : List ℕ
  pub opens : OpensAt bits start b
  pub closes : FirstAt bits b c
  pub body : between b c bits ≡ body_of message
  pub octets : (hears_line bits start).octets ≡ message ++ tail message
  pub long : n ≡ length message + 2

-- every frame that passes was sent so
abbrev pub PassedIsSent : Type 0
PassedIsSent = (bits : List Bool) (start n c : ℕ) → (hears_line bits start).answer ≡ record { hearing = Frame n; next = c } → Sent bits start n c
