-- What a verdict sheet means. A row has 82 octets: kind, kid (16), alg, SHA-256 of the transcript (32), SHA-256 of the signature (32).
use Rattle.std.specs.Prelude.{◌≡◌, Result, MatchResult, ℕ, Bool, cond, ◌&&◌, List, ◌==◌, Some, None, Option, slice_index}
use Rattle.std.specs.List.{list_any}
use Rattle.std.specs.Str.{bytes_eq}
use Rattle.sha256.specs.Sha256.{sha256_of}
use Rattle.verdicts.specs.declared.verdict_sheet.Kind.{Kind}
use Rattle.verdicts.specs.declared.verdict_sheet.Kind.TheVariants.{Pin, Yes}
use Rattle.verdicts.specs.Rows.{rows_of, field}

-- the kind that a row's first octet names, if it names one
abbrev pub kind_of : ℕ → Option Kind
kind_of octet = cond (octet == 0x00) (Some Pin) (cond (octet == 0x01) (Some Yes) None)

-- an octet is read as the kind that it names
abbrev pub Names : ℕ → Result Kind Unit → Type 0
Names octet r = MatchResult r (λ kind. kind_of octet ≡ Some kind) (λ _. kind_of octet ≡ None)

-- a pin row (kind 00) of this kid and alg; its last 64 octets mean nothing
abbrev pub is_pin : List ℕ → ℕ → List ℕ → Bool
is_pin kid alg row = slice_index row 0 == 0x00 && bytes_eq (field 1 16 row) kid && slice_index row 17 == alg

-- a yes row (kind 01) of this kid, alg, hash of a transcript and hash of a signature
abbrev pub is_yes : List ℕ → ℕ → List ℕ → List ℕ → List ℕ → Bool
is_yes kid alg transcript_hash signature_hash row =
    (slice_index row 0 == 0x01) && bytes_eq (field 1 16 row) kid && slice_index row 17 == alg
    && bytes_eq (field 18 32 row) transcript_hash && bytes_eq (field 50 32 row) signature_hash

-- a kid is known for an alg when it has a pin row
abbrev pub is_pinned : List ℕ → List ℕ → ℕ → Bool
is_pinned sheet kid alg = list_any (is_pin kid alg) (rows_of 82 sheet)

-- a signature is good when its kid is known for the alg and a yes row has all four
abbrev pub is_vouched : List ℕ → List ℕ → ℕ → List ℕ → List ℕ → Bool
is_vouched sheet kid alg transcript signature =
    is_pinned sheet kid alg && list_any (is_yes kid alg (sha256_of transcript) (sha256_of signature)) (rows_of 82 sheet)
