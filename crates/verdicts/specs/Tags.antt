-- What a tag sheet means. A row has 64 octets: kid (16), SHA-256 of the transcript (32), tag (16). All rows are of alg 3.
use Rattle.std.specs.Prelude.{ℕ, Bool, ◌&&◌, List, ◌==◌}
use Rattle.std.specs.List.{list_any}
use Rattle.std.specs.Str.{bytes_eq}
use Rattle.sha256.specs.Sha256.{sha256_of}
use Rattle.verdicts.specs.Rows.{rows_of, field}

-- a row of this kid
abbrev pub is_of_kid : List ℕ → List ℕ → Bool
is_of_kid kid row = bytes_eq (field 0 16 row) kid

-- a row of this kid, hash of a transcript and tag
abbrev pub is_tag : List ℕ → List ℕ → List ℕ → List ℕ → Bool
is_tag kid transcript_hash tag row = is_of_kid kid row && bytes_eq (field 16 32 row) transcript_hash && bytes_eq (field 48 16 row) tag

-- a kid is known for alg 3 alone, when it has a row
abbrev pub is_listed : List ℕ → List ℕ → ℕ → Bool
is_listed sheet kid alg = alg == 3 && list_any (is_of_kid kid) (rows_of 64 sheet)

-- a signature is good for alg 3 alone, when some row has the kid, the transcript's hash and the signature as its tag
abbrev pub is_tagged : List ℕ → List ℕ → ℕ → List ℕ → List ℕ → Bool
is_tagged sheet kid alg transcript signature = alg == 3 && list_any (is_tag kid (sha256_of transcript) signature) (rows_of 64 sheet)
