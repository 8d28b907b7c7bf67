-- UTF-8 by the table of octet sequences of RFC 3629: no overlong forms, no surrogates, nothing above 10FFFF.
use Rattle.std.specs.Prelude.{ℕ, zero, suc, Bool, true, false, cond, ◌&&◌, List, [], ◌∷◌, ◌==◌, nat_le, nat_lt}

-- how many octets follow a character's first octet: 0 for 00 to 7F, 1 for C2 to DF, 2 for E0 to EF, 3 for F0 to F4; 4 for an octet that begins no character
abbrev pub tails : ℕ → ℕ
tails first = cond (nat_lt first 0x80) 0 (cond (nat_lt first 0xC2) 4 (cond (nat_lt first 0xE0) 1 (cond (nat_lt first 0xF0) 2 (cond (nat_lt first 0xF5) 3 4))))

-- the least second octet behind a first one: A0 behind E0, 90 behind F0, otherwise 80
abbrev pub low : ℕ → ℕ
low first = cond (first == 0xE0) 0xA0 (cond (first == 0xF0) 0x90 0x80)

-- the greatest second octet behind a first one: 9F behind ED, 8F behind F4, otherwise BF
abbrev pub high : ℕ → ℕ
high first = cond (first == 0xED) 0x9F (cond (first == 0xF4) 0x8F 0xBF)

-- an octet lies between two bounds, both included
abbrev pub within : ℕ → ℕ → ℕ → Bool
within lo hi octet = nat_le lo octet && nat_le octet hi

-- n octets of a character are due, the next of them between lo and hi; then come whole characters
unfoldable pub text_after : ℕ → ℕ → ℕ → List ℕ → Bool
text_after zero lo hi [] = true
text_after zero lo hi (first ∷ octets) = nat_lt (tails first) 4 && text_after (tails first) (low first) (high first) octets
text_after (suc n) lo hi [] = false
text_after (suc n) lo hi (octet ∷ octets) = within lo hi octet && text_after n 0x80 0xBF octets

-- octets are text: whole characters from the first octet to the last
abbrev pub is_text : List ℕ → Bool
is_text octets = text_after 0 0x80 0xBF octets
