-- What the head of an item says, and how strings are passed.
use Rattle.std.specs.Prelude.{◌≡◌, ℕ, zero, suc, ◌+◌, ◌*◌, ◌/◌, ◌%◌, Bool, true, cond, ◌&&◌, List, length, take, drop, Ok, Err, Result, ◌==◌, nat_le, nat_lt, slice_index}
use Rattle.text.specs.Table.{is_text}
use Rattle.items.specs.declared.types.Fault.{Fault}
use Rattle.items.specs.declared.types.Fault.TheVariants.{Malformed, Indefinite}
use Rattle.items.specs.declared.types.Head.{Head as Got}
use Rattle.items.specs.Majors.{number_of}

-- what a head says: the number of its major type, its argument, and whether no shorter head has this argument
pub record Head : Type 0 where
  pub major : ℕ
  pub argument : ℕ
  pub shortest : Bool

-- what the head that was read says
abbrev pub says : Got → Head
says h = record { major = number_of h.major; argument = h.argument; shortest = h.shortest }

-- the same of a reading
abbrev pub said : Result Got Fault → Result Head Fault
said (Ok h) = Ok (says h)
said (Err e) = Err e

-- the number that n octets from p on write, the most significant first
abbrev pub big_endian : List ℕ → ℕ → ℕ → ℕ
big_endian os p zero = 0
big_endian os p (suc n) = big_endian os p n * 256 + slice_index os (p + n)

-- how many octets of argument follow a first octet with additional information 24 to 27
abbrev pub width : ℕ → ℕ
width info = cond (info == 24) 1 (cond (info == 25) 2 (cond (info == 26) 4 8))

-- the least argument that no shorter head writes
abbrev pub least : ℕ → ℕ
least info = cond (info == 24) 24 (cond (info == 25) 256 (cond (info == 26) 65536 4294967296))

-- a head whose argument follows its first octet: a fault where the octets end inside it
unfoldable pub long_head : List ℕ → ℕ → ℕ → ℕ → Result Head Fault
long_head os p major info =
    cond (nat_le (p + 1 + width info) (length os))
    (Ok (record { major = major; argument = big_endian os (p + 1) (width info); shortest = nat_le (least info) (big_endian os (p + 1) (width info)) }))
    (Err Malformed)

-- a head by its major type and additional information: 28 to 30 are no head, 31 is indefinite
unfoldable pub head_from : List ℕ → ℕ → ℕ → ℕ → Result Head Fault
head_from os p major info =
    cond (nat_lt info 24)
    (Ok (record { major = major; argument = info; shortest = true }))
    (cond (nat_lt info 28) (long_head os p major info) (cond (info == 31) (Err Indefinite) (Err Malformed)))

-- the head at place p of the octets: a fault where no octet is left
unfoldable pub head_at : List ℕ → ℕ → Result Head Fault
head_at os p =
    cond (nat_lt p (length os))
    (head_from os p (slice_index os p / 32) (slice_index os p % 32))
    (Err Malformed)

-- how many octets the head at p has
unfoldable pub head_size : List ℕ → ℕ → ℕ
head_size os p = cond (nat_lt (slice_index os p % 32) 24) 1 (1 + width (slice_index os p % 32))

-- the fault at a place where no further head may stand: additional information 31 comes before it
unfoldable pub fault_at : List ℕ → ℕ → Fault
fault_at os p = cond (nat_lt p (length os) && slice_index os p % 32 == 31) Indefinite Malformed

-- go on with what was read
abbrev pub after : {X Y : Type 0} → Result X Fault → (X → Result Y Fault) → Result Y Fault
after (Ok x) f = f x
after (Err e) f = Err e

-- n octets from p on
abbrev pub part : List ℕ → ℕ → ℕ → List ℕ
part os p n = take n (drop p os)

-- the place behind n octets at p
unfoldable pub skipped : List ℕ → ℕ → ℕ → Result ℕ Fault
skipped os p n = cond (nat_le (p + n) (length os)) (Ok (p + n)) (Err Malformed)

-- the place behind a text of n octets at p
unfoldable pub text_read : List ℕ → ℕ → ℕ → Result ℕ Fault
text_read os p n = cond (nat_le (p + n) (length os)) (cond (is_text (part os p n)) (Ok (p + n)) (Err Malformed)) (Err Malformed)

-- r tells what the step came to: the place q, or its fault
abbrev pub Moved : {X : Type 0} → Result X Fault → Result ℕ Fault → ℕ → Type 0
Moved (Ok x) came q = came ≡ Ok q
Moved (Err e) came q = came ≡ Err e
