-- A field is read exactly where its encoding stands.
use Rattle.std.specs.Prelude.{◌≡◌, ℕ, ◌^◌, ◌<◌, true, List, length, ℤ, pos, negsuc, Some, Option}
use Rattle.text.specs.Table.{is_text}
use Rattle.items.specs.declared.types.Span.{Span}
use Rattle.items.specs.Fields.{argument_at, unsigned_at, negative_at, integer_at, key_at, bytes_at, text_at, map_at}
use Rattle.items.specs.Trees.{Item, unsigned, negative, bytes, text, map, head_of, encoding, Canonical, At, Runs}
use Rattle.items_laws.specs.Laws.{Octets}

-- parse reads exactly the good values of X, as they are encoded; Sees says what it shows of a value
pub record Exact {V X : Type 0} (parse : List ℕ → ℕ → Option (V × ℕ)) (item : X → Item) (Good : X → Type 0) (Sees : List ℕ → V → X → Type 0) : Type 0 where
  pub sound : (os : List ℕ) → Octets os → (p : ℕ) (v : V) (q : ℕ) → parse os p ≡ Some (v, q) → (x : X) × Good x × Runs os p (encoding (item x)) q × Sees os v x
  pub back : (os : List ℕ) (p : ℕ) (x : X) (q : ℕ) → Good x → Runs os p (encoding (item x)) q → (v : V) × (parse os p ≡ Some (v, q)) × Sees os v x

-- a number of 64 bits
abbrev pub Fits : ℕ → Type 0
Fits n = n < 2 ^ 64

-- the number itself is given
abbrev pub Same : List ℕ → ℕ → ℕ → Type 0
Same os v n = v ≡ n

-- the span is where the octets stand
pub record Spot (os : List ℕ) (s : Span) (bs : List ℕ) : Type 0 where
  pub there : At os s.start bs
  pub long : s.len ≡ length bs

-- a string of text
pub record TextFits (bs : List ℕ) : Type 0 where
  pub fits : length bs < 2 ^ 64
  pub utf8 : is_text bs ≡ true

-- the head of major type m is read exactly where it stands
pub record HeadExact : Type 0 where
  pub sound : (os : List ℕ) → Octets os → (m p n q : ℕ) → argument_at m os p ≡ Some (n, q) → Runs os p (head_of m n) q × Fits n
  pub back : (os : List ℕ) (m p n q : ℕ) → Fits n → Runs os p (head_of m n) q → argument_at m os p ≡ Some (n, q)

-- the key n is read exactly where it stands
pub record KeyExact : Type 0 where
  pub sound : (os : List ℕ) → Octets os → (n p q : ℕ) → key_at n os p ≡ Some q → Runs os p (encoding (unsigned n)) q
  pub back : (os : List ℕ) (n p q : ℕ) → Fits n → Runs os p (encoding (unsigned n)) q → key_at n os p ≡ Some q

-- the item of an integer
abbrev pub integer : ℤ → Item
integer (pos n) = unsigned n
integer (negsuc n) = negative n

-- an integer from -2^63 to 2^63 - 1
abbrev pub Fits63 : ℤ → Type 0
Fits63 (pos n) = n < 2 ^ 63
Fits63 (negsuc n) = n < 2 ^ 63

-- an unsigned number is read exactly where it stands
abbrev pub UnsignedExact : Type 0
UnsignedExact = Exact unsigned_at unsigned Fits Same

-- a negative number is
abbrev pub NegativeExact : Type 0
NegativeExact = Exact negative_at negative Fits Same

-- an integer of either sign is
abbrev pub IntegerExact : Type 0
IntegerExact = Exact integer_at integer Fits63 (λ os v z. v ≡ z)

-- a byte string is
abbrev pub BytesExact : Type 0
BytesExact = Exact bytes_at bytes (λ bs. length bs < 2 ^ 64) Spot

-- a text string is
abbrev pub TextExact : Type 0
TextExact = Exact text_at text TextFits Spot

-- a map of anything, as a message may hold, is
abbrev pub MapExact : Type 0
MapExact = Exact map_at map (λ es. Canonical (map es)) (λ os s es. Spot os s (encoding (map es)))
