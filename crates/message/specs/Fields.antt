-- The fields of a message as a tree, the sender's side: what a message says, and what of it is signed.
use Rattle.std.specs.Prelude.{◌≡◌, ℕ, ◌≤◌, Bool, true, false, ◌&&◌, List, length, Some, None, Option, ◌==◌, nat_le}
use Rattle.std.specs.Str.{bytes_eq}
use Rattle.items.specs.Trees.{Item, unsigned, negative, bytes, text, array, map, simple_false, simple_true, simple_null, Items, no_items, next_item, Entries, no_entries, next_entry, encoding, Canonical}
use Rattle.message.specs.Sizes.{message_most, args_most, meta_most, text_most, bytes_most}
use Rattle.message.specs.Checks.{signature_length}

-- what a message says
pub record Fields : Type 0 where
  pub profile : ℕ
  pub epoch : ℕ
  pub counter : ℕ
  pub sid : List ℕ
  pub exp : Option ℕ
  pub kind : ℕ
  pub args : Entries
  pub duo : Option (List ℕ)
  pub alg : ℕ
  pub kid : List ℕ
  pub signature : List ℕ
  pub ctx : Option (List ℕ)
  pub meta : Option (Option (List ℕ))
  pub ext : Option Entries

-- the entry of key k before others
abbrev pub entry : ℕ → Item → Entries → Entries
entry k v es = next_entry (unsigned k) v es

-- the same where it may be absent
abbrev pub optionally : {V : Type 0} → ℕ → (V → Item) → Option V → Entries → Entries
optionally k item None es = es
optionally k item (Some x) es = entry k (item x) es

-- mid: 0 epoch, 1 counter, 2 sid, optional 3 exp
abbrev pub mid_tree : ℕ → ℕ → List ℕ → Option ℕ → Item
mid_tree epoch counter sid exp = map (entry 0 (unsigned epoch) (entry 1 (unsigned counter) (entry 2 (bytes sid) (optionally 3 unsigned exp no_entries))))

-- cmd: 0 type, 1 args, optional 2 duo
abbrev pub cmd_tree : ℕ → Entries → Option (List ℕ) → Item
cmd_tree kind args duo = map (entry 0 (unsigned kind) (entry 1 (map args) (optionally 2 bytes duo no_entries)))

-- auth: 0 alg, 1 kid, optional 2 signature, optional 3 ctx; only what is signed has no signature
abbrev pub auth_tree : ℕ → List ℕ → Option (List ℕ) → Option (List ℕ) → Item
auth_tree alg kid signature ctx = map (entry 0 (unsigned alg) (entry 1 (bytes kid) (optionally 2 bytes signature (optionally 3 bytes ctx no_entries))))

-- meta: optional 0 echo
abbrev pub meta_tree : Option (List ℕ) → Item
meta_tree echo = map (optionally 0 bytes echo no_entries)

-- the message map: 0 version, which is 1, 1 profile, 2 mid, 3 cmd, 4 auth, optional 5 meta, optional 6 ext
abbrev pub message_tree : Fields → Option (List ℕ) → Item
message_tree f signature =
    map (entry 0 (unsigned 1)
    (entry 1 (unsigned f.profile)
    (entry 2 (mid_tree f.epoch f.counter f.sid f.exp)
    (entry 3 (cmd_tree f.kind f.args f.duo)
    (entry 4 (auth_tree f.alg f.kid signature f.ctx)
    (optionally 5 meta_tree f.meta
    (optionally 6 map f.ext no_entries)))))))

-- the message
abbrev pub tree : Fields → Item
tree f = message_tree f (Some f.signature)

-- what is signed
abbrev pub unsigned_tree : Fields → Item
unsigned_tree f = message_tree f None

-- at most so many octets, if there are any
abbrev pub AtMost : ℕ → Option (List ℕ) → Type 0
AtMost n None = Unit {0}
AtMost n (Some bs) = length bs ≤ n

-- the echo, if there are metadata that have one
abbrev pub echo_in : Option (Option (List ℕ)) → Option (List ℕ)
echo_in None = None
echo_in (Some echo) = echo

-- fields that a message may have
pub record Valid (f : Fields) : Type 0 where
  pub sid : length f.sid ≡ 16
  pub kid : length f.kid ≡ 16
  pub alg : (1 ≤ f.alg) × (f.alg ≤ 3)
  pub ctx : AtMost 32 f.ctx
  pub echo : AtMost 32 (echo_in f.meta)
  pub canonical : Canonical (tree f)

-- every text and every byte string in a tree is short enough
unfoldable mutual
  pub strings_short : Item → Bool
  strings_short (unsigned n) = true
  strings_short (negative n) = true
  strings_short (bytes bs) = nat_le (length bs) bytes_most
  strings_short (text bs) = nat_le (length bs) text_most
  strings_short (array ts) = items_short ts
  strings_short (map es) = entries_short es
  strings_short simple_false = true
  strings_short simple_true = true
  strings_short simple_null = true

  pub items_short : Items → Bool
  items_short no_items = true
  items_short (next_item t ts) = strings_short t && items_short ts

  pub entries_short : Entries → Bool
  entries_short no_entries = true
  entries_short (next_entry k v es) = strings_short k && (strings_short v && entries_short es)

-- the metadata are small enough, or absent
abbrev pub meta_small : Option (Option (List ℕ)) → Bool
meta_small None = true
meta_small (Some echo) = nat_le (length (encoding (meta_tree echo))) meta_most

-- message, arguments and metadata are small enough, and all strings but the signature
abbrev pub Sizes : Fields → Bool
Sizes f =
    nat_le (length (encoding (tree f))) (message_most f.alg)
    && nat_le (length (encoding (map f.args))) args_most
    && meta_small f.meta
    && strings_short (unsigned_tree f)

-- a context is there, with these octets
abbrev pub is_given : List ℕ → Option (List ℕ) → Bool
is_given echo None = false
is_given echo (Some ctx) = bytes_eq echo ctx

-- an echo is absent, or equal to a context that is there
abbrev pub Echoes : Option (List ℕ) → Option (List ℕ) → Bool
Echoes None ctx = true
Echoes (Some echo) ctx = is_given echo ctx

-- the signature has the length of its alg
abbrev pub SignatureFits : Fields → Bool
SignatureFits f = length f.signature == signature_length f.alg
