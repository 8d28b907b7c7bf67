-- An argument that is read at its place is the one in the tree.
use Rattle.std.proofs.Common.{◌≡◌, ℕ, ◌+◌, ◌^◌, ◌<◌, Bool, true, false, cond, ◌&&◌, eqb, ltb, leb, List, length, ℤ, pos, negsuc, nat_abs, Some, None, Ok, Option, sym, refl, ap, ◌∙◌, subst, arith}
use Rattle.std.proofs.lemmas.Bool.Decides.{nat_tests}
use Rattle.std.proofs.lemmas.Option.{same_Some}
use Rattle.items.specs.declared.types.Span.{Span}
use Rattle.items.specs.Heads.{head_size}
use Rattle.items.specs.Reading.{containers}
use Rattle.items.specs.Fields.{bind, picked, argument_at, either_sign, integer_at, string_at, text_at}
use Rattle.items.specs.Lookup.{lookup_of}
use Rattle.items.specs.Trees.{Item, unsigned, negative, bytes, text, array, map, simple_false, simple_true, simple_null, Entries, map_size, head_of, encoding, entries_encoding, Within, Canonical, At, value_of}
use Rattle.items_laws.specs.Exact.{Spot}
use Rattle.items_laws.specs.Laws.{Found}
use Rattle.items_laws.proofs.Written.{at_left}
use Rattle.items_laws.proofs.Unique.{major, argument, head-reads}
use Rattle.items_laws.proofs.Finding.{finds_value}
use Rattle.items_laws.proofs.Inner.{value-canonical}
use Rattle.items_laws.proofs.Runnings.{bytes-exact, text-exact, argument-back}
use Rattle.commands.specs.declared.types.Track as declared
use Rattle.commands.specs.Arguments.{perhaps, number_in, between_in, signed_in, optional_in, track_in, text_in}
use Rattle.commands.specs.Orders.{given}
use Rattle.commands.specs.Octets.{field, either_track, sized, arguments_at}
use Rattle.commands.specs.Entries.{Track, unsigned_of, integer_of, track_of, text_of, keys_below, arguments_of}
use Rattle.commands_laws.specs.Laws.{ShowsTrack, shows_number, shows_octets}
use Rattle.commands_laws.proofs.Counting.{one, found_below, no_others}

-- both are there, and related, or neither is
abbrev pub Both : {X Y : Type 0} → (X → Y → Type 0) → Option X → Option Y → Type 0
Both R None None = Unit {0}
Both R None (Some y) = ⊥
Both R (Some x) None = ⊥
Both R (Some x) (Some y) = R x y

-- the value v, encoded at q
module _ (os : List ℕ) (q : ℕ) where
  head-is : (v : Item) → Within v containers → At os q (encoding v) → (m : ℕ) → argument_at m os q ≡ cond (eqb (major v) m && true) (Some (argument v, q + head_size os q)) None
  unfolding argument_at
  head-is v fits a m = ap (picked m (q + head_size os q)) (head-reads os v containers q fits a).is

  unsigned-same : (v : Item) → Within v containers → At os q (encoding v) → field (argument_at 0 os q) ≡ unsigned_of v
  unsigned-same (unsigned n) fits a = ap field (head-is (unsigned n) fits a 0)
  unsigned-same (negative n) fits a = ap field (head-is (negative n) fits a 0)
  unsigned-same (bytes bs) fits a = ap field (head-is (bytes bs) fits a 0)
  unsigned-same (text bs) fits a = ap field (head-is (text bs) fits a 0)
  unsigned-same (array ts) fits a = ap field (head-is (array ts) fits a 0)
  unsigned-same (map es) fits a = ap field (head-is (map es) fits a 0)
  unsigned-same simple_false fits a = ap field (head-is simple_false fits a 0)
  unsigned-same simple_true fits a = ap field (head-is simple_true fits a 0)
  unsigned-same simple_null fits a = ap field (head-is simple_null fits a 0)

  -- an integer no farther from 0 than the limit
  module _ (limit : ℕ) (low : limit < 2 ^ 63) where
    abbrev near : ℤ → Option ℤ
    near z = cond (leb (nat_abs z) limit) (Some z) None

    pos_near : (n r : ℕ) → bind (field (cond (ltb n (2 ^ 63)) (Some (pos n, r)) None)) near ≡ near (pos n)
    pos_near n r = by (ltb n (2 ^ 63)) refl
      where
        by : (b : Bool) → ltb n (2 ^ 63) ≡ b → bind (field (cond b (Some (pos n, r)) None)) near ≡ near (pos n)
        by true e = refl
        by false e = let far : leb n limit ≡ false = grind (arith, nat_tests) in sym (ap (λ b. cond b (Some (pos n)) None) far)

    negsuc_near : (n r : ℕ) → bind (field (cond (ltb n (2 ^ 63)) (Some (negsuc n, r)) None)) near ≡ near (negsuc n)
    negsuc_near n r = by (ltb n (2 ^ 63)) refl
      where
        by : (b : Bool) → ltb n (2 ^ 63) ≡ b → bind (field (cond b (Some (negsuc n, r)) None)) near ≡ near (negsuc n)
        by true e = refl
        by false e = let far : leb (nat_abs (negsuc n)) limit ≡ false = grind (arith, nat_tests) in sym (ap (λ b. cond b (Some (negsuc n)) None) far)

    signs : (v : Item) → Within v containers → At os q (encoding v) → integer_at os q ≡ either_sign (cond (eqb (major v) 0 && true) (Some (argument v, q + head_size os q)) None) (cond (eqb (major v) 1 && true) (Some (argument v, q + head_size os q)) None)
    unfolding integer_at
    signs v fits a = (λ i. either_sign (head-is v fits a 0 i) (head-is v fits a 1 i))

    near_same : (v : Item) → Within v containers → At os q (encoding v) → bind (field (integer_at os q)) near ≡ bind (integer_of v) near
    near_same (unsigned n) fits a = ap (λ x. bind (field x) near) (signs (unsigned n) fits a) ∙ pos_near n (q + head_size os q)
    near_same (negative n) fits a = ap (λ x. bind (field x) near) (signs (negative n) fits a) ∙ negsuc_near n (q + head_size os q)
    near_same (bytes bs) fits a = ap (λ x. bind (field x) near) (signs (bytes bs) fits a)
    near_same (text bs) fits a = ap (λ x. bind (field x) near) (signs (text bs) fits a)
    near_same (array ts) fits a = ap (λ x. bind (field x) near) (signs (array ts) fits a)
    near_same (map es) fits a = ap (λ x. bind (field x) near) (signs (map es) fits a)
    near_same simple_false fits a = ap (λ x. bind (field x) near) (signs simple_false fits a)
    near_same simple_true fits a = ap (λ x. bind (field x) near) (signs simple_true fits a)
    near_same simple_null fits a = ap (λ x. bind (field x) near) (signs simple_null fits a)

  -- no string of this kind
  no_string : (m : ℕ) → argument_at m os q ≡ None → string_at m os q ≡ None
  unfolding string_at
  no_string m none = rw none

  no_text : argument_at 3 os q ≡ None → text_at os q ≡ None
  unfolding text_at
  no_text none = let e = no_string 3 none in rw e

  no_track : argument_at 0 os q ≡ None → argument_at 2 os q ≡ None → either_track (argument_at 0 os q) (string_at 2 os q) ≡ None
  no_track none none' = (λ i. either_track (none i) (no_string 2 none' i))

  track-none : (x : Option declared.Track) → x ≡ None → Both (ShowsTrack os) x None
  track-none x e = subst (λ y. Both (ShowsTrack os) y None) (sym e) tt

  track-same : (v : Item) → Within v containers → At os q (encoding v) → Both (ShowsTrack os) (either_track (argument_at 0 os q) (string_at 2 os q)) (track_of v)
  unfolding Within
  track-same (unsigned n) fits a = subst (λ x. Both (ShowsTrack os) (either_track x (string_at 2 os q)) (track_of (unsigned n))) (sym (head-is (unsigned n) fits a 0)) (shows_number n)
  track-same (negative n) fits a = track-none _ (no_track (head-is (negative n) fits a 0) (head-is (negative n) fits a 2))
  track-same (bytes bs) fits a =
      let b = bytes-exact.back os q bs (q + length (encoding (bytes bs))) fits (record { at = a; on = refl }) in
      let e : either_track (argument_at 0 os q) (string_at 2 os q) ≡ either_track None (Some (b.0, q + length (encoding (bytes bs)))) = (λ i. either_track (head-is (bytes bs) fits a 0 i) (b.1 i)) in
      subst (λ x. Both (ShowsTrack os) x (track_of (bytes bs))) (sym e) (shows_octets b.0 bs b.2)
  track-same (text bs) fits a = track-none _ (no_track (head-is (text bs) fits a 0) (head-is (text bs) fits a 2))
  track-same (array ts) fits a = track-none _ (no_track (head-is (array ts) fits a 0) (head-is (array ts) fits a 2))
  track-same (map es) fits a = track-none _ (no_track (head-is (map es) fits a 0) (head-is (map es) fits a 2))
  track-same simple_false fits a = track-none _ (no_track (head-is simple_false fits a 0) (head-is simple_false fits a 2))
  track-same simple_true fits a = track-none _ (no_track (head-is simple_true fits a 0) (head-is simple_true fits a 2))
  track-same simple_null fits a = track-none _ (no_track (head-is simple_null fits a 0) (head-is simple_null fits a 2))

  text-none : (x : Option (Span × ℕ)) → x ≡ None → Both (Spot os) (field x) None
  text-none x e = subst (λ y. Both (Spot os) (field y) None) (sym e) tt

  text_same : (v : Item) → Within v containers → At os q (encoding v) → Both (Spot os) (field (text_at os q)) (text_of v)
  unfolding Within
  text_same (unsigned n) fits a = text-none _ (no_text (head-is (unsigned n) fits a 3))
  text_same (negative n) fits a = text-none _ (no_text (head-is (negative n) fits a 3))
  text_same (bytes bs) fits a = text-none _ (no_text (head-is (bytes bs) fits a 3))
  text_same (text bs) (fits, utf8) a =
      let b = text-exact.back os q bs (q + length (encoding (text bs))) (record { fits = fits; utf8 = utf8 }) (record { at = a; on = refl }) in
      subst (λ x. Both (Spot os) (field x) (Some bs)) (sym b.1) b.2
  text_same (array ts) fits a = text-none _ (no_text (head-is (array ts) fits a 3))
  text_same (map es) fits a = text-none _ (no_text (head-is (map es) fits a 3))
  text_same simple_false fits a = text-none _ (no_text (head-is simple_false fits a 3))
  text_same simple_true fits a = text-none _ (no_text (head-is simple_true fits a 3))
  text_same simple_null fits a = text-none _ (no_text (head-is simple_null fits a 3))

-- a key is in both the octets and the tree, or in neither
data Seen (os : List ℕ) (p : ℕ) (es : Entries) (key : ℕ) : Type 0 where
  absent : value_of es key ≡ None → lookup_of os p key ≡ Ok None → Seen os p es key
  present : (v : Item) (q : ℕ) → value_of es key ≡ Some v → lookup_of os p key ≡ Ok (Some q) → Within v containers → At os q (encoding v) → Seen os p es key

module _ (os : List ℕ) (p : ℕ) (es : Entries) (good : Canonical (map es)) (a : At os p (encoding (map es))) where
  seen : (key : ℕ) → Seen os p es key
  seen key = by (value_of es key) refl (finds_value os key p (lookup_of os p key) refl es good a)
    where
      by : (o : Option Item) → value_of es key ≡ o → Found os o (lookup_of os p key) → Seen os p es key
      by None e f = absent e f
      by (Some v) e (q, is, at) = present v q e is (value-canonical es key v good e).within at

  pub number_same : (key : ℕ) → number_in (arguments_at os p) key ≡ number_in (arguments_of es) key
  unfolding number_in
  number_same key = by (seen key)
    where
      by : Seen os p es key → number_in (arguments_at os p) key ≡ number_in (arguments_of es) key
      by (absent none miss) = rw (none, miss)
      by (present v q some hit fits at) = rw (some, hit) (unsigned-same os q v fits at)

  pub between-same : (key low high : ℕ) → between_in (arguments_at os p) key low high ≡ between_in (arguments_of es) key low high
  unfolding between_in
  between-same key low high = ap (λ x. bind x (λ n. cond (leb low n && leb n high) (Some n) None)) (number_same key)

  pub signed_same : (key limit : ℕ) → limit < 2 ^ 63 → signed_in (arguments_at os p) key limit ≡ signed_in (arguments_of es) key limit
  unfolding signed_in
  signed_same key limit low = by (seen key)
    where
      by : Seen os p es key → signed_in (arguments_at os p) key limit ≡ signed_in (arguments_of es) key limit
      by (absent none miss) = rw (none, miss)
      by (present v q some hit fits at) = rw (some, hit) (near_same os q limit low v fits at)

  pub optional-same : (key : ℕ) → optional_in (arguments_at os p) key ≡ optional_in (arguments_of es) key
  unfolding optional_in
  optional-same key = by (seen key)
    where
      by : Seen os p es key → optional_in (arguments_at os p) key ≡ optional_in (arguments_of es) key
      by (absent none miss) = rw (none, miss)
      by (present v q some hit fits at) = rw (some, hit) (ap (λ x. bind x (λ n. Some (Some n))) (unsigned-same os q v fits at))

  pub tracks : (key : ℕ) → Both (ShowsTrack os) (track_in (arguments_at os p) key) (track_in (arguments_of es) key)
  unfolding track_in
  tracks key = by (seen key)
    where
      by : Seen os p es key → Both (ShowsTrack os) (track_in (arguments_at os p) key) (track_in (arguments_of es) key)
      by (absent none miss) = rw (none, miss) tt
      by (present v q some hit fits at) = rw (some, hit) (track-same os q v fits at)

  pub texts : (key : ℕ) → Both (Spot os) (text_in (arguments_at os p) key) (text_in (arguments_of es) key)
  unfolding text_in
  texts key = by (seen key)
    where
      by : Seen os p es key → Both (Spot os) (text_in (arguments_at os p) key) (text_in (arguments_of es) key)
      by (absent none miss) = rw (none, miss) tt
      by (present v q some hit fits at) = rw (some, hit) (text_same os q v fits at)

  -- no other key is there in the octets exactly when none is in the tree
  pub only_same : (n m : ℕ) → m ≡ found_below es n → sized (argument_at 5 os p) m ≡ keys_below n es
  unfolding encoding Within
  only_same n m e =
      let h = argument-back os 5 p (map_size es) (p + length (head_of 5 (map_size es))) (omega (arith, good.within.0)) (record { at = at_left os p (head_of 5 (map_size es)) (entries_encoding es) a; on = refl }) in
      ap (λ x. sized x m) h ∙ ap (eqb (map_size es)) e ∙ sym (no_others es good n)

-- what was found of a key
module _ (es : Entries) (key : ℕ) where
  needed : {X : Type 0} (f : Item → Option X) (x : X) → bind (bind (Some (value_of es key)) (λ found. found)) f ≡ Some x → one (value_of es key) ≡ 1
  needed f x is = by (value_of es key) is
    where
      by : (o : Option Item) → bind o f ≡ Some x → one o ≡ 1
      by None e = cc
      by (Some v) e = refl

  pub number-found : (n : ℕ) → number_in (arguments_of es) key ≡ Some n → one (value_of es key) ≡ 1
  unfolding number_in
  number-found n is = needed unsigned_of n is

  pub between-found : (low high n : ℕ) → between_in (arguments_of es) key low high ≡ Some n → one (value_of es key) ≡ 1
  unfolding between_in
  between-found low high n is = by (number_in (arguments_of es) key) refl is
    where
      by : (o : Option ℕ) → number_in (arguments_of es) key ≡ o → bind o (λ n. cond (leb low n && leb n high) (Some n) None) ≡ Some n → one (value_of es key) ≡ 1
      by None e got = cc
      by (Some m) e got = number-found m e

  pub signed-found : (limit : ℕ) (z : ℤ) → signed_in (arguments_of es) key limit ≡ Some z → one (value_of es key) ≡ 1
  unfolding signed_in
  signed-found limit z is = needed (λ v. bind (integer_of v) (λ z. cond (leb (nat_abs z) limit) (Some z) None)) z is

  pub track-found : (t : Track) → track_in (arguments_of es) key ≡ Some t → one (value_of es key) ≡ 1
  unfolding track_in
  track-found t is = needed track_of t is

  pub text-found : (bs : List ℕ) → text_in (arguments_of es) key ≡ Some bs → one (value_of es key) ≡ 1
  unfolding text_in
  text-found bs is = needed text_of bs is

  pub optional-found : (x : Option ℕ) → optional_in (arguments_of es) key ≡ Some x → one (value_of es key) ≡ given x
  unfolding optional_in
  optional-found x is = by (value_of es key) is
    where
      some-given : (o : Option ℕ) → bind o (λ n. Some (Some n)) ≡ Some x → 1 ≡ given x
      some-given None e = cc
      some-given (Some n) e = ap given (same_Some _ _ e)

      by : (o : Option Item) → bind (Some o) (perhaps (arguments_of es)) ≡ Some x → one o ≡ given x
      by None e = ap given (same_Some _ _ e)
      by (Some v) e = some-given (unsigned_of v) e
