-- A request is answered exactly where a valid order is written.
use Rattle.std.proofs.Common.{◌≡◌, ℕ, ◌≤◌, Bool, true, false, cond, ◌&&◌, ◌||◌, eqb, leb, List, ℤ, pos, negsuc, nat_abs, Some, None, Ok, Err, Option, Result, sym, refl, ap, ◌∙◌, subst, inl, inr, ⊎_elim, arith}
use Rattle.std.proofs.lemmas.Bool.{and_parts, and_from, or_cases, le-leb, leb-true, eqb-true}
use Rattle.std.proofs.lemmas.Option.{same_Some, cond_some}
use Rattle.answers.specs.declared.refusal.Refusal.{Refusal}
use Rattle.items.specs.Fields.{bind}
use Rattle.items.specs.Trees as trees
use Rattle.items.specs.Trees.{Item, unsigned, negative, bytes, array, map, simple_false, simple_true, simple_null, Entries, no_entries, Canonical, value_of}
use Rattle.items_laws.specs.Exact.{integer}
use Rattle.items_laws.proofs.Runnings.{bound}
use Rattle.commands.specs.declared.types.Request.{Request}
use Rattle.commands.specs.Arguments.{perhaps, number_in, between_in, signed_in, optional_in, track_in, text_in}
use Rattle.commands.specs.Orders.{Order, heartbeat, queue, suggest, remove, state, seek, rate, next, previous, text, reserved, in_order, closing, heartbeat_in, queue_in, suggest_in, remove_in, state_in, seek_in, rate_in, text_order_in, listed, order_in}
use Rattle.commands.specs.Octets.{request_at}
use Rattle.commands.specs.Entries.{Track, number, octets, unsigned_of, integer_of, track_of, text_of, keys_below, arguments_of, order_of}
use Rattle.commands_laws.specs.Laws.{Shows, Answers}
use Rattle.commands_laws.specs.Sending.{kind_of, track_item, entry, optional_entry, entries_of, Valid, Sends, ReadsOrders}
use Rattle.commands_laws.proofs.Rising.{entry_if, entries_from, relist}
use Rattle.commands_laws.proofs.Orderings.{answers_order}

abbrev Meant : Type 0
Meant = Order Track (List ℕ)

-- an item that is read as a value is how the value is written
unsigned_item : (v : Item) (n : ℕ) → unsigned_of v ≡ Some n → v ≡ unsigned n
unsigned_item (unsigned m) n e = cc
unsigned_item (negative m) n e = cc
unsigned_item (bytes bs) n e = cc
unsigned_item (trees.text bs) n e = cc
unsigned_item (array ts) n e = cc
unsigned_item (map es) n e = cc
unsigned_item simple_false n e = cc
unsigned_item simple_true n e = cc
unsigned_item simple_null n e = cc

integer_item : (v : Item) (z : ℤ) → integer_of v ≡ Some z → v ≡ integer z
integer_item (unsigned m) z e = cc
integer_item (negative m) z e = cc
integer_item (bytes bs) z e = cc
integer_item (trees.text bs) z e = cc
integer_item (array ts) z e = cc
integer_item (map es) z e = cc
integer_item simple_false z e = cc
integer_item simple_true z e = cc
integer_item simple_null z e = cc

track_item_lem : (v : Item) (t : Track) → track_of v ≡ Some t → v ≡ track_item t
track_item_lem (unsigned m) t e = ap track_item (same_Some _ _ e)
track_item_lem (negative m) t e = cc
track_item_lem (bytes bs) t e = ap track_item (same_Some _ _ e)
track_item_lem (trees.text bs) t e = cc
track_item_lem (array ts) t e = cc
track_item_lem (map es) t e = cc
track_item_lem simple_false t e = cc
track_item_lem simple_true t e = cc
track_item_lem simple_null t e = cc

text_item : (v : Item) (bs : List ℕ) → text_of v ≡ Some bs → v ≡ trees.text bs
text_item (unsigned m) bs e = cc
text_item (negative m) bs e = cc
text_item (bytes cs) bs e = cc
text_item (trees.text cs) bs e = cc
text_item (array ts) bs e = cc
text_item (map es) bs e = cc
text_item simple_false bs e = cc
text_item simple_true bs e = cc
text_item simple_null bs e = cc

-- the item of an optional number
abbrev item_of : Option ℕ → Option Item
item_of None = None
item_of (Some n) = Some (unsigned n)

module _ (es : Entries) (key : ℕ) where
  value-is : {X : Type 0} (f : Item → Option X) (item : X → Item) → ((v : Item) (x : X) → f v ≡ Some x → v ≡ item x) → (x : X) → bind (value_of es key) f ≡ Some x → value_of es key ≡ Some (item x)
  value-is f item back x is =
      let b = bound (value_of es key) f x is in
      b.first ∙ ap Some (back b.got x b.rest)

  number-value : (n : ℕ) → number_in (arguments_of es) key ≡ Some n → value_of es key ≡ Some (unsigned n)
  unfolding number_in
  number-value n is = value-is unsigned_of unsigned unsigned_item n is

  track-value : (t : Track) → track_in (arguments_of es) key ≡ Some t → value_of es key ≡ Some (track_item t)
  unfolding track_in
  track-value t is = value-is track_of track_item track_item_lem t is

  text-value : (bs : List ℕ) → text_in (arguments_of es) key ≡ Some bs → value_of es key ≡ Some (trees.text bs)
  unfolding text_in
  text-value bs is = value-is text_of trees.text text_item bs is

  between-value : (low high n : ℕ) → between_in (arguments_of es) key low high ≡ Some n → (value_of es key ≡ Some (unsigned n)) × (low ≤ n) × (n ≤ high)
  unfolding between_in
  between-value low high n is =
      let b = bound (number_in (arguments_of es) key) _ n is in
      let c = cond_some (leb low b.got && leb b.got high) b.got n b.rest in
      let d = and_parts (leb low b.got) (leb b.got high) c.0 in
      let l : low ≤ b.got = leb-true low b.got d.0 in
      let h : b.got ≤ high = leb-true b.got high d.1 in
      let e : b.got ≡ n = c.1 in
      (number-value n (b.first ∙ ap Some c.1), omega arith, omega arith)

  signed-value : (limit : ℕ) (z : ℤ) → signed_in (arguments_of es) key limit ≡ Some z → (value_of es key ≡ Some (integer z)) × (nat_abs z ≤ limit)
  unfolding signed_in
  signed-value limit z is =
      let a = bound (value_of es key) _ z is in
      let b = bound (integer_of a.got) (λ y. cond (leb (nat_abs y) limit) (Some y) None) z a.rest in
      let c = cond_some (leb (nat_abs b.got) limit) b.got z b.rest in
      (a.first ∙ ap Some (integer_item a.got z (b.first ∙ ap Some c.1)), subst (λ y. nat_abs y ≤ limit) c.1 (leb-true (nat_abs b.got) limit c.0))

  optional-value : (x : Option ℕ) → optional_in (arguments_of es) key ≡ Some x → value_of es key ≡ item_of x
  unfolding optional_in
  optional-value x is = by (value_of es key) refl is
    where
      by : (o : Option Item) → value_of es key ≡ o → perhaps (arguments_of es) o ≡ Some x → value_of es key ≡ item_of x
      by None e got = e ∙ ap item_of (same_Some _ _ got)
      by (Some v) e got =
          let b = bound (unsigned_of v) (λ n. Some (Some n)) x got in
          e ∙ ap Some (unsigned_item v b.got b.first) ∙ ap item_of (same_Some _ _ b.rest)

optional_entry_lem : (key : ℕ) (x : Option ℕ) (es : Entries) → entry_if key (item_of x) es ≡ optional_entry key x es
optional_entry_lem key None es = refl
optional_entry_lem key (Some n) es = refl

cond-through : {X : Type 0} (b : Bool) (x : Option X) (y : X) → cond b x None ≡ Some y → (b ≡ true) × (x ≡ Some y)
cond-through true x y e = (refl, e)
cond-through false x y e = cc

pick : {P X : Type 0} (b : Bool) (x y z : Result X Refusal) → (b ≡ true → x ≡ z → P) → (b ≡ false → y ≡ z → P) → cond b x y ≡ z → P
pick true x y z f g e = f refl e
pick false x y z f g e = g refl e

module _ (kind : ℕ) (es : Entries) (good : Canonical (map es)) (o : Meant) where
  unlisted : (x : Option Meant) → listed (arguments_of es) x ≡ Ok o → x ≡ Some o
  unlisted None e = cc
  unlisted (Some y) e = cc

  heartbeat-sent : kind ≡ 0 → heartbeat_in (arguments_of es) ≡ Some o → Sends kind es o
  heartbeat-sent k is =
      let a = bound (optional_in (arguments_of es) 0) _ o is in
      let z = cond_some (keys_below 1 es) (heartbeat a.got) o a.rest in
      let all = relist es good 1 (omega arith) z.0 in
      let e₀ = optional-value es 0 a.got a.first in
      subst (Sends kind es) z.1 (record { valid = tt; type_is = k; entries_are = all ∙ ap (λ x. entry_if 0 x no_entries) e₀ ∙ optional_entry_lem 0 a.got no_entries })

  queue-sent : kind ≡ 1 → queue_in (arguments_of es) ≡ Some o → Sends kind es o
  queue-sent k is =
      let a = bound (track_in (arguments_of es) 0) _ o is in
      let b = bound (signed_in (arguments_of es) 1 10) _ o a.rest in
      let c = bound (optional_in (arguments_of es) 2) _ o b.rest in
      let d = bound (optional_in (arguments_of es) 3) _ o c.rest in
      let y = cond-through (in_order c.got d.got) _ o d.rest in
      let z = cond_some (keys_below 4 es) (queue a.got b.got c.got d.got) o y.1 in
      let all = relist es good 4 (omega arith) z.0 in
      let e₀ = track-value es 0 a.got a.first in
      let e₁ = signed-value es 1 10 b.got b.first in
      let e₂ = optional-value es 2 c.got c.first in
      let e₃ = optional-value es 3 d.got d.first in
      let values : entries_from (value_of es) 0 4 ≡ entry 0 (track_item a.got) (entry 1 (integer b.got) (entry_if 2 (item_of c.got) (entry_if 3 (item_of d.got) no_entries))) = (λ i. entry_if 0 (e₀ i) (entry_if 1 (e₁.0 i) (entry_if 2 (e₂ i) (entry_if 3 (e₃ i) no_entries)))) in
      let ends : entry_if 2 (item_of c.got) (entry_if 3 (item_of d.got) no_entries) ≡ optional_entry 2 c.got (optional_entry 3 d.got no_entries) = optional_entry_lem 2 c.got _ ∙ ap (optional_entry 2 c.got) (optional_entry_lem 3 d.got no_entries) in
      subst (Sends kind es) z.1 (record { valid = (e₁.1, y.0); type_is = k; entries_are = all ∙ values ∙ ap (λ r. entry 0 (track_item a.got) (entry 1 (integer b.got) r)) ends })

  suggest-sent : kind ≡ 2 → suggest_in (arguments_of es) ≡ Some o → Sends kind es o
  suggest-sent k is =
      let a = bound (track_in (arguments_of es) 0) _ o is in
      let b = bound (signed_in (arguments_of es) 1 5) _ o a.rest in
      let z = cond_some (keys_below 2 es) (suggest a.got b.got) o b.rest in
      let all = relist es good 2 (omega arith) z.0 in
      let e₀ = track-value es 0 a.got a.first in
      let e₁ = signed-value es 1 5 b.got b.first in
      subst (Sends kind es) z.1 (record { valid = e₁.1; type_is = k; entries_are = all ∙ (λ i. entry_if 0 (e₀ i) (entry_if 1 (e₁.0 i) no_entries)) })

  remove-sent : kind ≡ 3 → remove_in (arguments_of es) ≡ Some o → Sends kind es o
  remove-sent k is =
      let a = bound (number_in (arguments_of es) 0) _ o is in
      let z = cond_some (keys_below 1 es) (remove a.got) o a.rest in
      let e₀ = number-value es 0 a.got a.first in
      subst (Sends kind es) z.1 (record { valid = tt; type_is = k; entries_are = relist es good 1 (omega arith) z.0 ∙ ap (λ x. entry_if 0 x no_entries) e₀ })

  state-sent : kind ≡ 10 → state_in (arguments_of es) ≡ Some o → Sends kind es o
  state-sent k is =
      let a = bound (between_in (arguments_of es) 0 0 2) _ o is in
      let z = cond_some (keys_below 1 es) (state a.got) o a.rest in
      let e₀ = between-value es 0 0 2 a.got a.first in
      subst (Sends kind es) z.1 (record { valid = e₀.2; type_is = k; entries_are = relist es good 1 (omega arith) z.0 ∙ ap (λ x. entry_if 0 x no_entries) e₀.0 })

  seek-sent : kind ≡ 11 → seek_in (arguments_of es) ≡ Some o → Sends kind es o
  seek-sent k is =
      let a = bound (signed_in (arguments_of es) 0 60000) _ o is in
      let z = cond_some (keys_below 1 es) (seek a.got) o a.rest in
      let e₀ = signed-value es 0 60000 a.got a.first in
      subst (Sends kind es) z.1 (record { valid = e₀.1; type_is = k; entries_are = relist es good 1 (omega arith) z.0 ∙ ap (λ x. entry_if 0 x no_entries) e₀.0 })

  rate-sent : kind ≡ 12 → rate_in (arguments_of es) ≡ Some o → Sends kind es o
  rate-sent k is =
      let a = bound (between_in (arguments_of es) 0 50 200) _ o is in
      let z = cond_some (keys_below 1 es) (rate a.got) o a.rest in
      let e₀ = between-value es 0 50 200 a.got a.first in
      subst (Sends kind es) z.1 (record { valid = (e₀.1, e₀.2); type_is = k; entries_are = relist es good 1 (omega arith) z.0 ∙ ap (λ x. entry_if 0 x no_entries) e₀.0 })

  bare-sent : (y : Meant) → Valid y → kind ≡ kind_of y → entries_of es y ≡ no_entries → closing (arguments_of es) 0 0 y ≡ Some o → Sends kind es o
  bare-sent y v k none is =
      let z = cond_some (keys_below 0 es) y o is in
      subst (Sends kind es) z.1 (record { valid = v; type_is = k; entries_are = relist es good 0 (omega arith) z.0 ∙ sym none })

  text-sent : kind ≡ 20 → text_order_in (arguments_of es) ≡ Some o → Sends kind es o
  text-sent k is =
      let a = bound (between_in (arguments_of es) 0 0 2) _ o is in
      let b = bound (between_in (arguments_of es) 1 0 2) _ o a.rest in
      let c = bound (text_in (arguments_of es) 2) _ o b.rest in
      let z = cond_some (keys_below 3 es) (text a.got b.got c.got) o c.rest in
      let e₀ = between-value es 0 0 2 a.got a.first in
      let e₁ = between-value es 1 0 2 b.got b.first in
      let e₂ = text-value es 2 c.got c.first in
      subst (Sends kind es) z.1 (record { valid = (e₀.2, e₁.2); type_is = k; entries_are = relist es good 3 (omega arith) z.0 ∙ (λ i. entry_if 0 (e₀.0 i) (entry_if 1 (e₁.0 i) (entry_if 2 (e₂ i) no_entries))) })

  reserved-sent : (eqb kind 30 || eqb kind 31) ≡ true → reserved kind ≡ o → Sends kind es o
  reserved-sent b same =
      let v : Valid (reserved kind) = ⊎_elim (λ e. inl (eqb-true kind 30 e)) (λ e. inr (eqb-true kind 31 e)) (or_cases (eqb kind 30) (eqb kind 31) b) in
      subst (Sends kind es) same (record { valid = v; type_is = refl; entries_are = refl })

  -- an order that is read is one that is sent
  order-sent : order_of kind es ≡ Ok o → Sends kind es o
  unfolding order_in
  order-sent =
      pick (eqb kind 0) _ _ (Ok o) (λ b e. heartbeat-sent (eqb-true kind 0 b) (unlisted _ e))
      (λ _. pick (eqb kind 1) _ _ (Ok o) (λ b e. queue-sent (eqb-true kind 1 b) (unlisted _ e))
      (λ _. pick (eqb kind 2) _ _ (Ok o) (λ b e. suggest-sent (eqb-true kind 2 b) (unlisted _ e))
      (λ _. pick (eqb kind 3) _ _ (Ok o) (λ b e. remove-sent (eqb-true kind 3 b) (unlisted _ e))
      (λ _. pick (eqb kind 10) _ _ (Ok o) (λ b e. state-sent (eqb-true kind 10 b) (unlisted _ e))
      (λ _. pick (eqb kind 11) _ _ (Ok o) (λ b e. seek-sent (eqb-true kind 11 b) (unlisted _ e))
      (λ _. pick (eqb kind 12) _ _ (Ok o) (λ b e. rate-sent (eqb-true kind 12 b) (unlisted _ e))
      (λ _. pick (eqb kind 13) _ _ (Ok o) (λ b e. bare-sent next tt (eqb-true kind 13 b) refl (unlisted _ e))
      (λ _. pick (eqb kind 14) _ _ (Ok o) (λ b e. bare-sent previous tt (eqb-true kind 14 b) refl (unlisted _ e))
      (λ _. pick (eqb kind 20) _ _ (Ok o) (λ b e. text-sent (eqb-true kind 20 b) (unlisted _ e))
      (λ _. pick (eqb kind 30 || eqb kind 31) _ _ (Ok o) (λ b e. reserved-sent b (cc)) (λ _ e. cc)))))))))))

-- what is written is read back
track-back : (t : Track) → track_of (track_item t) ≡ Some t
track-back (number n) = refl
track-back (octets bs) = refl

integer-back : (z : ℤ) → integer_of (integer z) ≡ Some z
integer-back (pos n) = refl
integer-back (negsuc n) = refl

in_range : (low high n : ℕ) → low ≤ n → n ≤ high → (leb low n && leb n high) ≡ true
in_range low high n l h = and_from (leb low n) (leb n high) (le-leb low n l) (le-leb n high h)

written : (any : Entries) (o : Meant) → Valid o → order_of (kind_of o) (entries_of any o) ≡ Ok o
unfolding order_in optional_in track_in signed_in between_in number_in text_in
written any (heartbeat None) v = refl
written any (heartbeat (Some n)) v = refl
written any (queue t z None None) (near, ordered) = rw (track-back t, integer-back z, le-leb (nat_abs z) 10 near)
written any (queue t z None (Some l)) (near, ordered) = rw (track-back t, integer-back z, le-leb (nat_abs z) 10 near)
written any (queue t z (Some e) None) (near, ordered) = rw (track-back t, integer-back z, le-leb (nat_abs z) 10 near)
written any (queue t z (Some e) (Some l)) (near, ordered) = rw (track-back t, integer-back z, le-leb (nat_abs z) 10 near, ordered)
written any (suggest t z) near = rw (track-back t, integer-back z, le-leb (nat_abs z) 5 near)
written any (remove n) v = refl
written any (state n) v = rw (in_range 0 2 n (omega arith) v)
written any (seek z) near = rw (integer-back z, le-leb (nat_abs z) 60000 near)
written any (rate n) (low, high) = rw (in_range 50 200 n low high)
written any next v = refl
written any previous v = refl
written any (text target mode bs) (t, m) = rw (in_range 0 2 target (omega arith) t, in_range 0 2 mode (omega arith) m)
written any (reserved kind) (inl e) = subst (λ k. order_of k any ≡ Ok (reserved k)) (sym e) refl
written any (reserved kind) (inr e) = subst (λ k. order_of k any ≡ Ok (reserved k)) (sym e) refl

sent-order : (kind : ℕ) (es : Entries) (o : Meant) → Sends kind es o → order_of kind es ≡ Ok o
sent-order kind es o s = (λ i. order_of (s.type_is i) (s.entries_are i)) ∙ written es o s.valid

module _ (os : List ℕ) (kind p : ℕ) (r : Result Request Refusal) (is : r ≡ request_at os kind p) where
  pub reads_orders : ReadsOrders os kind p r
  reads_orders es good a = record {
    sound = λ request got. by request got (order_of kind es) refl (answers_order os kind p r is es good a);
    back = λ o s. subst (λ x. Answers os x r) (sent-order kind es o s) (answers_order os kind p r is es good a);
  }
    where
      by : (request : Request) → r ≡ Ok request → (x : Result Meant Refusal) → order_of kind es ≡ x → Answers os x r → (o : Meant) × Sends kind es o × Shows os request o
      by request got (Ok o) e (found, answer, shows) = (o, order-sent kind es good o e, let same : found ≡ request = cc in subst (λ q. Shows os q o) same shows)
      by request got (Err x) e answer = cc
