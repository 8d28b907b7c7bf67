use Rattle.std.proofs.Common.{◌≡◌, ◌+◌, ◌-◌, ◌∷◌, length, Bool, Some, None, Ok, Err, Option, refl, sym, ap, ◌∙◌, arith}
use native.Mathlib.Nat.{sub-zero}
use Rattle.std.proofs.lemmas.Result.{err_from_is_err_and}
use Rattle.std.specs.Option.{ok_or}
use Rattle.items.specs.declared.types.Fault.{Fault}
use Rattle.items.specs.declared.types.Fault.TheVariants.{Malformed}
use Rattle.items.specs.Keys.{span, judged}
use Rattle.items.specs.Held.{held}
use Rattle.items.specs.Heads.{fault_at}
use Rattle.items.specs.Reading.{item_of, entries_of, map_entries}
use Rattle.items.specs.Walks.{walk}
use Rattle.items.proofs.Steps.{item_forward, items_beyond, items_done, items_fails, items_on, entries_beyond, entries_done, entries_fails, entries_twice, entries_value_fails, entries_on, told_fault}
use Rattle.items.proofs.item.Walker.+array_items_item_map_entries.Goals as goal

twice : {e : Fault} (o : Option Bool) → Err e ≡ ok_or o Malformed → (None ≡ o) × (e ≡ Malformed)
twice None is = (refl, cc)
twice (Some b) is = absurd cc

alone : {b : Bool} (o : Option Bool) → Ok b ≡ ok_or o Malformed → Some b ≡ o
alone None is = absurd cc
alone (Some b) is = cc

-- the items of an array
pub array_items-returns-then-i-eq-ARRAY_ITEMS : goal.array_items-returns-then-i-eq-ARRAY_ITEMS
array_items-returns-then-i-eq-ARRAY_ITEMS t c =
    let same = c.loop-i.invariant.0 in
    record {
      octets = same;
      is = sym c.loop-i.invariant.2 ∙ items_beyond _ _ _ _ _ _ c.loop-i-test.true c.if-i-eq-ARRAY_ITEMS.true ∙ ap (λ o. Err (fault_at o c.loop-i.self.reader.place)) (sym same) ∙ ap Err (sym c.fault.ensures);
    }

pub array_items-returns-in_err-item : goal.array_items-returns-in_err-item
array_items-returns-in_err-item t c =
    let same = c.loop-i.invariant.0 in
    let is = c.in_err-item.ensures.is in
    let p = err_from_is_err_and c.from_residual.result c.from_residual.ensures.1 in
    record {
      octets = c.in_err-item.ensures.octets ∙ same;
      is = told_fault _ _ _ _ _ p.1 p.2 (sym c.loop-i.invariant.2 ∙ items_fails _ _ _ _ _ _ c.loop-i-test.true (omega arith) _ (rw same at is));
    }

pub array_items-loop-i-preserved : goal.array_items-loop-i-preserved
array_items-loop-i-preserved t c =
    let same = c.loop-i.invariant.0 in
    let is = c.in_ok-item.ensures.is in (
      c.in_ok-item.ensures.octets ∙ same,
      omega arith,
      sym (items_on _ _ _ _ _ _ c.loop-i-test.true (omega arith) _ (rw same at is)) ∙ c.loop-i.invariant.2,
    )

pub array_items-returns : goal.array_items-returns
array_items-returns t c = record { octets = c.loop-i.invariant.0; is = sym c.loop-i.invariant.2 ∙ items_done _ _ _ _ _ _ c.loop-i-test.false }

-- the entries of a map
pub map_entries-loop-i-init : goal.map_entries-loop-i-init
map_entries-loop-i-init t c = (refl, c.new-keys.ensures.octets ∙ c.octets.ensures, omega arith, c.new-keys.ensures.zero, rw sub-zero (ap (λ ks. entries_of (item_of c.args.depth c.args.self.now.reader.octets.now) c.args.self.now.reader.octets.now c.args.count map_entries ks (walk c.args.self.now)) c.new-keys.ensures.none))

pub map_entries-returns-then-i : goal.map_entries-returns-then-i
map_entries-returns-then-i t c =
    let os = c.args.self.now.reader.octets.now in
    let same = c.loop-i.invariant.0 in
    record {
      octets = same;
      is = sym c.loop-i.invariant.4 ∙ entries_beyond (item_of c.args.depth os) os c.args.count map_entries c.loop-i.i (held c.loop-i.keys) (walk c.loop-i.self) c.loop-i-test.true c.if-i.true ∙ ap (λ o. Err (fault_at o c.loop-i.self.reader.place)) (sym same) ∙ ap Err (sym c.fault.ensures);
    }

pub map_entries-returns-in_err-item : goal.map_entries-returns-in_err-item
map_entries-returns-in_err-item t c =
    let os = c.args.self.now.reader.octets.now in
    let same = c.loop-i.invariant.0 in
    let is = c.in_err-item.ensures.is in
    let p = err_from_is_err_and c.from_residual.result c.from_residual.ensures.1 in
    record {
      octets = c.in_err-item.ensures.octets ∙ same;
      is = told_fault _ _ _ _ _ p.1 p.2 (sym c.loop-i.invariant.4 ∙ entries_fails (item_of c.args.depth os) os c.args.count map_entries c.loop-i.i (held c.loop-i.keys) (walk c.loop-i.self) c.loop-i-test.true (omega arith) _ (rw same at is));
    }

pub map_entries-add-requires : goal.map_entries-add-requires
map_entries-add-requires t c =
    let forward = item_forward _ _ _ _ c.in_ok-item.ensures.is in
    record {
      room = omega (arith, c.loop-i.invariant.3);
      within = (omega (arith, forward, c.place-start.ensures.is, c.place.ensures.is), omega (arith, c.place.ensures.within, ap length (c.in_ok-item.ensures.octets ∙ c.loop-i.invariant.0 ∙ sym c.loop-i.invariant.1)));
    }

pub map_entries-returns-in_err-self : goal.map_entries-returns-in_err-self
map_entries-returns-in_err-self t c =
    let os = c.args.self.now.reader.octets.now in
    let same = c.loop-i.invariant.0 in
    let is = c.in_ok-item.ensures.is in
    let on = c.loop-i.invariant.1 in
    let p = c.place-start.ensures.is in
    let q = c.place.ensures.is in
    let ks = held c.loop-i.keys in
    let j = twice _ (c.in_err-self.ensures.is ∙ (λ k. ok_or (judged ks (span (on k) (p k) (q k))) Malformed)) in
    let r = err_from_is_err_and c.from_residual-in_err-self.result c.from_residual-in_err-self.ensures.1 in
    record {
      octets = c.in_ok-item.ensures.octets ∙ same;
      is = told_fault _ _ _ _ _ r.1 (r.2 ∙ j.1) (sym c.loop-i.invariant.4 ∙ entries_twice (item_of c.args.depth os) os c.args.count map_entries c.loop-i.i ks (walk c.loop-i.self) c.loop-i-test.true (omega arith) (walk c.item.new.self) (rw same at is) j.0);
    }

pub map_entries-returns-in_err-item-2 : goal.map_entries-returns-in_err-item-2
map_entries-returns-in_err-item-2 t c =
    let os = c.args.self.now.reader.octets.now in
    let same = c.loop-i.invariant.0 in
    let same₂ = c.in_ok-item.ensures.octets ∙ same in
    let is = c.in_ok-item.ensures.is in
    let is₂ = c.in_err-item-2.ensures.is in
    let on = c.loop-i.invariant.1 in
    let p = c.place-start.ensures.is in
    let q = c.place.ensures.is in
    let ks = held c.loop-i.keys in
    let j = alone _ (c.in_ok-self.ensures.is ∙ (λ k. ok_or (judged ks (span (on k) (p k) (q k))) Malformed)) in
    let r = err_from_is_err_and c.from_residual-in_err-item-2.result c.from_residual-in_err-item-2.ensures.1 in
    record {
      octets = c.in_err-item-2.ensures.octets ∙ same₂;
      is = told_fault _ _ _ _ _ r.1 r.2 (sym c.loop-i.invariant.4 ∙ entries_value_fails (item_of c.args.depth os) os c.args.count map_entries c.loop-i.i ks (walk c.loop-i.self) c.loop-i-test.true (omega arith) (walk c.item.new.self) (rw same at is) c.in_ok-self.field-0 j _ (rw same₂ at is₂));
    }

pub map_entries-loop-i-preserved : goal.map_entries-loop-i-preserved
map_entries-loop-i-preserved t c =
    let os = c.args.self.now.reader.octets.now in
    let same = c.loop-i.invariant.0 in
    let same₂ = c.in_ok-item.ensures.octets ∙ same in
    let is = c.in_ok-item.ensures.is in
    let is₂ = c.in_ok-item-2.ensures.is in
    let on = c.loop-i.invariant.1 in
    let p = c.place-start.ensures.is in
    let q = c.place.ensures.is in
    let ks = held c.loop-i.keys in
    let j = alone _ (c.in_ok-self.ensures.is ∙ (λ k. ok_or (judged ks (span (on k) (p k) (q k))) Malformed)) in
    let new = c.in_ok-self.ensures.added in
    let goes = entries_on (item_of c.args.depth os) os c.args.count map_entries c.loop-i.i ks (walk c.loop-i.self) c.loop-i-test.true (omega arith) (walk c.item.new.self) (rw same at is) c.in_ok-self.field-0 j (walk c.item-in-loop-i.new.self) (rw same₂ at is₂) in (
      c.in_ok-item-2.ensures.octets ∙ same₂,
      new.0 ∙ on,
      omega arith,
      omega (arith, new.2, c.loop-i.invariant.3),
      ap (λ ls. entries_of (item_of c.args.depth os) os (c.args.count - (c.loop-i.i + 1)) (map_entries - (c.loop-i.i + 1)) ls (walk c.item-in-loop-i.new.self)) (new.1 ∙ (λ k. span (on k) (p k) (q k) ∷ ks)) ∙ sym goes ∙ c.loop-i.invariant.4,
    )

pub map_entries-returns : goal.map_entries-returns
map_entries-returns t c = record { octets = c.loop-i.invariant.0; is = sym c.loop-i.invariant.4 ∙ entries_done (item_of c.args.depth c.args.self.now.reader.octets.now) c.args.self.now.reader.octets.now c.args.count map_entries c.loop-i.i (held c.loop-i.keys) (walk c.loop-i.self) c.loop-i-test.false }
