-- How a lookup goes on from entry to entry.
use Rattle.std.proofs.Common.{◌≡◌, ControlFlow, Break, Continue, ℕ, suc, ◌+◌, ◌-◌, ◌<◌, ◌≤◌, false, cond, List, Some, None, Ok, Err, Result, sym, ap, ◌∙◌, arith}
use Rattle.std.proofs.lemmas.Bool.Decides.{nat_tests}
use Rattle.items.specs.declared.types.Fault.{Fault}
use Rattle.items.specs.Heads.{Head, head_at, head_size, fault_at, after}
use Rattle.items.specs.Reading.{map_entries}
use Rattle.items.specs.Lookup.{passed, is_key, entry_at, onward, seek, lookup_of}

module _ (os : List ℕ) (p wanted : ℕ) where
  module _ (h : Head) (is : Ok h ≡ head_at os p) where
    pub find_in : h.major ≡ 5 → (q : ℕ) → q ≡ p + head_size os p → seek os wanted h.argument map_entries q ≡ lookup_of os p wanted
    unfolding lookup_of
    find_in map q on = rw (sym is, on) (grind (arith, nat_tests))

module _ (os : List ℕ) (wanted p : ℕ) where
  module _ (k : Head) (is : Ok k ≡ head_at os p) where
    pub entry_hit : (q : ℕ) → q ≡ p + head_size os p → k.major ≡ 0 → k.argument ≡ wanted → Ok (Break q) ≡ entry_at os wanted p
    unfolding entry_at
    entry_hit q on unsigned same = rw (sym is, on) (grind (arith, nat_tests))

    module _ (other : is_key k wanted ≡ false) where
      entry_walks : entry_at os wanted p ≡ after (passed os p) (λ q. after (passed os q) (λ r. Ok (Continue r)))
      unfolding entry_at
      entry_walks = ap (λ r. after r (λ x. cond (is_key x wanted) (Ok (Break (p + head_size os p))) (after (passed os p) (λ q. after (passed os q) (λ s. Ok (Continue s)))))) (sym is) ∙ rw other

      module _ (q : ℕ) (on : passed os p ≡ Ok q) where
        pub entry_next : (r : ℕ) → passed os q ≡ Ok r → Ok (Continue r) ≡ entry_at os wanted p
        entry_next r good = sym (entry_walks ∙ rw (on, good))

seek_miss : (os : List ℕ) (wanted n i p : ℕ) → n ≤ i → seek os wanted (n - i) (map_entries - i) p ≡ Ok None
unfolding seek
seek_miss os wanted n i p done = let e : n - i ≡ 0 = omega arith in rw e

seek_beyond : (os : List ℕ) (wanted n i p : ℕ) → i < n → i ≡ map_entries → seek os wanted (n - i) (map_entries - i) p ≡ Err (fault_at os p)
unfolding seek
seek_beyond os wanted n i p some over = let a : n - i ≡ suc (n - (i + 1)) = omega arith in let z : map_entries - i ≡ 0 = omega arith in rw (a, z)

-- a turn of the walk over the entries, from what is known as it starts
module _ (os : List ℕ) (wanted n i p old start : ℕ) (inv : seek os wanted (n - i) (map_entries - i) p ≡ lookup_of os old wanted) (from : old ≡ start) where
  start_is : lookup_of os old wanted ≡ lookup_of os start wanted
  start_is = ap (λ o. lookup_of os o wanted) from

  pub ends_miss : n ≤ i → Ok None ≡ lookup_of os start wanted
  ends_miss done = sym (seek_miss os wanted n i p done) ∙ inv ∙ start_is

  module _ (more : i < n) (os' : List ℕ) (p' : ℕ) (so : os' ≡ os) (sp : p' ≡ p) where
    pub ends_beyond : i ≡ map_entries → (e : Fault) → e ≡ fault_at os' p' → Err e ≡ lookup_of os start wanted
    ends_beyond over e is = ap Err (is ∙ (λ j. fault_at (so j) (sp j))) ∙ sym (seek_beyond os wanted n i p more over) ∙ inv ∙ start_is

    module _ (fits : i < map_entries) where
      one : seek os wanted (n - i) (map_entries - i) p ≡ after (entry_at os wanted p) (onward (seek os wanted (n - (i + 1)) (map_entries - (i + 1))))
      unfolding seek
      one = let a : n - i ≡ suc (n - (i + 1)) = omega arith in let z : map_entries - i ≡ suc (map_entries - (i + 1)) = omega arith in rw (a, z)

      turn : (r : Result (ControlFlow ℕ ℕ) Fault) → r ≡ entry_at os' wanted p' → after r (onward (seek os wanted (n - (i + 1)) (map_entries - (i + 1)))) ≡ lookup_of os old wanted
      turn r is = ap (λ x. after x (onward (seek os wanted (n - (i + 1)) (map_entries - (i + 1))))) (is ∙ (λ j. entry_at (so j) wanted (sp j))) ∙ sym one ∙ inv

      pub ends_fault : (e : Fault) → Err e ≡ entry_at os' wanted p' → Err e ≡ lookup_of os start wanted
      ends_fault e is = turn (Err e) is ∙ start_is

      pub ends_hit : (q : ℕ) → Ok (Break q) ≡ entry_at os' wanted p' → Ok (Some q) ≡ lookup_of os start wanted
      ends_hit q is = turn (Ok (Break q)) is ∙ start_is

      pub goes_on : (q : ℕ) → Ok (Continue q) ≡ entry_at os' wanted p' → seek os wanted (n - (i + 1)) (map_entries - (i + 1)) q ≡ lookup_of os old wanted
      goes_on q is = turn (Ok (Continue q)) is
