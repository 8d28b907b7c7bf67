-- What a head gives, and a string.
use Rattle.std.proofs.Common.{◌≡◌, ℕ, ◌+◌, ◌-◌, ◌^◌, ◌<◌, ◌≤◌, true, List, length, pos, negsuc, Some, None, Ok, Err, Result, sym, ap, ◌∙◌, ⊎_elim, arith}
use Rattle.std.proofs.str.Laws.{order}
use Rattle.std.proofs.lemmas.Bool.Decides.{nat_tests}
use Rattle.text.specs.Table.{is_text}
use Rattle.items.specs.declared.types.Fault.{Fault}
use Rattle.items.specs.declared.types.Fault.TheVariants.{Malformed}
use Rattle.items.specs.declared.types.Span.{Span}
use Rattle.items.specs.Heads.{Head, head_at, head_size, part}
use Rattle.items.specs.Reading.{Walk, item_of, containers, start_at}
use Rattle.items.specs.Fields.{bind, picked, argument_at, integer_at, key_at, string_at, text_at, closed, map_at}

module _ (m : ℕ) (os : List ℕ) (p : ℕ) where
  pub pick_out : length os < p → argument_at m os p ≡ None
  unfolding argument_at head_at
  pick_out out = let e : head_at os p ≡ Err Malformed = grind (arith, nat_tests) in ap (picked m (p + head_size os p)) e

  pub pick_in : (x : ℕ × ℕ) → Some x ≡ argument_at m os p → p ≤ length os
  pick_in x is = ⊎_elim
      (λ (out : length os < p). let e = pick_out out in let z : ◌≡◌ {A = ℕ} 0 1 = cc in absurd (omega arith))
      (λ (fits : p ≤ length os). fits)
      (order (length os) p)

  module _ (h : Head) (is : Ok h ≡ head_at os p) where
    pub pick_other : (h.major ≡ m → h.shortest ≡ true → ⊥) → argument_at m os p ≡ None
    unfolding argument_at
    pick_other not = ap (picked m (p + head_size os p)) (sym is) ∙ grind (arith, nat_tests)

    pub pick_some : h.major ≡ m → h.shortest ≡ true → (q : ℕ) → q ≡ p + head_size os p → argument_at m os p ≡ Some (h.argument, q)
    unfolding argument_at
    pick_some major shortest q on = ap (picked m (p + head_size os p)) (sym is) ∙ rw (sym on) (grind (arith, nat_tests))

pub key-other : (k : ℕ) (os : List ℕ) (p n q : ℕ) → Some (n, q) ≡ argument_at 0 os p → (n ≡ k → ⊥) → key_at k os p ≡ None
unfolding key_at
key-other k os p n q is not = rw (sym is) (grind (arith, nat_tests))

module _ (m : ℕ) (os : List ℕ) (p n q : ℕ) (is : Some (n, q) ≡ argument_at m os p) where
  pub string-some : q + n ≤ length os → string_at m os p ≡ Some (record { start = q; len = n }, q + n)
  unfolding string_at
  string-some fits = rw (sym is) (grind (arith, nat_tests))

module _ (os : List ℕ) (p : ℕ) (s : Span) (q : ℕ) (is : Some (s, q) ≡ string_at 3 os p) where
  pub text-good : is_text (part os s.start s.len) ≡ true → text_at os p ≡ Some (s, q)
  unfolding text_at
  text-good t = rw (sym is, t)

pub map_on : (os : List ℕ) (p : ℕ) (x : ℕ × ℕ) → Some x ≡ argument_at 5 os p → (r : Result Walk Fault) → item_of containers os (start_at p) ≡ r → map_at os p ≡ closed p r
unfolding map_at
map_on os p x is r e = ap (λ s. bind s (λ _. closed p (item_of containers os (start_at p)))) (sym is) ∙ ap (closed p) e

pub closed_some : (p : ℕ) (w : Walk) (q : ℕ) → w.deterministic ≡ true → q ≡ w.place → closed p (Ok w) ≡ Some (record { start = p; len = q - p }, q)
closed_some p w q good e = rw (good, e)

-- an integer of either sign
module _ (os : List ℕ) (p n q : ℕ) where
  module _ (is : Some (n, q) ≡ argument_at 0 os p) where
    pub unsigned-fits : n < 2 ^ 63 → integer_at os p ≡ Some (pos n, q)
    unfolding integer_at
    unsigned-fits fits = rw (sym is) (grind (arith, nat_tests))

  module _ (none : None ≡ argument_at 0 os p) (is : Some (n, q) ≡ argument_at 1 os p) where
    pub negative_fits : n < 2 ^ 63 → integer_at os p ≡ Some (negsuc n, q)
    unfolding integer_at
    negative_fits fits = rw (sym none, sym is) (grind (arith, nat_tests))
