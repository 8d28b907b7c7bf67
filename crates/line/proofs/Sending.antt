-- One stretch of bits after another.
use Rattle.std.proofs.Common.{◌≡◌, ℕ, zero, suc, ◌+◌, ◌-◌, ◌*◌, ◌/◌, ◌^◌, ◌<◌, ◌≤◌, Bool, true, false, eqb, List, [], ◌∷◌, ◌++◌, length, get_or, take, drop, replicate, sym, refl, ap, ◌∙◌, subst, append_assoc, append-nil, add-one, one-add, arith}
use lib.Bits.{bit_and, and_mask}
use Rattle.std.proofs.lemmas.List.{length-append, take_more, replicate_more}
use Rattle.std.proofs.lemmas.Nat.{shr-shr}
use Rattle.std.proofs.lemmas.Bool.{true≢false, false≢true}
use Rattle.line.specs.declared.writer.ToneWriter.{ToneWriter}
use Rattle.line.specs.Bits.{odd, low, bits_of}
use Rattle.line.specs.Flags.{flag}
use Rattle.line.specs.Stuffing.{stuff}
use Rattle.line.specs.Burst.{flags, octet_count, filling}
use Rattle.line.specs.Sending.{after, sent, count}
use Rattle.line.specs.Sinks.{behind_more, octets_le}
use Rattle.line.proofs.Lengths.{length_bits_of, held-zero}
use Rattle.line.proofs.Pack.{bits_of_append}

pub stuff-append : (n : ℕ) (xs ys : List Bool) → stuff n (xs ++ ys) ≡ stuff n xs ++ stuff (after n xs) ys
unfolding stuff after
stuff-append zero [] ys = refl
stuff-append (suc n) [] ys = refl
stuff-append zero (false ∷ xs) ys = ap (λ z. false ∷ z) (stuff-append 4 xs ys)
stuff-append (suc n) (false ∷ xs) ys = ap (λ z. false ∷ z) (stuff-append 4 xs ys)
stuff-append zero (true ∷ xs) ys = ap (λ z. true ∷ false ∷ z) (stuff-append 4 xs ys)
stuff-append (suc n) (true ∷ xs) ys = ap (λ z. true ∷ z) (stuff-append n xs ys)

pub after-append : (n : ℕ) (xs ys : List Bool) → after n (xs ++ ys) ≡ after (after n xs) ys
unfolding after
after-append zero [] ys = refl
after-append (suc n) [] ys = refl
after-append zero (false ∷ xs) ys = after-append 4 xs ys
after-append (suc n) (false ∷ xs) ys = after-append 4 xs ys
after-append zero (true ∷ xs) ys = after-append 4 xs ys
after-append (suc n) (true ∷ xs) ys = after-append n xs ys

-- one bit, stuffed
pub one-off : (n : ℕ) (b : Bool) → b ≡ false → (stuff n (b ∷ []) ≡ b ∷ []) × (after n (b ∷ []) ≡ 4)
unfolding stuff after
one-off zero true e = absurd (true≢false e)
one-off zero false e = (refl, refl)
one-off (suc n) true e = absurd (true≢false e)
one-off (suc n) false e = (refl, refl)

pub one_fifth : (n : ℕ) (b : Bool) → b ≡ true → n ≡ 0 → (stuff n (b ∷ []) ≡ b ∷ false ∷ []) × (after n (b ∷ []) ≡ 4)
unfolding stuff after
one_fifth zero true e z = (refl, refl)
one_fifth zero false e z = absurd (false≢true e)
one_fifth (suc n) true e z = absurd (omega arith)
one_fifth (suc n) false e z = absurd (false≢true e)

pub one_on : (n : ℕ) (b : Bool) → b ≡ true → (n ≡ 0 → ⊥) → (stuff n (b ∷ []) ≡ b ∷ []) × (after n (b ∷ []) ≡ n - 1)
unfolding stuff after
one_on zero true e z = absurd (z refl)
one_on zero false e z = absurd (false≢true e)
one_on (suc n) true e z = (refl, omega arith)
one_on (suc n) false e z = absurd (false≢true e)

pub length-stuff : (n : ℕ) (xs : List Bool) → length (stuff n xs) ≤ 2 * length xs
unfolding stuff
length-stuff zero [] = omega arith
length-stuff (suc n) [] = omega arith
length-stuff zero (false ∷ xs) = let h = length-stuff 4 xs in omega arith
length-stuff (suc n) (false ∷ xs) = let h = length-stuff 4 xs in omega arith
length-stuff zero (true ∷ xs) = let h = length-stuff 4 xs in omega arith
length-stuff (suc n) (true ∷ xs) = let h = length-stuff n xs in omega arith

pub bits_most : (n : ℕ) (os : List ℕ) → length (stuff n (bits_of os)) ≤ 16 * length os
bits_most n os = let a = length-stuff n (bits_of os) in let b = length_bits_of os in omega arith

pub low-more : (n x : ℕ) → low (n + 1) x ≡ low n x ++ odd (x / 2 ^ n) ∷ []
unfolding low
low-more zero x = let e : x / 2 ^ 0 ≡ x = omega arith in rw e
low-more (suc n) x =
    let a : suc n + 1 ≡ suc (n + 1) = omega arith in
    let b : x / 2 / 2 ^ n ≡ x / 2 ^ suc n = rw (← one-add n) (shr-shr x 1 n) in
    rw a (ap (λ z. odd x ∷ z) (low-more n (x / 2) ∙ ap (λ z. low n (x / 2) ++ odd z ∷ []) b))

pub low-more_bit : (n x : ℕ) → low (n + 1) x ≡ low n x ++ eqb (bit_and (x / 2 ^ n) 1) 1 ∷ []
low-more_bit n x = low-more n x ∙ ap (λ t. low n x ++ eqb t 1 ∷ []) (sym (and_mask (x / 2 ^ n) 1))

pub bits_of_more : (os : List ℕ) (i : ℕ) → i < length os → bits_of (take (i + 1) os) ≡ bits_of (take i os) ++ low 8 (get_or os i 0)
unfolding bits_of
bits_of_more os i h =
    ap bits_of (take_more os i 0 h) ∙ bits_of_append (take i os) (get_or os i 0 ∷ []) ∙ ap (λ z. bits_of (take i os) ++ z) (append-nil (low 8 (get_or os i 0)))

pub stuff-none : (n : ℕ) → stuff n [] ≡ []
unfolding stuff
stuff-none zero = refl
stuff-none (suc n) = refl

pub after_none : (n : ℕ) → after n [] ≡ n
unfolding after
after_none zero = refl
after_none (suc n) = refl

-- what a sink takes stuffed, stretch by stretch
module _ {S : Type 0} (T : S → List Bool → S → Type 0) where
  pub record Stuffs (p : S) (l : ℕ) (xs : List Bool) (q : S) (m : ℕ) : Type 0 where
    pub takes : T p (stuff l xs) q
    pub left : m ≡ after l xs

  pub stuffs-none : ((p : S) → T p [] p) → (p : S) (l : ℕ) → Stuffs p l [] p l
  stuffs-none none p l = record { takes = subst (λ z. T p z p) (sym (stuff-none l)) (none p); left = sym (after_none l) }

  pub stuffs-more : ((p q r : S) (xs ys : List Bool) → T p xs q → T q ys r → T p (xs ++ ys) r)
      → (p q r : S) (l m n : ℕ) (xs ys zs : List Bool) → zs ≡ xs ++ ys → Stuffs p l xs q m → T q (stuff m ys) r → n ≡ after m ys → Stuffs p l zs r n
  stuffs-more more p q r l m n xs ys zs e a b k =
      let f : stuff l zs ≡ stuff l xs ++ stuff m ys = ap (stuff l) e ∙ stuff-append l xs ys ∙ ap (λ j. stuff l xs ++ stuff j ys) (sym a.left) in
      record {
        takes = subst (λ z. T p z r) (sym f) (more p q r _ _ a.takes b);
        left = k ∙ ap (λ j. after j ys) a.left ∙ sym (after-append l xs ys) ∙ ap (after l) (sym e);
      }

pub flags-more : (n : ℕ) → flags (n + 1) ≡ flags n ++ flag
unfolding flags
flags-more n = rw add-one

pub length-flags : (n : ℕ) → length (flags n) ≡ 8 * n
unfolding flags
length-flags zero = refl
length-flags (suc n) = let a = length-append (flags n) flag in let b = length-flags n in omega arith

-- the last tone, repeated
pub record Fills (p q : ToneWriter) : Type 0 where
  pub wrote : sent q ≡ sent p ++ replicate (count q - count p) p.tone
  pub behind : drop q.packer.octets q.out.now ≡ drop q.packer.octets p.out.now
  pub least : count p ≤ count q
  pub most : count q ≤ 8 * octet_count (count p)

pub record Filling (p q : ToneWriter) : Type 0 where
  pub lender : q.out.ghost_name ≡ p.out.ghost_name
  pub room : length q.out.now ≡ length p.out.now
  pub tone : q.tone ≡ p.tone
  pub fills : count p ≤ 8 * length p.out.now → Fills p q

pub fills_none : (p : ToneWriter) → Filling p p
fills_none p =
    let e : count p - count p ≡ 0 = omega arith in
    record { lender = refl; room = refl; tone = refl; fills = λ h. record { wrote = rw e (sym (append-nil (sent p))); behind = refl; least = omega arith; most = omega arith } }

pub fills_more : (p q r : ToneWriter) → Filling p q → 0 < q.packer.fill → r.out.ghost_name ≡ q.out.ghost_name → length r.out.now ≡ length q.out.now
    → (count q < 8 * length q.out.now + 7 → sent r ≡ sent q ++ q.tone ∷ []) → drop r.packer.octets r.out.now ≡ drop r.packer.octets q.out.now
    → (count q < 8 * length q.out.now + 7 → count r ≡ count q + 1) → r.tone ≡ q.tone → Filling p r
fills_more p q r f pos same long w b n t =
    let f-room = f.room in
    record {
      lender = same ∙ f.lender;
      room = long ∙ f.room;
      tone = t ∙ f.tone;
      fills = λ h.
          let s = f.fills h in
          let s-least = s.least in
          let s-most = s.most in
          let room : count q < 8 * length q.out.now + 7 = omega arith in
          let w' = w room in
          let n' = n room in
          let m = octets_le q r 1 n' in
          let k = q.packer.ok.0 in
          let g : count r - count p ≡ count q - count p + 1 = omega arith in
          record {
            wrote = rw g (w' ∙ ap (λ z. z ++ q.tone ∷ []) s.wrote ∙ append_assoc (sent p) _ _ ∙ ap (λ z. sent p ++ (replicate (count q - count p) p.tone ++ z ∷ [])) f.tone
                ∙ ap (λ z. sent p ++ z) (replicate_more (count q - count p) p.tone));
            behind = b ∙ behind_more _ _ q.out.now p.out.now m s.behind;
            least = omega arith;
            most = omega arith;
          };
    }

pub filled : (p q : ToneWriter) → Filling p q → q.packer.fill ≤ 0 → count p ≤ 8 * length p.out.now
    → (bits_of (take (octet_count (count p)) q.out.now) ≡ sent p ++ replicate (filling (count p)) p.tone) × (drop (octet_count (count p)) q.out.now ≡ drop (octet_count (count p)) p.out.now)
filled p q f z h =
    let s = f.fills h in
    let s-least = s.least in
    let s-most = s.most in
    let z' : q.packer.fill ≡ 0 = omega arith in
    let e : q.packer.octets ≡ octet_count (count p) = omega arith in
    let n : count q - count p ≡ filling (count p) = omega arith in (
      ap (λ k. bits_of (take k q.out.now)) (sym e) ∙ sym (held-zero q.packer.octets q.packer.fill q.packer.part q.out.now z') ∙ s.wrote ∙ ap (λ k. sent p ++ replicate k p.tone) n,
      subst (λ k. drop k q.out.now ≡ drop k p.out.now) e s.behind,
    )
