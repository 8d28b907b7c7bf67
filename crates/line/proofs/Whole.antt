-- A whole burst.
use Rattle.std.proofs.Common.{◌≡◌, ℕ, ◌+◌, ◌/◌, ◌%◌, ◌<◌, ◌≤◌, Bool, true, List, [], ◌∷◌, ◌++◌, length, take, drop, replicate, Ok, Err, sym, ap, ◌∙◌, subst, arith}
use Rattle.std.proofs.lemmas.List.{length-append}
use Rattle.std.proofs.lemmas.Bool.{cond-true, cond-false, le-leb, lt-leb}
use Rattle.answers.specs.declared.refusal.Refusal.TheVariants.{OutputTooShort}
use Rattle.line.specs.declared.writer.ToneWriter.{ToneWriter}
use Rattle.line.specs.Bits.{low, bits_of}
use Rattle.line.specs.Fcs.{fcs_of, tail}
use Rattle.line.specs.Flags.{flag}
use Rattle.line.specs.Packing.{held}
use Rattle.line.specs.Stuffing.{stuff, stuffed}
use Rattle.line.specs.Burst.{tones, last_tone, toned, flags, flagged, octet_count, filling, Written, body_of, frame, writing}
use Rattle.line.specs.Sending.{Sent, after, sent, count}
use Rattle.line.specs.Sinks.{behind_more}
use Rattle.line.proofs.Lengths.{length_bits_of}
use Rattle.line.proofs.Pack.{bits_of_append}
use Rattle.line.proofs.Sending.{stuffs-more, length-stuff, length-flags}

pub length-flagged : (body : List Bool) → length (flagged body) ≡ 264 + length body + 8
unfolding flagged
length-flagged body =
    let a = length-append (flags 33) (body ++ flag) in
    let b = length-append body flag in
    let c = length-flags 33 in
    omega arith

-- what a sink takes of a whole frame
module _ {S : Type 0} (takes : S → List Bool → S → Type 0) (more : (p q r : S) (xs ys : List Bool) → takes p xs q → takes q ys r → takes p (xs ++ ys) r) where
  pub whole : (m t : List ℕ) (p₀ p₁ p₂ p₃ p₄ : S) (l₁ l₂ l₃ : ℕ) → takes p₀ (flags 33) p₁ → l₁ ≡ 4
      → takes p₁ (stuff l₁ (bits_of m)) p₂ → l₂ ≡ after l₁ (bits_of m)
      → takes p₂ (stuff l₂ (bits_of t)) p₃ → l₃ ≡ after l₂ (bits_of t)
      → takes p₃ flag p₄
      → takes p₀ (flagged (stuffed (bits_of (m ++ t)))) p₄
  unfolding flagged
  whole m t p₀ p₁ p₂ p₃ p₄ l₁ l₂ l₃ f l s₁ k₁ s₂ k₂ g =
      let s = stuffs-more takes more p₁ p₂ p₃ l₁ l₂ l₃ (bits_of m) (bits_of t) (bits_of (m ++ t)) (bits_of_append m t) (record { takes = s₁; left = k₁ }) s₂ k₂ in
      let b : takes p₁ (stuff 4 (bits_of (m ++ t))) p₃ = subst (λ n. takes p₁ (stuff n (bits_of (m ++ t))) p₃) l s.takes in
      more p₀ p₁ p₄ (flags 33) (stuff 4 (bits_of (m ++ t)) ++ flag) f (more p₁ p₃ p₄ (stuff 4 (bits_of (m ++ t))) flag b g)

-- what is known of the first writer
pub written : (bits : List Bool) (p q : ToneWriter) (new : List ℕ) {old end : List ℕ} → old ≡ p.out.now → end ≡ new
    → p.tone ≡ true → p.packer.octets ≡ 0 → p.packer.fill ≡ 0 → Sent p q bits
    → bits_of (take (octet_count (count q)) new) ≡ sent q ++ replicate (filling (count q)) q.tone
    → drop (octet_count (count q)) new ≡ drop (octet_count (count q)) q.out.now
    → Written bits old end
unfolding toned held low bits_of
written bits p q new {old} {end} d f t z y s w b =
    let none : sent p ≡ [] = rw (z, y) in
    let n : count q ≡ length bits = let k = s.counts in omega arith in
    let o : q.packer.octets ≤ octet_count (count q) = omega arith in
    let e : sent q ≡ tones true bits = s.wrote ∙ ap (λ x. x ++ tones p.tone bits) none ∙ ap (λ x. tones x bits) t in
    let l : q.tone ≡ last_tone true bits = s.last ∙ ap (λ x. last_tone x bits) t in
    rw (d, f)
    record {
      tones = ap (λ x. bits_of (take (octet_count x) new)) (sym n) ∙ w ∙ ap (λ x. x ++ replicate (filling (count q)) q.tone) e ∙ ap (λ x. tones true bits ++ replicate (filling (count q)) x) l
          ∙ ap (λ x. tones true bits ++ replicate (filling x) (last_tone true bits)) n;
      behind = subst (λ x. drop (octet_count x) new ≡ drop (octet_count x) p.out.now) n (b ∙ behind_more _ _ q.out.now p.out.now o s.behind);
    }

-- the length of a frame of a few octets
pub frame-fits : (m t : List ℕ) → length m + length t ≤ 16384 → length (flagged (stuffed (bits_of (m ++ t)))) ≤ 300000
frame-fits m t h =
    let a = length-flagged (stuffed (bits_of (m ++ t))) in
    let b = length-stuff 4 (bits_of (m ++ t)) in
    let c = length_bits_of (m ++ t) in
    let d = length-append m t in
    omega arith

-- the FCS in two octets
pub tail_of : (m octets : List ℕ) (f : ℕ) → octets ≡ (f % 256) ∷ (f / 256 % 256) ∷ [] → f ≡ fcs_of m → octets ≡ tail m
unfolding tail
tail_of m octets f e g =
    let high : f / 256 % 256 ≡ f / 256 = omega arith in
    e ∙ rw (high, g)

-- the frame of a message, from its octets and its FCS
pub frame_of : (m t : List ℕ) → t ≡ tail m → flagged (stuffed (bits_of (m ++ t))) ≡ frame m
unfolding body_of
frame_of m t e = ap (λ x. flagged (stuffed (bits_of (m ++ x)))) e

-- the writer's answer
pub writing-short : (m : List ℕ) (room : ℕ) → length m ≤ 12288 → room < octet_count (length (frame m)) → writing m room ≡ Err OutputTooShort
writing-short m room h l = cond-true _ _ _ (le-leb (length m) 12288 h) ∙ cond-false _ _ _ (lt-leb (octet_count (length (frame m))) room l)

pub writing-done : (m : List ℕ) (room : ℕ) → length m ≤ 12288 → octet_count (length (frame m)) ≤ room → writing m room ≡ Ok (length (frame m))
writing-done m room h l = cond-true _ _ _ (le-leb (length m) 12288 h) ∙ cond-true _ _ _ (le-leb (octet_count (length (frame m))) room l)
