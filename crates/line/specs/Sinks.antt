-- That sinks take one stretch of bits after another: the laws of a writer and of a counter.
use Rattle.std.proofs.Common.{◌≡◌, ℕ, ◌+◌, ◌-◌, ◌≤◌, Bool, List, [], ◌∷◌, ◌++◌, length, drop, sym, refl, ap, ◌∙◌, append_assoc, append-nil, arith}
use mathlib.Core.Bool.{beq}
use Rattle.std.proofs.lemmas.List.{length-append, drop-drop}
use Rattle.line.specs.declared.counter.Counter.{Counter}
use Rattle.line.specs.declared.writer.ToneWriter.{ToneWriter}
use Rattle.line.specs.Burst.{tones, last_tone}
use Rattle.line.specs.Sending.{Sent, Sends, Counts, sent, count}

pub behind_more : (m n : ℕ) (a b : List ℕ) → m ≤ n → drop m a ≡ drop m b → drop n a ≡ drop n b
behind_more m n a b h e =
    let s : n ≡ m + (n - m) = omega arith in
    rw s (sym (drop-drop (n - m) m a) ∙ ap (drop (n - m)) e ∙ drop-drop (n - m) m b)

pub tones-append : (t : Bool) (xs ys : List Bool) → tones t (xs ++ ys) ≡ tones t xs ++ tones (last_tone t xs) ys
unfolding tones last_tone
tones-append t [] ys = refl
tones-append t (x ∷ xs) ys = ap (λ z. beq t x ∷ z) (tones-append (beq t x) xs ys)

pub last-append : (t : Bool) (xs ys : List Bool) → last_tone t (xs ++ ys) ≡ last_tone (last_tone t xs) ys
unfolding last_tone
last-append t [] ys = refl
last-append t (x ∷ xs) ys = last-append (beq t x) xs ys

-- tones: nothing, and one stretch after another
pub sends-none : (p : ToneWriter) → Sends p [] p
unfolding tones last_tone
sends-none p = record { lender = refl; room = refl; sends = λ h. record { wrote = sym (append-nil (sent p)); last = refl; behind = refl; counts = omega arith } }

pub octets_le : (p q : ToneWriter) (n : ℕ) → count q ≡ count p + n → p.packer.octets ≤ q.packer.octets
octets_le p q n e = let k = q.packer.ok.0 in omega arith

pub sent-more : (p q r : ToneWriter) (xs ys : List Bool) → Sent p q xs → Sent q r ys → Sent p r (xs ++ ys)
sent-more p q r xs ys a b =
    let l = length-append xs ys in
    let m = octets_le q r (length ys) b.counts in
    record {
      wrote =
          b.wrote ∙ ap (λ z. z ++ tones q.tone ys) a.wrote ∙ append_assoc (sent p) _ _
          ∙ ap (λ z. sent p ++ (tones p.tone xs ++ tones z ys)) a.last
          ∙ ap (λ z. sent p ++ z) (sym (tones-append p.tone xs ys));
      last = b.last ∙ ap (λ z. last_tone z ys) a.last ∙ sym (last-append p.tone xs ys);
      behind = b.behind ∙ behind_more _ _ q.out.now p.out.now m a.behind;
      counts = let x = a.counts in let y = b.counts in omega arith;
    }

pub sends-more : (p q r : ToneWriter) (xs ys : List Bool) → Sends p xs q → Sends q ys r → Sends p (xs ++ ys) r
sends-more p q r xs ys f g =
    let l = length-append xs ys in
    let f-room = f.room in
    record {
      lender = g.lender ∙ f.lender;
      room = g.room ∙ f.room;
      sends = λ h.
          let a = f.sends (omega arith) in
          let a-counts = a.counts in
          sent-more p q r xs ys a (g.sends (omega arith));
    }

-- numbers of bits likewise
pub counts-none : (p : Counter) → Counts p [] p
counts-none p h = omega arith

pub counts-more : (p q r : Counter) (xs ys : List Bool) → Counts p xs q → Counts q ys r → Counts p (xs ++ ys) r
counts-more p q r xs ys f g h =
    let l = length-append xs ys in
    let a = f (omega arith) in
    let b = g (omega arith) in
    omega arith
