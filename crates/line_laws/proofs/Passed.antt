-- A frame that passes is what the writer makes of its message.
use Rattle.std.proofs.Common.{◌≡◌, ℕ, zero, suc, ◌+◌, ◌-◌, ◌*◌, ◌/◌, ◌%◌, ◌^◌, ◌<◌, ◌≤◌, Bool, true, false, eqb, List, [], ◌∷◌, ◌++◌, length, take, drop, Some, None, Option, sym, refl, ap, ◌∙◌, subst, arith, pow_mono}
use Rattle.std.proofs.lemmas.List.{take-append-drop, length-take-le, length-drop, length-take}
use Rattle.std.proofs.ByRecursion.{All-take, All-drop}
use Rattle.std.proofs.lemmas.Bool.{eqb-true, leb-true, and_parts}
use Rattle.answers.specs.Questions.{Questions, ◌⨟◌, ask, found, first}
use Rattle.answers.specs.declared.refusal.Refusal.{Refusal}
use Rattle.answers.specs.declared.refusal.Refusal.TheVariants.{BurstTooLong, Framing, OctetAlign, FcsFail}
use Rattle.line.specs.declared.heard.Heard.{Heard}
use Rattle.line.specs.declared.heard.Hearing.TheVariants.{Quiet, Refused, Frame}
use Rattle.line.specs.Bits.{low, bits_of, number, octets_of, octets_in}
use Rattle.line.specs.Burst.{body_of}
use Rattle.line.specs.Fcs.{register, tail}
use Rattle.line.specs.Flags.{body_start, closing, between}
use Rattle.line.specs.Hearing.{longest_body, in_time, checked, Outcome, hears_line, refused_at, quiet_at, frame_at}
use Rattle.line.specs.Stuffing.{stuffed, unstuffed}
use Rattle.line.proofs.Pack.{pow_suc}
use Rattle.line_laws.specs.Passing.{Octets, PassedIsSent}
use Rattle.line_laws.proofs.Firsts.{closing-told}
use Rattle.line_laws.proofs.Openings.{opening_told}
use Rattle.line_laws.proofs.Residues.{checking_told}
use Rattle.line_laws.proofs.Unstuffed.{unstuffing_told}

-- a number of n bits, and its bits
number_lt : (xs : List Bool) → number xs < 2 ^ length xs
unfolding number
number_lt [] = omega arith
number_lt (true ∷ xs) = let h = number_lt xs in omega (arith, pow_suc (length xs))
number_lt (false ∷ xs) = let h = number_lt xs in omega (arith, pow_suc (length xs))

low-number : (xs : List Bool) → low (length xs) (number xs) ≡ xs
unfolding number low
low-number [] = refl
low-number (true ∷ xs) =
    let o : (1 + 2 * number xs) % 2 ≡ 1 = omega arith in
    let h : (1 + 2 * number xs) / 2 ≡ number xs = omega arith in
    rw (o, h) (ap (λ t. true ∷ t) (low-number xs))
low-number (false ∷ xs) =
    let o : (0 + 2 * number xs) % 2 ≡ 0 = omega arith in
    let h : (0 + 2 * number xs) / 2 ≡ number xs = omega arith in
    rw (o, h) (ap (λ t. false ∷ t) (low-number xs))

-- octets made of bits are octets, and have these bits
octets_fit : (n : ℕ) (bits : List Bool) → Octets (octets_of n bits)
unfolding octets_of
octets_fit zero bits = tt
octets_fit (suc n) bits =
    let h = number_lt (take 8 bits) in
    let l = length-take 8 bits in
    let k : length (take 8 bits) ≤ 8 = omega arith in
    let m : 2 ^ length (take 8 bits) ≤ 2 ^ 8 = pow_mono k in
    (omega arith, octets_fit n (drop 8 bits))

bits_back : (n : ℕ) (bits : List Bool) → length bits ≡ 8 * n → bits_of (octets_of n bits) ≡ bits
unfolding octets_of bits_of
bits_back zero [] l = refl
bits_back zero (b ∷ bits) l = absurd (omega arith)
bits_back (suc n) bits l =
    let t = length-take-le 8 bits (omega arith) in
    let d = length-drop 8 bits in
    let e : low 8 (number (take 8 bits)) ≡ take 8 bits = ap (λ k. low k (number (take 8 bits))) (sym t) ∙ low-number (take 8 bits) in
    ap (λ x. x ++ bits_of (octets_of n (drop 8 bits))) e ∙ ap (λ x. take 8 bits ++ x) (bits_back n (drop 8 bits) (omega arith)) ∙ take-append-drop 8 bits

-- what a frame passed
pub record Passed (bits : List Bool) (start n c : ℕ) : Type 0 where
  pub b : ℕ
  pub kept : List Bool
  pub starts : body_start bits start ≡ Some b
  pub closes : closing bits b ≡ Some c
  pub unstuffs : unstuffed (between b c bits) ≡ Some kept
  pub whole : length kept % 8 ≡ 0
  pub checks : checked (octets_in kept) ≡ true
  pub octets : (hears_line bits start).octets ≡ octets_in kept
  pub long : n ≡ length (octets_in kept)

refused-frame : (r : Refusal) (k n c : ℕ) → (refused_at r k).answer ≡ record { hearing = Frame n; next = c } → ⊥
refused-frame r k n c e = let h : Refused r ≡ Frame n = ap (λ (x : Heard). x.hearing) e in let z : ◌≡◌ {A = ℕ} 0 1 = cc in omega arith

quiet_frame : (k n c : ℕ) → (quiet_at k).answer ≡ record { hearing = Frame n; next = c } → ⊥
quiet_frame k n c e = let h : Quiet ≡ Frame n = ap (λ (x : Heard). x.hearing) e in let z : ◌≡◌ {A = ℕ} 0 1 = cc in omega arith

module _ (bits : List Bool) (start n c : ℕ) where
  abbrev FrameIs : Outcome → Type 0
  FrameIs o = o.answer ≡ record { hearing = Frame n; next = c }

  abbrev octet_rows : ℕ → List Bool → Questions Outcome
  octet_rows k kept = ask (eqb (length kept % 8) 0) (refused_at OctetAlign k) ⨟ ask (checked (octets_in kept)) (refused_at FcsFail k) ⨟ frame_at k (octets_in kept)

  abbrev closed_rows : ℕ → ℕ → Questions Outcome
  closed_rows b k = found (unstuffed (between b k bits)) (refused_at Framing k) (octet_rows k)

  abbrev body_rows : ℕ → Questions Outcome
  body_rows b = ask (in_time bits b) (refused_at BurstTooLong (b + longest_body)) ⨟ found (closing bits b) (refused_at Framing (length bits)) (closed_rows b)

  at-octets : (b k : ℕ) (kept : List Bool) (t u : Bool) → eqb (length kept % 8) 0 ≡ t → checked (octets_in kept) ≡ u
      → body_start bits start ≡ Some b → closing bits b ≡ Some k → unstuffed (between b k bits) ≡ Some kept → hears_line bits start ≡ first (octet_rows k kept)
      → FrameIs (first (ask t (refused_at OctetAlign k) ⨟ ask u (refused_at FcsFail k) ⨟ frame_at k (octets_in kept))) → Passed bits start n c
  at-octets b k kept false u et eu s g w o f = absurd (refused-frame OctetAlign k n c f)
  at-octets b k kept true false et eu s g w o f = absurd (refused-frame FcsFail k n c f)
  at-octets b k kept true true et eu s g w o f =
      let kc : k ≡ c = ap (λ (x : Heard). x.next) f in
      let h : Frame (length (octets_in kept)) ≡ Frame n = ap (λ (x : Heard). x.hearing) f in
      let nl : n ≡ length (octets_in kept) = cc in
      let oo : first (octet_rows k kept) ≡ record { answer = record { hearing = Frame (length (octets_in kept)); next = k }; octets = octets_in kept } = rw (et, eu) in
      record {
        b = b;
        kept = kept;
        starts = s;
        closes = g ∙ ap (λ x. Some x) kc;
        unstuffs = subst (λ x. unstuffed (between b x bits) ≡ Some kept) kc w;
        whole = eqb-true _ _ et;
        checks = eu;
        octets = ap (λ (x : Outcome). x.octets) (o ∙ oo);
        long = nl;
      }

  at_stuffing : (b k : ℕ) (o : Option (List Bool)) → unstuffed (between b k bits) ≡ o → body_start bits start ≡ Some b → closing bits b ≡ Some k → hears_line bits start ≡ first (closed_rows b k)
      → FrameIs (first (found o (refused_at Framing k) (octet_rows k))) → Passed bits start n c
  at_stuffing b k None e s g h f = absurd (refused-frame Framing k n c f)
  at_stuffing b k (Some kept) e s g h f =
      at-octets b k kept (eqb (length kept % 8) 0) (checked (octets_in kept)) refl refl s g e (h ∙ ap (λ x. first (found x (refused_at Framing k) (octet_rows k))) e) f

  at-closing : (b : ℕ) (t : Bool) (o : Option ℕ) → in_time bits b ≡ t → closing bits b ≡ o → body_start bits start ≡ Some b → hears_line bits start ≡ first (body_rows b)
      → FrameIs (first (ask t (refused_at BurstTooLong (b + longest_body)) ⨟ found o (refused_at Framing (length bits)) (closed_rows b))) → Passed bits start n c
  at-closing b false o et eo s h f = absurd (refused-frame BurstTooLong (b + longest_body) n c f)
  at-closing b true None et eo s h f = absurd (refused-frame Framing (length bits) n c f)
  at-closing b true (Some k) et eo s h f =
      at_stuffing b k (unstuffed (between b k bits)) refl s eo (h ∙ (let e : first (body_rows b) ≡ first (closed_rows b k) = rw (et, eo) in e)) f

  at_opening : (o : Option ℕ) → body_start bits start ≡ o → hears_line bits start ≡ first (found (body_start bits start) (quiet_at (length bits)) body_rows)
      → FrameIs (first (found o (quiet_at (length bits)) body_rows)) → Passed bits start n c
  at_opening None e h f = absurd (quiet_frame (length bits) n c f)
  at_opening (Some b) e h f =
      at-closing b (in_time bits b) (closing bits b) refl refl e (h ∙ ap (λ x. first (found x (quiet_at (length bits)) body_rows)) e) f

  pub passed : (hears_line bits start).answer ≡ record { hearing = Frame n; next = c } → Passed bits start n c
  unfolding hears_line
  passed f = at_opening (body_start bits start) refl refl f

pub passed-is-sent : PassedIsSent
unfolding octets_in body_of
passed-is-sent bits start n c f =
    let p = passed bits start n c f in
    let o = (opening_told bits start p.b).told p.starts in
    let d = (closing-told bits p.b c).told p.closes in
    let s = (unstuffing_told (between p.b c bits) p.kept).told p.unstuffs in
    let os = octets_in p.kept in
    let q = and_parts _ _ p.checks in
    let two = leb-true 2 (length (octets_in p.kept)) q.0 in
    let l = length (octets_in p.kept) - 2 in
    let fit : Octets (octets_in p.kept) = octets_fit (length p.kept / 8) p.kept in
    let split = take-append-drop (length (octets_in p.kept) - 2) (octets_in p.kept) in
    let m = take (length (octets_in p.kept) - 2) (octets_in p.kept) in
    let last : length (drop (length (octets_in p.kept) - 2) (octets_in p.kept)) ≡ 2 = let x = length-drop (length (octets_in p.kept) - 2) (octets_in p.kept) in omega arith in
    let t = (checking_told (take (length (octets_in p.kept) - 2) (octets_in p.kept)) (drop (length (octets_in p.kept) - 2) (octets_in p.kept))
    (All-take (λ x. x < 256) (length (octets_in p.kept) - 2) (octets_in p.kept) fit) (All-drop (λ x. x < 256) (length (octets_in p.kept) - 2) (octets_in p.kept) fit) last).told
    (ap register split ∙ eqb-true _ _ q.1) in
    let whole : octets_in p.kept ≡ take (length (octets_in p.kept) - 2) (octets_in p.kept) ++ tail (take (length (octets_in p.kept) - 2) (octets_in p.kept)) =
    sym split ∙ ap (λ x. take (length (octets_in p.kept) - 2) (octets_in p.kept) ++ x) t in
    let w = p.whole in
    let bb : bits_of (octets_in p.kept) ≡ p.kept = bits_back (length p.kept / 8) p.kept (omega arith) in
    record {
      b = p.b;
      message = take (length (octets_in p.kept) - 2) (octets_in p.kept);
      opens = o.0;
      closes = d;
      body = s ∙ ap stuffed (sym bb) ∙ ap (λ x. stuffed (bits_of x)) whole;
      octets = p.octets ∙ whole;
      long = p.long ∙ (let x = length-take-le (length (octets_in p.kept) - 2) (octets_in p.kept) (omega arith) in omega arith);
    }
