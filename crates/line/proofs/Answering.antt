-- The questions of the line, answered one after another.
use Rattle.std.proofs.Common.{◌≡◌, ℕ, zero, suc, ◌+◌, ◌-◌, ◌*◌, ◌%◌, ◌<◌, ◌≤◌, Bool, true, false, cond, eqb, leb, List, [], ◌++◌, length, take, drop, replicate, Some, None, Ok, Err, Option, Result, sym, refl, ap, ◌∙◌, subst, append-nil, arith}
use Rattle.std.specs.Option.{option_map}
use Rattle.std.proofs.lemmas.List.{drop-drop, drop_all, length-drop, length-take-le}
use Rattle.std.proofs.lemmas.Bool.{cond-true, cond-false, lt-ltb, le-ltb, eq-eqb, ne_eqb, and_parts, leb-true}
use borrow.Rule.Slice.PartMut.{put_mid, post_of}
use Rattle.answers.specs.Questions.{Questions, ◌⨟◌, ask, found, first}
use Rattle.answers.specs.declared.refusal.Refusal.{Refusal}
use Rattle.answers.specs.declared.refusal.Refusal.TheVariants.{WorkTooShort, OutOfBounds, BurstTooLong, Framing, OctetAlign, FcsFail}
use Rattle.line.specs.Bits.{bits_in, octets_in}
use Rattle.line.specs.Flags.{first_flag, past_flags, behind_opening, within, body_start, closing, between}
use Rattle.line.specs.declared.heard.Heard.{Heard}
use Rattle.line.specs.declared.heard.Hearing.{Hearing}
use Rattle.line.specs.declared.heard.Hearing.TheVariants.{Quiet, Refused, Frame}
use Rattle.line.specs.Hearing.{admission, in_bounds, work_octets, hears, laid, line_questions, in_time, longest_body, checked, Fronts, Outcome, hears_line, refused_at, quiet_at, frame_at}
use Rattle.line.specs.declared.scan.Flaw.{Flaw}
use Rattle.line.specs.Scanning.{Begun, Closed, Right, Packed, Flawed, TooLong, Unclosed, Broken, Misaligned}
use Rattle.line.specs.Stuffing.{unstuffed}
use Rattle.line.proofs.Places.{flag-inside, one-more-flag, length-heard}

pub mapped_none : (f : ℕ → ℕ) (o : Option ℕ) → None ≡ option_map f o → o ≡ None
mapped_none f None e = refl
mapped_none f (Some x) e = let z : ◌≡◌ {A = ℕ} 0 1 = cc in absurd (omega arith)

pub mapped_some : (f : ℕ → ℕ) (o : Option ℕ) (y : ℕ) → Some y ≡ option_map f o → (x : ℕ) × (o ≡ Some x) × (y ≡ f x)
mapped_some f None y e = let z : ◌≡◌ {A = ℕ} 0 1 = cc in absurd (omega arith)
mapped_some f (Some x) y e = (x, refl, cc)

-- where the body starts, told from the first flag on
pub not_opened : (bits : List Bool) (start : ℕ) → first_flag start (drop start bits) ≡ None → body_start bits start ≡ None
unfolding body_start
not_opened bits start e = ap (behind_opening bits) e

pub record Opened (bits : List Bool) (start p : ℕ) : Type 0 where
  pub fuel : ℕ
  pub enough : length bits ≤ p + 8 * fuel
  pub fits : p ≤ length bits
  pub starts : body_start bits start ≡ within bits (past_flags fuel p (drop p bits))

opened-by : (bits : List Bool) (start k n : ℕ) → length bits ≡ n → first_flag start (drop start bits) ≡ Some k → Opened bits start (k + 8)
unfolding body_start
opened-by bits start k zero l e = let f = flag-inside start k bits e in absurd (omega arith)
opened-by bits start k (suc n) l e =
    let f = flag-inside start k bits e in
    record {
      fuel = n;
      enough = omega arith;
      fits = f.1;
      starts =
          ap (behind_opening bits) e ∙ ap (λ m. within bits (past_flags m k (drop k bits))) l
          ∙ ap (within bits) (one-more-flag n k (drop k bits) f.0) ∙ ap (λ t. within bits (past_flags n (k + 8) t)) (drop-drop 8 k bits);
    }

pub opened : (bits : List Bool) (start k : ℕ) → first_flag start (drop start bits) ≡ Some k → Opened bits start (k + 8)
opened bits start k e = opened-by bits start k (length bits) refl e

pub within-some : (bits : List Bool) (b : ℕ) → b < length bits → within bits b ≡ Some b
within-some bits b h = cond-true _ _ _ (lt-ltb b (length bits) h)

pub within_none : (bits : List Bool) (b : ℕ) → length bits ≤ b → within bits b ≡ None
within_none bits b h = cond-false _ _ _ (le-ltb b (length bits) h)

-- the answer, by what is found
module _ {A : Type 0} (refused : Refusal → ℕ → A) (quiet : ℕ → A) (bits : List Bool) (start : ℕ) (rest : ℕ → List ℕ → Questions A) where
  abbrev pub answered : A
  answered = first (line_questions refused quiet bits start rest)

  pub no_body : body_start bits start ≡ None → answered ≡ quiet (length bits)
  no_body e = rw e

  pub long-body : (b : ℕ) → body_start bits start ≡ Some b → in_time bits b ≡ false → answered ≡ refused BurstTooLong (b + longest_body)
  long-body b e t = rw (e, t)

  pub no_closing : (b : ℕ) → body_start bits start ≡ Some b → Begun bits b → closing bits b ≡ None → answered ≡ refused Framing (length bits)
  no_closing b e g c = let t = g.timely in rw (e, t, c)

  pub bad_stuffing : (b c : ℕ) → body_start bits start ≡ Some b → Closed bits b c → unstuffed (between b c bits) ≡ None → answered ≡ refused Framing c
  bad_stuffing b c e g u = let t = g.timely in let h = g.closes in rw (e, t, h, u)

  pub not_octets : (b c : ℕ) (kept : List Bool) → body_start bits start ≡ Some b → Right bits b c kept → (length kept % 8 ≡ 0 → ⊥) → answered ≡ refused OctetAlign c
  not_octets b c kept e r n =
      let t = r.closed.timely in let h = r.closed.closes in let u = r.unstuffs in let m = ne_eqb (length kept % 8) 0 n in rw (e, t, h, u, m)

  pub not_checked : (b c : ℕ) (kept : List Bool) → body_start bits start ≡ Some b → Right bits b c kept → length kept % 8 ≡ 0 → checked (octets_in kept) ≡ false → answered ≡ refused FcsFail c
  not_checked b c kept e r w k =
      let t = r.closed.timely in let h = r.closed.closes in let u = r.unstuffs in let m = eq-eqb (length kept % 8) 0 w in rw (e, t, h, u, m, k)

  pub all_right : (b c : ℕ) (kept : List Bool) → body_start bits start ≡ Some b → Right bits b c kept → length kept % 8 ≡ 0 → checked (octets_in kept) ≡ true → answered ≡ first (rest c (octets_in kept))
  all_right b c kept e r w k =
      let t = r.closed.timely in let h = r.closed.closes in let u = r.unstuffs in let m = eq-eqb (length kept % 8) 0 w in rw (e, t, h, u, m, k)

-- the same of the line's own outcome, from what the way through the body came to
module _ (bits : List Bool) (start p : ℕ) (o : Opened bits start p) where
  begins : past_flags o.fuel p (drop p bits) < length bits → body_start bits start ≡ Some (past_flags o.fuel p (drop p bits))
  begins h = o.starts ∙ within-some bits _ h

  pub heard-empty : length bits ≤ past_flags o.fuel p (drop p bits) → hears_line bits start ≡ quiet_at (length bits)
  unfolding hears_line
  heard-empty h = no_body refused_at quiet_at bits start frame_at (o.starts ∙ within_none bits _ h)

  pub heard-flawed : (f : Flaw) → Flawed bits (past_flags o.fuel p (drop p bits)) f → hears_line bits start ≡ refused_at f.refusal f.next
  unfolding hears_line
  heard-flawed f (TooLong e h t) = long-body refused_at quiet_at bits start frame_at _ (begins h) t ∙ ap (λ (x : Flaw). refused_at x.refusal x.next) (sym e)
  heard-flawed f (Unclosed e g c) = no_closing refused_at quiet_at bits start frame_at _ (begins g.some) g c ∙ ap (λ (x : Flaw). refused_at x.refusal x.next) (sym e)
  heard-flawed f (Broken c e g u) = bad_stuffing refused_at quiet_at bits start frame_at _ c (begins g.some) g u ∙ ap (λ (x : Flaw). refused_at x.refusal x.next) (sym e)
  heard-flawed f (Misaligned c kept e r n) = not_octets refused_at quiet_at bits start frame_at _ c kept (begins r.closed.some) r n ∙ ap (λ (x : Flaw). refused_at x.refusal x.next) (sym e)

  module _ (n c : ℕ) (work : List ℕ) (f : (kept : List Bool) × Right bits (past_flags o.fuel p (drop p bits)) c kept × Packed kept n work) where
    kept-octets : octets_in f.0 ≡ take n work
    kept-octets = f.2.octets

    pub heard_bad : checked (take n work) ≡ false → hears_line bits start ≡ refused_at FcsFail c
    unfolding hears_line
    heard_bad k = not_checked refused_at quiet_at bits start frame_at _ c f.0 (begins f.1.closed.some) f.1 f.2.whole (ap checked kept-octets ∙ k)

    pub heard-frame : checked (take n work) ≡ true → hears_line bits start ≡ record { answer = record { hearing = Frame n; next = c }; octets = take n work }
    unfolding hears_line
    heard-frame k =
        all_right refused_at quiet_at bits start frame_at _ c f.0 (begins f.1.closed.some) f.1 f.2.whole (ap checked kept-octets ∙ k)
        ∙ ap (λ os. record { answer = record { hearing = Frame (length os); next = c }; octets = os }) kept-octets
        ∙ ap (λ m. record { answer = record { hearing = Frame m; next = c }; octets = take n work }) (length-take-le n work f.2.fits)

-- from what was answered of the first flag
pub record OpenedIn (burst : List ℕ) (count start p : ℕ) : Type 0 where
  pub at : Opened (bits_in burst count) start p
  pub enough : count ≤ p + 8 * at.fuel
  pub fits : p ≤ count

pub opened-in : (burst : List ℕ) (count start p : ℕ) → Some p ≡ option_map (λ k. k + 8) (first_flag start (drop start (bits_in burst count))) → OpenedIn burst count start p
opened-in burst count start p e =
    let m = mapped_some (λ k. k + 8) (first_flag start (drop start (bits_in burst count))) p e in
    let o = subst (Opened (bits_in burst count) start) (sym m.2) (opened (bits_in burst count) start m.0 m.1) in
    let len = length-heard burst 0 count in
    record { at = o; enough = let h = o.enough in omega arith; fits = let h = o.fits in omega arith }

-- and where there is none
pub not-heard : (burst : List ℕ) (count start : ℕ) → None ≡ option_map (λ k. k + 8) (first_flag start (drop start (bits_in burst count))) → hears_line (bits_in burst count) start ≡ quiet_at count
unfolding hears_line
not-heard burst count start e =
    no_body refused_at quiet_at (bits_in burst count) start frame_at (not_opened (bits_in burst count) start (mapped_none (λ k. k + 8) _ e)) ∙ ap quiet_at (length-heard burst 0 count)

-- the questions about the buffers
err_ok : (x : Refusal) (y : Unit {0}) → Err x ≡ Ok y → ⊥
err_ok x y e = let z : ◌≡◌ {A = ℕ} 0 1 = cc in omega arith

abbrev admits : Bool → Bool → Result (Unit {0}) Refusal
admits t u = cond t (cond u (Ok tt) (Err OutOfBounds)) (Err WorkTooShort)

admission-by : (t u : Bool) (r : Refusal) (start : ℕ) (line : Outcome) → Err r ≡ admits t u
    → cond t (cond u line (refused_at OutOfBounds start)) (refused_at WorkTooShort start) ≡ refused_at r start
admission-by true true r start line e = absurd (err_ok r tt e)
admission-by true false r start line e = let x : r ≡ OutOfBounds = cc in ap (λ y. refused_at y start) (sym x)
admission-by false u r start line e = let x : r ≡ WorkTooShort = cc in ap (λ y. refused_at y start) (sym x)

pub not_admitted : (burst : List ℕ) (count start work : ℕ) (r : Refusal) → Err r ≡ admission (length burst) count start work → hears burst count start work ≡ refused_at r start
unfolding hears hears_line
not_admitted burst count start work r e = admission-by (leb work_octets work) (in_bounds (length burst) count start) r start (hears_line (bits_in burst count) start) e

pub record Admitted (burst : List ℕ) (count start work : ℕ) : Type 0 where
  pub within : count ≤ 8 * length burst
  pub order : start ≤ count
  pub room : 16500 ≤ work
  pub line : hears burst count start work ≡ hears_line (bits_in burst count) start

admitted-by : (t u : Bool) (line : Outcome) (a b : Outcome) → Ok tt ≡ admits t u → (t ≡ true) × (u ≡ true) × (cond t (cond u line a) b ≡ line)
admitted-by true true line a b e = (refl, refl, refl)
admitted-by true false line a b e = absurd (err_ok OutOfBounds tt (sym e))
admitted-by false u line a b e = absurd (err_ok WorkTooShort tt (sym e))

pub admitted : (burst : List ℕ) (count start work : ℕ) → Ok tt ≡ admission (length burst) count start work → Admitted burst count start work
unfolding hears hears_line
admitted burst count start work e =
    let p = admitted-by (leb work_octets work) (in_bounds (length burst) count start) (hears_line (bits_in burst count) start) (refused_at OutOfBounds start) (refused_at WorkTooShort start) e in
    let q = and_parts _ _ p.1 in
    record { within = leb-true _ _ q.1; order = leb-true _ _ q.0; room = leb-true _ _ p.0; line = p.2 }

-- what is left in the work buffer
pub no_front : (o : Outcome) (r : Heard) (work : List ℕ) → o ≡ record { answer = r; octets = [] } → Fronts o.octets work
no_front o r work e = let x = ap (λ t. t.octets) e in subst (λ t. Fronts t work) (sym x) (record { fits = omega arith; same = refl })

pub frame-front : (o : Outcome) (r : Heard) (n : ℕ) (work : List ℕ) → o ≡ record { answer = r; octets = take n work } → n ≤ length work → Fronts o.octets work
frame-front o r n work e h =
    let x = ap (λ t. t.octets) e in
    let l = length-take-le n work h in
    subst (λ t. Fronts t work) (sym x) (record { fits = omega arith; same = ap (λ m. take m work) l })

-- the work buffer, cleared behind the front
pub laid-front : (octets work zeros : List ℕ) (n : ℕ) → Fronts octets work → n ≡ length octets → zeros ≡ replicate (length (drop n work)) 0
    → put_mid n (length work - n) work zeros ≡ laid (length work) octets
laid-front octets work zeros n f e z =
    let l = length-drop n work in
    let none : post_of n (length work - n) work ≡ [] = drop_all (length work - n) (drop n work) (omega arith) in
    ap (λ t. take n work ++ (zeros ++ t)) none ∙ ap (λ t. take n work ++ t) (append-nil zeros ∙ z ∙ ap (λ m. replicate m 0) l)
    ∙ ap (λ m. take m work ++ replicate (length work - m) 0) e ∙ ap (λ t. t ++ replicate (length work - length octets) 0) f.same

-- what holds of every answer in a list of questions holds of the first no
module _ {A : Type 0} (P : A → Type 0) where
  of_ask : (t : Bool) (a : A) (qs : Questions A) → P a → P (first qs) → P (first (ask t a ⨟ qs))
  of_ask true a qs p q = q
  of_ask false a qs p q = p

  of_found : {X : Type 0} (o : Option X) (a : A) (rest : X → Questions A) → P a → ((x : X) → P (first (rest x))) → P (first (found o a rest))
  of_found None a rest p q = p
  of_found (Some x) a rest p q = q x

-- the octets go with the answer
abbrev pub Agrees : Hearing → List ℕ → Type 0
Agrees Quiet octets = octets ≡ []
Agrees (Refused r) octets = octets ≡ []
Agrees (Frame n) octets = n ≡ length octets

abbrev Agreeing : Outcome → Type 0
Agreeing o = Agrees o.answer.hearing o.octets

module _ (bits : List Bool) (start : ℕ) where
  abbrev octet_rows : ℕ → List Bool → Questions Outcome
  octet_rows c kept = ask (eqb (length kept % 8) 0) (refused_at OctetAlign c) ⨟ ask (checked (octets_in kept)) (refused_at FcsFail c) ⨟ frame_at c (octets_in kept)

  abbrev body_rows : ℕ → Questions Outcome
  body_rows b =
      ask (in_time bits b) (refused_at BurstTooLong (b + longest_body)) ⨟
      found (closing bits b) (refused_at Framing (length bits)) (λ c. found (unstuffed (between b c bits)) (refused_at Framing c) (octet_rows c))

  octets_agree : (c : ℕ) (kept : List Bool) → Agreeing (first (octet_rows c kept))
  octets_agree c kept =
      of_ask Agreeing (eqb (length kept % 8) 0) (refused_at OctetAlign c) (ask (checked (octets_in kept)) (refused_at FcsFail c) ⨟ frame_at c (octets_in kept)) refl
      (of_ask Agreeing (checked (octets_in kept)) (refused_at FcsFail c) (frame_at c (octets_in kept)) refl refl)

  body-agrees : (b : ℕ) → Agreeing (first (body_rows b))
  body-agrees b =
      of_ask Agreeing (in_time bits b) (refused_at BurstTooLong (b + longest_body)) (found (closing bits b) (refused_at Framing (length bits)) (λ c. found (unstuffed (between b c bits)) (refused_at Framing c) (octet_rows c))) refl
      (of_found Agreeing (closing bits b) (refused_at Framing (length bits)) (λ c. found (unstuffed (between b c bits)) (refused_at Framing c) (octet_rows c)) refl
      (λ c. of_found Agreeing (unstuffed (between b c bits)) (refused_at Framing c) (octet_rows c) refl (octets_agree c)))

  pub agrees : Agrees (hears_line bits start).answer.hearing (hears_line bits start).octets
  unfolding hears_line
  agrees = of_found Agreeing (body_start bits start) (quiet_at (length bits)) body_rows refl body-agrees

pub agrees_else : (h : Hearing) (octets : List ℕ) → ((n : ℕ) → h ≡ Frame n → ⊥) → Agrees h octets → octets ≡ []
agrees_else Quiet octets f a = a
agrees_else (Refused r) octets f a = a
agrees_else (Frame n) octets f a = absurd (f n refl)
