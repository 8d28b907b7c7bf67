-- Released frames are the writer's, and the writer's bursts are judged by their messages.
use Rattle.std.proofs.Common.{◌≡◌, ℕ, ◌+◌, ◌-◌, ◌*◌, Bool, true, false, cond, leb, List, ◌++◌, length, take, Some, None, Ok, Option, sym, refl, ap, ◌∙◌, subst, arith, length-append}
use lib.Seq.{take-append_seam}
use Rattle.std.proofs.lemmas.Bool.{le-leb, and_from, cond-true}
use Rattle.answers.specs.declared.refusal.Refusal.{Refusal}
use Rattle.answers.specs.Questions.{Questions, otherwise, ◌⨟◌, found, first}
use Rattle.line.specs.Bits.{bits_in}
use Rattle.line.specs.Burst.{frame, body_of}
use Rattle.line.specs.Fcs.{tail}
use Rattle.line.specs.declared.heard.Hearing.{Hearing}
use Rattle.line.specs.declared.heard.Hearing.TheVariants as hearing
use Rattle.line.specs.Hearing.{Outcome, admission, in_bounds, work_octets, hears_line, line_questions}
use Rattle.line_laws.specs.Returning.{heard_back}
use Rattle.line_laws.proofs.Passed.{passed-is-sent}
use Rattle.line_laws.proofs.Returned.{sent-is-heard}
use Rattle.message.specs.Parts.{view_of}
use Rattle.message.specs.declared.types.View.{View}
use Rattle.commands.specs.Octets.{request_at}
use Rattle.commands.specs.Release.{allowed}
use Rattle.marks.specs.State.{State}
use Rattle.judging.specs.declared.answer.Answer.{Answer}
use Rattle.judging.specs.declared.answer.Release.{Release}
use Rattle.judging.specs.declared.answer.Verdict.{Verdict}
use Rattle.judging.specs.declared.answer.Verdict.TheVariants.{Quiet, Duplicate, Refused, Released}
use Rattle.judging.specs.Inputs.{Inputs, Conditions}
use Rattle.judging.specs.Frames.{message_in, message_heard, taken}
use Rattle.judging.specs.Questions.{questions, refused, quiet}
use Rattle.judging.specs.Stages.{message_questions, command_questions, field_questions}
use Rattle.judging.proofs.Line.{Says, line_says}
use Rattle.judging.proofs.Judged.{judged-frame}
use Rattle.receiver.specs.Frames.{SentFrame, SentIf, WrittenIsJudged}

-- what holds of every answer in a list of questions
abbrev Every : (Answer → Type 0) → Questions Answer → Type 0
Every P (otherwise a) = P a
Every P (q ⨟ qs) = P q.refusal × Every P qs

first_of : (P : Answer → Type 0) (qs : Questions Answer) → Every P qs → P (first qs)
first_of P (otherwise a) e = e
first_of P (q ⨟ qs) e = chosen q.holds e.0 (first_of P qs e.1)
  where
    chosen : (b : Bool) → P q.refusal → P (first qs) → P (cond b (first qs) q.refusal)
    chosen true here later = later
    chosen false here later = here

every-found : (P : Answer → Type 0) {X : Type 0} (o : Option X) (a : Answer) (rest : X → Questions Answer) → P a → ((x : X) → Every P (rest x)) → Every P (found o a rest)
every-found P None a rest p e = (p, p)
every-found P (Some x) a rest p e = (p, e x)

-- a release's length is the message's, and every answer's next place is the frame's
abbrev LongBy : List ℕ → Verdict → Type 0
LongBy os Quiet = Unit {0}
LongBy os Duplicate = Unit {0}
LongBy os (Refused refusal) = Unit {0}
LongBy os (Released d) = d.length ≡ length os

abbrev OfMessage : List ℕ → ℕ → Answer → Type 0
OfMessage os next a = (a.next ≡ next) × LongBy os a.verdict

module _ (c : Conditions) (s : State) (next : ℕ) (os : List ℕ) where
  command_answers : (v : View) → Every (OfMessage os next) (command_questions c.suspect c.catalog s next os v)
  command_answers v = (
    (refl, tt),
    every-found (OfMessage os next) (taken (request_at os v.cmd.kind v.cmd.args.start)) _ _ (refl, tt)
        (λ request. every-found (OfMessage os next) (allowed c.catalog c.suspect request) _ _ (refl, tt)
        (λ command. ((refl, tt), ((refl, tt), ((refl, tt), (refl, refl)))))),
  )

  field-answers : (v : View) → Every (OfMessage os next) (field_questions c s next os v)
  field-answers v =
      ((refl, tt), ((refl, tt), ((refl, tt), ((refl, tt), ((refl, tt), ((refl, tt), ((refl, tt), ((refl, tt), ((refl, tt), ((refl, tt), command_answers v))))))))))

  message-answers : OfMessage os next (first (message_questions c s next os))
  message-answers =
      first_of (OfMessage os next) (message_questions c s next os)
      ((refl, tt), ((refl, tt), ((refl, tt), every-found (OfMessage os next) (view_of os) _ (field_questions c s next os) (refl, tt) field-answers)))

-- a message is what its frame has in front of the FCS
two : (m : List ℕ) → length (tail m) ≡ 2
unfolding tail
two m = refl

back : (m : List ℕ) → message_in (m ++ tail m) ≡ m
back m =
    let t = two m in
    let l : length (m ++ tail m) - 2 ≡ length m = simp length-append (omega arith) in
    ap (λ (k : ℕ). take k (m ++ tail m)) l ∙ take-append_seam m (tail m)

-- only where the first three questions hold is anything released
refused_not : {X : Type 0} (r : Refusal) (next : ℕ) (d : Release) → (refused r next).verdict ≡ Released d → X
refused_not r next d e = let z : ◌≡◌ {A = ℕ} 0 1 = cc in absurd (omega arith)

reached : (t u w : Bool) (x : Answer) (a b d : Refusal) (next : ℕ) (r : Release) → (cond t (cond u (cond w x (refused a next)) (refused b next)) (refused d next)).verdict ≡ Released r
    → cond t (cond u (cond w x (refused a next)) (refused b next)) (refused d next) ≡ x
reached true true true x a b d next r e = refl
reached true true false x a b d next r e = refused_not a next r e
reached true false w x a b d next r e = refused_not b next r e
reached false u w x a b d next r e = refused_not d next r e

-- the frame that was heard, where its message is released
module _ (i : Inputs) (s : State) (d : Release) where
  abbrev bits : List Bool
  bits = bits_in i.burst i.count

  abbrev follows : ℕ → List ℕ → Questions Answer
  follows next octets = message_questions i.conditions s next (message_in octets)

  abbrev rows : Questions Answer
  rows = line_questions refused quiet bits i.start follows

  quiet_not : {X : Type 0} (next : ℕ) → (quiet next).verdict ≡ Released d → X
  quiet_not next e = let z : ◌≡◌ {A = ℕ} 0 1 = cc in absurd (omega arith)

  record FrameIsHeard (next : ℕ) : Type 0 where
    n : ℕ
    frame : (hears_line bits i.start).answer ≡ record { hearing = hearing.Frame n; next = next }
    long : d.length ≡ length (message_heard i)

  long-at : (a : Answer) (os : List ℕ) → LongBy os a.verdict → a.verdict ≡ Released d → d.length ≡ length os
  long-at a os l e = subst (λ (v : Verdict). LongBy os v) e l

  heard-frame : (h : Hearing) (c : ℕ) → (hears_line bits i.start).answer ≡ record { hearing = h; next = c } → Says follows h c (hears_line bits i.start).octets rows
      → (first rows).verdict ≡ Released d → FrameIsHeard (first rows).next
  heard-frame hearing.Quiet c e says k = quiet_not c (sym (ap (λ (a : Answer). a.verdict) says) ∙ k)
  heard-frame (hearing.Refused r) c e says k = refused_not r c d (sym (ap (λ (a : Answer). a.verdict) says.first) ∙ k)
  heard-frame (hearing.Frame n) c e says k =
      let m = message-answers i.conditions s c (message_heard i) in
      let f = says.first in
      let next : c ≡ (first rows).next = sym m.0 ∙ sym (ap (λ (a : Answer). a.next) f) in
      record {
        n = n;
        frame = e ∙ ap (λ (p : ℕ). record { hearing = hearing.Frame n; next = p }) next;
        long = long-at (first (message_questions i.conditions s c (message_heard i))) (message_heard i) m.1 (sym (ap (λ (a : Answer). a.verdict) f) ∙ k);
      }

  pub sent-frame : (a : Answer) → a ≡ first (questions i s) → a.verdict ≡ Released d → SentFrame i d a.next
  sent-frame a e k =
      let q = reached (leb work_octets i.work) (in_bounds (length i.burst) i.count i.start) s.on (first rows) _ _ _ i.start d (sym (ap (λ (x : Answer). x.verdict) e) ∙ k) in
      let r : a ≡ first rows = e ∙ q in
      let h = heard-frame (hears_line bits i.start).answer.hearing (hears_line bits i.start).answer.next refl (line_says follows bits i.start) (sym (ap (λ (x : Answer). x.verdict) r) ∙ k) in
      let p = passed-is-sent bits i.start h.n (first rows).next h.frame in
      let m : p.message ≡ message_heard i = sym (back p.message) ∙ ap message_in (sym p.octets) in
      let x : SentFrame i d (first rows).next = record { b = p.b; opens = p.opens; closes = p.closes; body = p.body ∙ ap body_of m; long = h.long } in
      subst (λ (y : ℕ). SentFrame i d y) (ap (λ (y : Answer). y.next) (sym r)) x

sent-by : (i : Inputs) (s : State) (a : Answer) (v : Verdict) → a ≡ first (questions i s) → a.verdict ≡ v → SentIf i v a.next
sent-by i s a Quiet e k = tt
sent-by i s a Duplicate e k = tt
sent-by i s a (Refused r) e k = tt
sent-by i s a (Released d) e k = sent-frame i s d a e k

pub sent : (i : Inputs) (s : State) (a : Answer) → a ≡ first (questions i s) → SentIf i a.verdict a.next
sent i s a e = sent-by i s a a.verdict e refl

-- the writer's burst is admitted, heard, and judged by its message
pub written-is-judged : WrittenIsJudged
written-is-judged m old new work c s fit short room w enough on =
    let i : Inputs = record { burst = new; count = length (frame m); start = 0; work = work; conditions = c } in
    let heard = sent-is-heard m old new work fit short room w enough in
    let b = and_from _ _ (le-leb 0 (length (frame m)) (omega arith)) (le-leb (length (frame m)) (8 * length new) (omega arith)) in
    let admits : Ok tt ≡ admission (length new) (length (frame m)) 0 work = sym (cond-true _ _ _ (le-leb work_octets work enough) ∙ cond-true _ _ _ b) in
    let j = judged-frame i s admits on (heard_back m).answer (length m + 2) (sym (ap (λ (o : Outcome). o.answer) heard)) refl in
    let os : message_heard i ≡ m = j.message ∙ ap (λ (o : Outcome). message_in o.octets) heard ∙ back m in
    j.first ∙ ap (λ (x : List ℕ). first (message_questions c s (length (frame m) - 8) x)) os
