use Rattle.std.proofs.Common.{◌<◌, ◌≤◌, length, Ok, sym, refl, ap, ◌∙◌, subst, rules, ◌≡◌, List, ℕ, Bool, arith}
use Rattle.line.specs.Burst.{frame, octet_count, Written}
use Rattle.line.proofs.Whole.{tail_of, frame_of, writing-short, writing-done}
use Rattle.line.proofs.burst.write.Goals as goal

sent-whole : {old new end : List ℕ} {bits bits' : List Bool} → bits ≡ bits' → end ≡ new → Written bits old new → Written bits' old end
sent-whole {old} {new} {end} {bits} {bits'} e f w = subst (λ b. Written b old end) e (rw f w)

pub returns-then-div_ceil-out : goal.returns-then-div_ceil-out
returns-then-div_ceil-out c =
    let d = c.div_ceil.ensures in
    let t = tail_of c.args.message.now _ c.fcs.result c.to_le_bytes-tail.ensures c.fcs.ensures in
    let f = ap length (frame_of c.args.message.now _ t) in
    let v = c.frame_length-count.ensures in
    let l : length c.args.out.now < octet_count (length (frame c.args.message.now)) = omega arith in
    record { answer = sym (writing-short c.args.message.now (length c.args.out.now) c.if-message-gt-LONGEST_MESSAGE.false l); output = refl }

pub returns : goal.returns
returns c =
    let d = c.div_ceil.ensures in
    let t = tail_of c.args.message.now _ c.fcs.result c.to_le_bytes-tail.ensures c.fcs.ensures in
    let e = frame_of c.args.message.now _ t in
    let f = ap length e in
    let v = c.frame_length-count.ensures in
    let l : octet_count (length (frame c.args.message.now)) ≤ length c.args.out.now = omega arith in
    record {
      answer = ap (λ n. Ok n) (v ∙ f) ∙ sym (writing-done c.args.message.now (length c.args.out.now) c.if-message-gt-LONGEST_MESSAGE.false l);
      output = sent-whole e (search rules) (c.send-written.ensures.written (omega arith));
    }
