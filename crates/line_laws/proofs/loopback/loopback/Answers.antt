use Rattle.std.proofs.Common.{◌<◌, ◌≤◌, ◌++◌, length, Ok, rules, sym, ap, ◌∙◌, arith}
use Rattle.std.proofs.ByRecursion.{All-from_get_or}
use Rattle.line.specs.Burst.{frame, octet_count}
use Rattle.line.specs.Fcs.{tail}
use Rattle.line.specs.Hearing.{Outcome, hears, laid}
use Rattle.line_laws.specs.Passing.{FlagsTold}
use Rattle.line_laws.proofs.Openings.{opening_told}
use Rattle.line_laws.proofs.Firsts.{closing-told}
use Rattle.line_laws.proofs.Unstuffed.{unstuffing_told}
use Rattle.line_laws.proofs.Residues.{checking_told}
use Rattle.line_laws.proofs.Passed.{passed-is-sent}
use Rattle.line_laws.proofs.Returned.{sent-is-heard, wrote}
use Rattle.line_laws.proofs.loopback.loopback.Goals as goal

flags-told : FlagsTold
flags-told bits start b = (opening_told bits start b, closing-told bits start b)

pub returns-in_err-count : goal.returns-in_err-count
returns-in_err-count c =
    record {
      loops = search rules;
      heard = sent-is-heard;
      passed = passed-is-sent;
      flags = flags-told;
      stuffing = unstuffing_told;
      residue = checking_told;
    }

pub returns : goal.returns
returns c =
    let w = wrote c.args.message.now (length c.args.burst.now) c.in_ok-count.count c.in_ok-count.ensures.answer in
    let k = c.write.auto.out in
    let fits = w.fits in
    let room : octet_count (length (frame c.args.message.now)) ≤ length c.write.new.out = omega arith in
    let fit = All-from_get_or (λ o. o < 256) c.args.message.now 0 (λ i h. (c.type_inv.message i).fits) in
    let back = λ (enough : 16500 ≤ length c.args.work.now).
    ap (λ n. hears c.write.new.out n 0 (length c.args.work.now)) w.count
    ∙ sent-is-heard c.args.message.now c.args.burst.now c.write.new.out (length c.args.work.now) fit w.short room c.in_ok-count.ensures.output enough in
    record {
      loops = (
        sym c.in_ok-count.ensures.answer ∙ ap (λ n. Ok n) w.count,
        c.in_ok-count.ensures.output,
        λ enough.
            record {
              answer = c.hear.ensures.answer ∙ ap (λ (o : Outcome). o.answer) (back enough);
              octets = c.hear.ensures.work ∙ ap (λ (o : Outcome). laid (length c.args.work.now) o.octets) (back enough) ∙ ap (λ n. laid n (c.args.message.now ++ tail c.args.message.now)) (sym c.hear.auto.work);
            },
      );
      heard = sent-is-heard;
      passed = passed-is-sent;
      flags = flags-told;
      stuffing = unstuffing_told;
      residue = checking_told;
    }
