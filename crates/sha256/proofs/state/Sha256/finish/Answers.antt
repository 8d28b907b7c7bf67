use Rattle.std.proofs.Common.{◌≡◌, ◌-◌, ◌%◌, length, replicate, ap, ◌∙◌, arith}
use Rattle.sha256.specs.Sha256.{octets_of64}
use Rattle.sha256.proofs.Absorbing.{finished, zeros_of}
use Rattle.sha256.proofs.Exact.{digest_length}
use Rattle.sha256.proofs.state.Sha256.finish.Goals as goal

pub returns : goal.returns
unfolding octets_of64
returns c = record {
  length = ap length c.octets_of.ensures ∙ digest_length c.update-3.new.self.hash;
  is = λ seen h.
      let zeros : (119 - c.len.result) % 64 ≡ (119 - length c.args.self.part.items) % 64 = ap (λ n. (119 - n) % 64) c.len.ensures.value in
      c.octets_of.ensures
      ∙ finished c.args.self c.update-3.new.self seen _ c.to_be_bytes-bits.result (omega arith) (omega arith) c.to_be_bytes-bits.ensures (zeros_of _ (omega arith) ∙ ap (λ n. replicate n 0) zeros) h
      (c.update-3.ensures _ (c.update-2.ensures _ (c.update.ensures seen h)));
}
