use Rattle.std.proofs.Common.{◌≡◌, ◌++◌, ◌∙◌, length, refl, rules}
use Rattle.sha256.proofs.Absorbing.{holds-part, holds-whole}
use Rattle.sha256.proofs.state.Sha256.take_part.Goals as goal

pub returns-in-Ok : goal.returns-in-Ok
returns-in-Ok c = λ seen h.
    let put : c.try_extend_from_slice.new.self.items ≡ c.args.self.now.part.items ++ c.args.octets.now = search rules in
    let same : c.in-Ok.block.now ≡ c.as_slice.result.now = c.in-Ok.ensures.1.same in
    let long : length c.in-Ok.block.now ≡ 64 = search rules in
    holds-whole c.args.self.now _ seen c.args.octets.now c.in-Ok.block.now long (same ∙ c.as_slice.ensures.value ∙ put) c.clear.ensures refl c.compress-self.ensures h

pub returns-in_default : goal.returns-in_default
returns-in_default c = λ seen h.
    let put : c.try_extend_from_slice.new.self.items ≡ c.args.self.now.part.items ++ c.args.octets.now = search rules in
    holds-part c.args.self.now _ seen c.args.octets.now put refl refl h
