use Rattle.std.proofs.Common.{◌∙◌, [], ◌∷◌}
use Rattle.sha256.specs.Sha256.{digest_octets, octets_of32}
use Rattle.sha256.proofs.Writing.{words_octets}
use Rattle.sha256.proofs.stream.octets_of.Goals as goal

pub returns : goal.returns
unfolding digest_octets octets_of32
returns c =
    c.copy_from_slice.ensures.after ∙ c.as_flattened.ensures.value
    ∙ words_octets (c.args.v.a ∷ c.args.v.b ∷ c.args.v.c ∷ c.args.v.d ∷ c.args.v.e ∷ c.args.v.f ∷ c.args.v.g ∷ c.args.v.h ∷ []) c.map.result c.map.ensures.items.long
    (λ i l. let call = c.map.ensures.items.at i 0 [] l in call.2.met)
