use mathlib.Core.Path.{refl, ◌∙◌}
use Rattle.sha256.specs.Sha256.{sha256_of, digest_octets, hashed, compressed, sums, rounds, round, t1_of, t2_of, scheduled, next_word, initial, block_of, word_of, padded, octets_of64, octets_of32, octets_of_words, constants, sigma0, sigma1, big_sigma0, big_sigma1, Ch, Maj, ROTR, SHR, complement, ◌⊞◌}
use Rattle.sha256_vectors.proofs.digest_of_two_blocks.Goals as goal

pub returns : goal.returns
unfolding sha256_of digest_octets hashed compressed sums rounds round t1_of t2_of scheduled next_word initial block_of word_of padded octets_of64 octets_of32 octets_of_words constants sigma0 sigma1 big_sigma0 big_sigma1 Ch Maj ROTR SHR complement ◌⊞◌
returns c = c.digest.ensures.is ∙ refl
