-- What is asked of a message and handed on of it, for the fields that its octets encode.
use Rattle.std.proofs.Common.{◌≡◌, ℕ, List}
use Rattle.items.specs.Trees.{encoding}
use Rattle.message.specs.declared.types.View.{View}
use Rattle.message.specs.Checks.{echo_matches, signature_length_fits, signature_of, transcript_of}
use Rattle.message.specs.Fields.{unsigned_tree, Sizes, echo_in, Echoes, SignatureFits}
use Rattle.message.specs.Sizes.{sizes_fit}
use Rattle.message_laws.specs.Laws.{OfFields}
use Rattle.message_laws.proofs.Exactly.{of_fields}
use Rattle.message_laws.proofs.Checking.{echo-law, signature-law, length-law}
use Rattle.message_laws.proofs.Sizing.{sizes_law}
use Rattle.message_laws.proofs.Splices.{transcript_law}

pub transcript_means : (os : List ℕ) (v : View) → OfFields os v (λ f. transcript_of os v ≡ encoding (unsigned_tree f))
transcript_means os v f ok e is = transcript_law os v f e (of_fields os v f ok e is).laid

pub signature_means : (os : List ℕ) (v : View) → OfFields os v (λ f. signature_of os v ≡ f.signature)
signature_means os v f ok e is = signature-law os v f (of_fields os v f ok e is).shows

pub echo_means : (os : List ℕ) (v : View) → OfFields os v (λ f. echo_matches os v ≡ Echoes (echo_in f.meta) f.ctx)
echo_means os v f ok e is = echo-law os v f (of_fields os v f ok e is).shows

pub length_means : (os : List ℕ) (v : View) → OfFields os v (λ f. signature_length_fits v ≡ SignatureFits f)
length_means os v f ok e is = length-law os v f (of_fields os v f ok e is).shows

pub sizes_means : (os : List ℕ) (v : View) → OfFields os v (λ f. sizes_fit os v ≡ Sizes f)
sizes_means os v f ok e is = let o = of_fields os v f ok e is in sizes_law os v f ok e o.shows o.laid
