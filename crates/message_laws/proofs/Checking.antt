-- What is asked of a message, on its fields.
use Rattle.std.proofs.Common.{◌≡◌, ℕ, eqb, List, Some, None, Option, refl, ap, ◌∙◌}
use Rattle.std.specs.Str.{bytes_eq}
use Rattle.items.specs.declared.types.Span.{Span}
use Rattle.items.specs.Heads.{part}
use Rattle.items_laws.specs.Exact.{Spot}
use Rattle.items_laws.proofs.Written.{at_part}
use Rattle.message.specs.declared.types.Meta.{Meta}
use Rattle.message.specs.declared.types.View.{View}
use Rattle.message.specs.Checks.{held, is_context, echoed, echo_of, echo_matches, signature_length, signature_length_fits, signature_of}
use Rattle.message.specs.Fields.{Fields, echo_in, is_given, Echoes, SignatureFits}
use Rattle.message_laws.specs.Shows.{Both, MetaShows, Shows}

held-is : (os : List ℕ) (s : Span) (bs : List ℕ) → Spot os s bs → held os s ≡ bs
held-is os s bs spot = ap (part os s.start) spot.long ∙ at_part os s.start bs spot.there

context_law : (os echo : List ℕ) (c : Option Span) (ctx : Option (List ℕ)) → Both (Spot os) c ctx → is_context os echo c ≡ is_given echo ctx
context_law os echo None None b = refl
context_law os echo (Some s) (Some bs) b = ap (bytes_eq echo) (held-is os s bs b)
context_law os echo None (Some bs) b = absurd b
context_law os echo (Some s) None b = absurd b

echoed-law : (os : List ℕ) (e : Option Span) (echo : Option (List ℕ)) (c : Option Span) (ctx : Option (List ℕ)) → Both (Spot os) e echo → Both (Spot os) c ctx → echoed os e c ≡ Echoes echo ctx
echoed-law os None None c ctx b d = refl
echoed-law os (Some s) (Some bs) c ctx b d = ap (λ x. is_context os x c) (held-is os s bs b) ∙ context_law os bs c ctx d
echoed-law os None (Some bs) c ctx b d = absurd b
echoed-law os (Some s) None c ctx b d = absurd b

echo-shown : (os : List ℕ) (m : Option Meta) (meta : Option (Option (List ℕ))) → Both (MetaShows os) m meta → Both (Spot os) (echo_of m) (echo_in meta)
echo-shown os None None b = tt
echo-shown os (Some m) (Some echo) b = b.echo
echo-shown os None (Some echo) b = absurd b
echo-shown os (Some m) None b = absurd b

pub echo-law : (os : List ℕ) (v : View) (f : Fields) → Shows os v f → echo_matches os v ≡ Echoes (echo_in f.meta) f.ctx
echo-law os v f s = echoed-law os (echo_of v.meta) (echo_in f.meta) v.auth.ctx f.ctx (echo-shown os v.meta f.meta s.meta) s.ctx

pub signature-law : (os : List ℕ) (v : View) (f : Fields) → Shows os v f → signature_of os v ≡ f.signature
signature-law os v f s = held-is os v.auth.signature f.signature s.signature

pub length-law : (os : List ℕ) (v : View) (f : Fields) → Shows os v f → signature_length_fits v ≡ SignatureFits f
length-law os v f s = λ i. eqb (s.signature.long i) (signature_length (s.alg i))
