use Rattle.std.proofs.Common.{◌≡◌, true, Ok, Err, Result, ap, arith}
use Rattle.std.proofs.lemmas.Bool.{true≢false}
use Rattle.std.specs.Result.{is_ok}
use Rattle.items.specs.declared.types.Fault.{Fault}
use Rattle.items.specs.Reading.{Walk}
use Rattle.items.specs.Walks.{Told}
use Rattle.items.proofs.Steps.{item_forward}
use Rattle.items.proofs.Picks.{pick_in}
use Rattle.items.proofs.fields.map_at.Goals as goal

went_on : {X : Type 0} (r : Result X Fault) (came : Result Walk Fault) (w : Walk) → true ≡ is_ok r → Told r came w → came ≡ Ok w
went_on (Ok x) came w good told = told
went_on (Err e) came w good told = absurd (true≢false good)

pub at-requires : goal.at-requires
at-requires c = pick_in 5 _ _ _ c.in_ok-map_head_at.ensures

pub overflow_sub-span : goal.overflow_sub-span
overflow_sub-span c =
    let on = item_forward _ _ _ _ (went_on c.item.result _ _ c.in_ok-ok.ensures.variant c.item.ensures.is) in
    omega (arith, on, ap (λ r. r.place) c.new-walker.ensures.reader, c.at.ensures.place, ap (λ r. r.place) c.reader.ensures, c.place-behind.ensures.is)
