-- The type alone decides between the two refusals.
use Rattle.std.proofs.Common.{◌≡◌, ℕ, Bool, true, false, cond, ◌||◌, eqb, List, Some, None, Ok, Err, Option, Result, sym, refl, ◌∙◌, subst}
use Rattle.answers.specs.declared.refusal.Refusal.{Refusal}
use Rattle.answers.specs.declared.refusal.Refusal.TheVariants.{UnknownCommand, BadArguments}
use Rattle.items.specs.declared.types.Span.{Span}
use Rattle.commands.specs.declared.types.Track.{Track}
use Rattle.commands.specs.declared.types.Request.{Request}
use Rattle.commands.specs.Orders.{Order, reserved, listed, order_in, listed_type, heartbeat_in, queue_in, suggest_in, remove_in, state_in, seek_in, rate_in, text_order_in, closing, next, previous}
use Rattle.commands.specs.Octets.{arguments_at, answered, request_at}
use Rattle.commands_laws.specs.Laws.{RefusesByType}

-- the refusal of a type that is listed, or is not
abbrev Fits : Bool → Result Request Refusal → Type 0
Fits true r = (e : Refusal) → r ≡ Err e → e ≡ BadArguments
Fits false r = r ≡ Err UnknownCommand

module _ (os : List ℕ) (p : ℕ) where
  examined-fits : (o : Option (Order Track Span)) → Fits true (answered (listed (arguments_at os p) o))
  examined-fits None = λ e is. cc
  examined-fits (Some order) = λ e is. cc

  -- one more type, with its arguments
  one : (b rest : Bool) (o : Option (Order Track Span)) (r : Result (Order Track Span) Refusal) → Fits rest (answered r) → Fits (b || rest) (answered (cond b (listed (arguments_at os p) o) r))
  one true rest o r fits = examined-fits o
  one false rest o r fits = fits

  -- the two whose arguments are not examined, and any other
  last : (a b : Bool) (order : Order Track Span) → Fits (a || b) (answered (cond (a || b) (Ok order) (Err UnknownCommand)))
  last true b order = λ e is. cc
  last false true order = λ e is. cc
  last false false order = refl

  fits_type : (kind : ℕ) → Fits (listed_type kind) (request_at os kind p)
  unfolding request_at order_in
  fits_type kind =
      one (eqb kind 0) _ (heartbeat_in (arguments_at os p)) _
      (one (eqb kind 1) _ (queue_in (arguments_at os p)) _
      (one (eqb kind 2) _ (suggest_in (arguments_at os p)) _
      (one (eqb kind 3) _ (remove_in (arguments_at os p)) _
      (one (eqb kind 10) _ (state_in (arguments_at os p)) _
      (one (eqb kind 11) _ (seek_in (arguments_at os p)) _
      (one (eqb kind 12) _ (rate_in (arguments_at os p)) _
      (one (eqb kind 13) _ (closing (arguments_at os p) 0 0 next) _
      (one (eqb kind 14) _ (closing (arguments_at os p) 0 0 previous) _
      (one (eqb kind 20) _ (text_order_in (arguments_at os p)) _
      (last (eqb kind 30) (eqb kind 31) (reserved kind)))))))))))

-- what fits the test is a refusal by type
by_test : (b : Bool) (kind : ℕ) (r : Result Request Refusal) → listed_type kind ≡ b → Fits b r → RefusesByType kind r
by_test true kind r is fits = record {
  unlisted = λ not. let z : true ≡ false = sym is ∙ not in cc;
  unknown = λ refused. let same : UnknownCommand ≡ BadArguments = fits UnknownCommand refused in cc;
  arguments = λ e _ refused. fits e refused;
}
by_test false kind r is fits = record {
  unlisted = λ _. fits;
  unknown = λ _. is;
  arguments = λ e listed refused. let z : true ≡ false = sym listed ∙ is in cc;
}

pub refuses_by_type : (os : List ℕ) (kind p : ℕ) (r : Result Request Refusal) → r ≡ request_at os kind p → RefusesByType kind r
refuses_by_type os kind p r is = by_test (listed_type kind) kind r refl (subst (λ x. Fits (listed_type kind) x) (sym is) (fits_type os p kind))
