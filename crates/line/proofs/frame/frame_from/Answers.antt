use Rattle.std.proofs.Common.{◌≡◌, ℕ, length, Err, Ok, Result, rules, sym, refl, ap, ◌∙◌, subst, arith}
use Rattle.std.specs.Result.{MatchResult, IsErrAnd}
use Rattle.std.proofs.lemmas.List.{length-take-le}
use Rattle.line.specs.Bits.{bits_in}
use Rattle.line.specs.Hearing.{hears, quiet_at}
use Rattle.line.specs.Scanning.{Reached, flaw}
use Rattle.line.proofs.Answering.{admitted, not_admitted, opened-in, not-heard, heard-empty, heard-flawed, heard_bad, heard-frame}
use Rattle.line.proofs.Places.{length-heard}
use Rattle.line.proofs.frame.frame_from.Goals as goal

-- what was asked, where its refusal was made a flaw
err_told : {T E F : Type 0} (a : Result T E) (r : Result T F) (Q : E → F → Type 0) (f : F) → MatchResult a (λ x. r ≡ Ok x) (λ e. IsErrAnd r (Q e)) → r ≡ Err f → (e : E) × (a ≡ Err e) × Q e f
err_told (Ok x) (Ok y) Q f h e = let z : ◌≡◌ {A = ℕ} 0 1 = cc in absurd (omega arith)
err_told (Ok x) (Err y) Q f h e = let z : ◌≡◌ {A = ℕ} 0 1 = cc in absurd (omega arith)
err_told (Err x) (Ok y) Q f h e = absurd h
err_told (Err x) (Err y) Q f h e = let z : y ≡ f = cc in (x, refl, subst (Q x) z h)

ok_told : {T E F : Type 0} (a : Result T E) (r : Result T F) (Q : E → F → Type 0) (x : T) → MatchResult a (λ x. r ≡ Ok x) (λ e. IsErrAnd r (Q e)) → r ≡ Ok x → a ≡ Ok x
ok_told (Ok y) r Q x h e = let z : y ≡ x = cc in ap (λ t. Ok t) z
ok_told (Err y) (Ok z) Q x h e = absurd h
ok_told (Err y) (Err z) Q x h e = let w : ◌≡◌ {A = ℕ} 0 1 = cc in absurd (omega arith)

pub returns-in_err-map_err : goal.returns-in_err-map_err
returns-in_err-map_err c =
    let t = err_told c.admit.result c.map_err.result _ _ c.map_err.ensures.cases c.in_err-map_err.was in
    let h = not_admitted c.args.burst.now c.args.count c.args.start (length c.args.work.now) t.0 (sym t.1 ∙ c.admit.ensures) in
    let q : c.in_err-map_err.field-0.0 ≡ flaw t.0 c.args.start = search rules in
    let r : c.from_residual.result ≡ Err c.in_err-map_err.field-0.0 = search rules in
    subst (λ x. Reached (hears c.args.burst.now c.args.count c.args.start (length c.args.work.now)) c.args.count c.args.work.now x) (sym (r ∙ ap (λ f. Err f) q)) h

pub returns-in_default : goal.returns-in_default
returns-in_default c =
    let t = ok_told c.admit.result c.map_err.result _ _ c.map_err.ensures.cases c.in_ok-map_err.was in
    let a = admitted c.args.burst.now c.args.count c.args.start (length c.args.work.now) (sym t ∙ c.admit.ensures) in
    a.line ∙ not-heard c.args.burst.now c.args.count c.args.start c.in_default.ensures

pub body_from-requires-clause-order : goal.body_from-requires-clause-order
body_from-requires-clause-order c =
    let o = opened-in c.args.burst.now c.args.count c.args.start c.in-Some.first c.in-Some.ensures in
    o.fits

pub returns-in_err-body : goal.returns-in_err-body
returns-in_err-body c =
    let t = ok_told c.admit.result c.map_err.result _ _ c.map_err.ensures.cases c.in_ok-map_err.was in
    let a = admitted c.args.burst.now c.args.count c.args.start (length c.args.work.now) (sym t ∙ c.admit.ensures) in
    let o = opened-in c.args.burst.now c.args.count c.args.start c.in-Some.first c.in-Some.ensures in
    let h = heard-flawed (bits_in c.args.burst.now c.args.count) c.args.start c.in-Some.first o.at c.in_err-body.field-0.0 (c.in_err-body.ensures o.at.fuel o.enough) in
    let r : c.from_residual-in_err-body.result ≡ Err c.in_err-body.field-0.0 = search rules in
    subst (λ x. Reached (hears c.args.burst.now c.args.count c.args.start (length c.args.work.now)) c.args.count c.body_from.new.work x) (sym r) (a.line ∙ h)

pub returns-in_default-2 : goal.returns-in_default-2
returns-in_default-2 c =
    let t = ok_told c.admit.result c.map_err.result _ _ c.map_err.ensures.cases c.in_ok-map_err.was in
    let a = admitted c.args.burst.now c.args.count c.args.start (length c.args.work.now) (sym t ∙ c.admit.ensures) in
    let o = opened-in c.args.burst.now c.args.count c.args.start c.in-Some.first c.in-Some.ensures in
    let f = rw c.in_default-2.is at c.in_ok-body.ensures o.at.fuel o.enough in
    a.line ∙ heard-empty (bits_in c.args.burst.now c.args.count) c.args.start c.in-Some.first o.at f ∙ ap quiet_at (length-heard c.args.burst.now 0 c.args.count)

pub slice_bounds-has_fcs-end : goal.slice_bounds-has_fcs-end
slice_bounds-has_fcs-end c =
    let o = opened-in c.args.burst.now c.args.count c.args.start c.in-Some.first c.in-Some.ensures in
    let f = rw c.in-Some-2.is at c.in_ok-body.ensures o.at.fuel o.enough in
    f.2.fits

pub slice_bounds-has_fcs-end-2 : goal.slice_bounds-has_fcs-end-2
slice_bounds-has_fcs-end-2 c =
    let o = opened-in c.args.burst.now c.args.count c.args.start c.in-Some.first c.in-Some.ensures in
    let f = rw c.in-Some-2.is at c.in_ok-body.ensures o.at.fuel o.enough in
    sym (length-take-le c.in-Some-2.body.octets c.body_from.new.work f.2.fits)

pub returns-then-not-has_fcs : goal.returns-then-not-has_fcs
returns-then-not-has_fcs c =
    let t = ok_told c.admit.result c.map_err.result _ _ c.map_err.ensures.cases c.in_ok-map_err.was in
    let a = admitted c.args.burst.now c.args.count c.args.start (length c.args.work.now) (sym t ∙ c.admit.ensures) in
    let o = opened-in c.args.burst.now c.args.count c.args.start c.in-Some.first c.in-Some.ensures in
    let f = rw c.in-Some-2.is at c.in_ok-body.ensures o.at.fuel o.enough in
    let h = heard_bad (bits_in c.args.burst.now c.args.count) c.args.start c.in-Some.first o.at c.in-Some-2.body.octets c.in-Some-2.body.place c.body_from.new.work f (sym c.has_fcs.ensures ∙ c.if-not-has_fcs.true) in
    subst (λ x. Reached (hears c.args.burst.now c.args.count c.args.start (length c.args.work.now)) c.args.count c.body_from.new.work (Err x)) (sym c.new.ensures) (a.line ∙ h)

pub returns : goal.returns
returns c =
    let t = ok_told c.admit.result c.map_err.result _ _ c.map_err.ensures.cases c.in_ok-map_err.was in
    let a = admitted c.args.burst.now c.args.count c.args.start (length c.args.work.now) (sym t ∙ c.admit.ensures) in
    let o = opened-in c.args.burst.now c.args.count c.args.start c.in-Some.first c.in-Some.ensures in
    let f = rw c.in-Some-2.is at c.in_ok-body.ensures o.at.fuel o.enough in
    let h = heard-frame (bits_in c.args.burst.now c.args.count) c.args.start c.in-Some.first o.at c.in-Some-2.body.octets c.in-Some-2.body.place c.body_from.new.work f (sym c.has_fcs.ensures ∙ c.if-not-has_fcs.false) in
    (f.2.fits, a.line ∙ h)
